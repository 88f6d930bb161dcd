-- The numbers of modules with one module more, and which names have one.
use Rattle.std.proofs.Common.{◌≡◌, ℕ, ◌+◌, List, [], ◌∷◌, ◌++◌, Bool, true, false, cond, length, map, take, get_or, ◌<◌, ◌≤◌, refl, sym, ap, ◌∙◌, add-one}
use Rattle.std.specs.Prelude.{Option, Some, None, is_some, option_map}
use Rattle.std.specs.Option.{option_or}
use Rattle.std.specs.BTreeMap.{BTreeMap, get}
use Rattle.std.specs.BTreeMap as tree
use Rattle.std.specs.Cmp.Lexicographic.{slice_cmp}
use Rattle.std.specs.Ordering.{nat_cmp}
use Rattle.std.specs.Str.{bytes_eq}
use Rattle.std.proofs.lemmas.Map.Text.{is_eq-slice_cmp}
use Rattle.std.proofs.lemmas.List.{map_more, map-append, length-map, length-take-le}
use Rattle.fir_base.proofs.SameNames.{name_is}
use Rattle.fir_ast.specs.declared.circuit.Module.{Module}
use Rattle.fir_ast.specs.Circuits.{ModuleTree}
use Rattle.fir_ast.specs.working.Views.{module_of, named_of}
use Rattle.fir_ast.specs.Statements.{PlacedName}
use Rattle.fir_ast.specs.Faults.{Fault}
use Rattle.fir_pass.specs.Groups.{first_of}
use Rattle.fir_meaning.specs.Components.{find_name}
use Rattle.fir_meaning.specs.NameGroups.{absent_faults, no_module}
use Rattle.fir_names.specs.working.ModuleOrder.{find_number}
use Rattle.fir_names.specs.working.Numbered.{HasNumbers, names_of}
use Rattle.fir_names.proofs.LookUps.{found_before, found_last, map_last, or_cond}

pub find_number_last : (ns : List PlacedName) (n : PlacedName) (name : List ℕ)
    → find_number (ns ++ n ∷ []) name ≡ option_or (find_number ns name) (cond (bytes_eq n.name name) (Some (length ns)) None)
find_number_last [] n name = refl
find_number_last (x ∷ ns) n name =
    let same : Bool = bytes_eq n.name name in
    ap (λ o. cond (bytes_eq x.name name) (Some 0) (option_map (λ k. k + 1) o)) (find_number_last ns n name)
    ∙ ap (cond (bytes_eq x.name name) (Some 0)) (map_last (λ k. k + 1) same (length ns) (find_number ns name))
    ∙ ap (λ k. cond (bytes_eq x.name name) (Some 0) (option_or (option_map (λ k. k + 1) (find_number ns name)) (cond same (Some k) None))) (add-one (length ns))
    ∙ or_cond (bytes_eq x.name name) 0 (option_map (λ k. k + 1) (find_number ns name)) (cond same (Some (length (x ∷ ns))) None)

-- one module more, whose name has a number already or has none
pub numbers_kept : (numbers : BTreeMap (List ℕ) ℕ) (ns : List PlacedName) (n : PlacedName) → is_some (get (slice_cmp nat_cmp) numbers n.name) ≡ true
    → HasNumbers numbers ns → HasNumbers numbers (ns ++ n ∷ [])
numbers_kept numbers ns n known h = record {
  each = λ q.
      let there : bytes_eq n.name q ≡ true → is_some (get (slice_cmp nat_cmp) numbers q) ≡ true =
      λ e. ap (λ m. is_some (get (slice_cmp nat_cmp) numbers m)) (sym (name_is n.name q e)) ∙ known in
      found_before (bytes_eq n.name q) (length ns) (get (slice_cmp nat_cmp) numbers q) (find_number ns q) there (h.each q) ∙ sym (find_number_last ns n q);
}

pub numbers_more : (old new : BTreeMap (List ℕ) ℕ) (ns : List PlacedName) (n : PlacedName) (number : ℕ)
    → tree.Updates (slice_cmp nat_cmp) old new n.name (Some number) → number ≡ length ns → None ≡ get (slice_cmp nat_cmp) old n.name
    → HasNumbers old ns → HasNumbers new (ns ++ n ∷ [])
numbers_more old new ns n number u counted none h = record {
  each = λ q.
      let under : Option ℕ = get (slice_cmp nat_cmp) old q in
      let missing : bytes_eq n.name q ≡ true → None ≡ under = λ e. none ∙ ap (get (slice_cmp nat_cmp) old) (name_is n.name q e) in
      u.0 q ∙ ap (λ b. cond b (Some number) under) (is_eq-slice_cmp n.name q)
      ∙ ap (λ k. cond (bytes_eq n.name q) (Some k) under) counted
      ∙ found_last (bytes_eq n.name q) (length ns) under (find_number ns q) missing (h.each q) ∙ sym (find_number_last ns n q);
}

-- the names of the first modules, with the next one's
pub names_more : (modules : List Module) (i : ℕ) (m : Module) → i < length modules → m ≡ get_or modules i m
    → names_of (map module_of (take (i + 1) modules)) ≡ names_of (map module_of (take i modules)) ++ named_of m.ident ∷ []
names_more modules i m within at =
    ap names_of (map_more module_of modules i m within)
    ∙ map-append (λ (x : ModuleTree). x.named) (map module_of (take i modules)) (module_of (get_or modules i m) ∷ [])
    ∙ ap (λ x. names_of (map module_of (take i modules)) ++ named_of x.ident ∷ []) (sym at)

pub names_count : (modules : List Module) (i : ℕ) → i ≤ length modules → i ≡ length (names_of (map module_of (take i modules)))
names_count modules i within =
    sym (length-map (map module_of (take i modules)) (λ (x : ModuleTree). x.named) ∙ length-map (take i modules) module_of ∙ length-take-le i modules within)

-- a name has a number where a module has it
some_step : {A B : Type 0} (b : Bool) (x : A) (y : B) (f : A → A) (o : Option A) (p : Option B) → is_some o ≡ is_some p
    → is_some (cond b (Some x) (option_map f o)) ≡ is_some (cond b (Some y) p)
some_step true x y f o p same = refl
some_step false x y f None p same = same
some_step false x y f (Some z) p same = same

pub has_number : (ns : List PlacedName) (name : List ℕ) → is_some (find_number ns name) ≡ is_some (find_name ns name)
has_number [] name = refl
has_number (n ∷ ns) name = some_step (bytes_eq n.name name) 0 n (λ k. k + 1) (find_number ns name) (find_name ns name) (has_number ns name)

-- E10, or none
pub main_there : (found : Option PlacedName) (n : PlacedName) → is_some found ≡ true → None ≡ first_of (absent_faults found n)
main_there None n there = absurd (cc)
main_there (Some m) n there = refl

pub main_absent : (found : Option PlacedName) (n : PlacedName) (x : Fault) → is_some found ≡ false → x ≡ no_module n.place n.name
    → Some x ≡ first_of (absent_faults found n)
main_absent None n x absent is = ap Some is
main_absent (Some m) n x absent is = absurd (cc)
