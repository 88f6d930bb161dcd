-- The entries of declarations: how many they are, with one declaration more, and under a name.
use Rattle.std.proofs.Common.{◌≡◌, ℕ, suc, ◌+◌, List, [], ◌∷◌, ◌++◌, map, length, Bool, true, false, cond, Option, Some, None, refl, sym, ap, ◌∙◌, inl, inr, arith}
use Rattle.std.specs.Option.{option_or}
use Rattle.std.specs.Str.{bytes_eq}
use Rattle.fir_base.specs.Lists.{In}
use Rattle.fir_base.proofs.SameNames.{name_same}
use Rattle.fir_ast.specs.Statements.{PlacedName}
use Rattle.fir_ast.specs.Faults.{Fault}
use Rattle.fir_pass.specs.Groups.{first_of}
use Rattle.fir_meaning.specs.Components.{Declaration, Declarations, find, find_name}
use Rattle.fir_meaning.specs.NameGroups.{twice, second_faults}
use Rattle.fir_names.specs.declared.declaration.Declaration.{Declaration as Entry}
use Rattle.fir_names.specs.working.Tabulated.{entry_of, entries_from, entry_named}
use Rattle.fir_names.proofs.LookUps.{or_cond}

pub length_entries : (modules : List PlacedName) (i : ℕ) (ds : Declarations) → length (entries_from modules i ds) ≡ length ds
length_entries modules i [] = refl
length_entries modules i (d ∷ ds) = ap suc (length_entries modules (suc i) ds)

pub entries_more : (modules : List PlacedName) (i j : ℕ) (ds : Declarations) (d : Declaration) → i + length ds ≡ j
    → entries_from modules i (ds ++ d ∷ []) ≡ entries_from modules i ds ++ entry_of modules j d ∷ []
entries_more modules i j [] d e = let same : i ≡ j = omega arith in ap (λ k. entry_of modules k d ∷ []) same
entries_more modules i j (x ∷ ds) d e = ap (λ es. entry_of modules i x ∷ es) (entries_more modules (suc i) j ds d (omega arith))

-- where the first of two is not chosen, and the second is none
passed_over : {A : Type 0} (b : Bool) (x : A) (o : Option A) → cond b (Some x) o ≡ None → (b ≡ false) × (o ≡ None)
passed_over true x o h = absurd (cc)
passed_over false x o h = (refl, h)

-- what stands under a name with one declaration more
pub entry_last : (modules : List PlacedName) (i j : ℕ) (ds : Declarations) (d : Declaration) (n : List ℕ) → i + length ds ≡ j
    → entry_named modules i (ds ++ d ∷ []) n ≡ option_or (entry_named modules i ds n) (cond (bytes_eq d.named.name n) (Some (entry_of modules j d)) None)
entry_last modules i j [] d n e =
    let at : i ≡ j = omega arith in ap (λ k. cond (bytes_eq d.named.name n) (Some (entry_of modules k d)) None) at
entry_last modules i j (x ∷ ds) d n e =
    ap (cond (bytes_eq x.named.name n) (Some (entry_of modules i x))) (entry_last modules (suc i) j ds d n (omega arith))
    ∙ or_cond (bytes_eq x.named.name n) (entry_of modules i x) (entry_named modules (suc i) ds n)
    (cond (bytes_eq d.named.name n) (Some (entry_of modules j d)) None)

-- a name that is not declared has no entry
pub not_entered : (modules : List PlacedName) (i : ℕ) (ds : Declarations) (n : List ℕ) → find ds n ≡ None → entry_named modules i ds n ≡ None
not_entered modules i [] n none = refl
not_entered modules i (d ∷ ds) n none =
    let h = passed_over (bytes_eq d.named.name n) d (find ds n) none in
    ap (λ b. cond b (Some (entry_of modules i d)) (entry_named modules (suc i) ds n)) h.0 ∙ not_entered modules (suc i) ds n h.1

-- a name that is found is one of the names, and a name of no entry is declared nowhere
pub found_name : (ds : Declarations) (n : List ℕ) → In (map (λ d. d.named.name) ds) n → find ds n ≡ None → ⊥
found_name [] n m none = m
found_name (d ∷ ds) n (inl e) none =
    let here : bytes_eq d.named.name n ≡ true = ap (bytes_eq d.named.name) (sym e) ∙ name_same d.named.name in
    let h = passed_over (bytes_eq d.named.name n) d (find ds n) none in
    let apart : true ≡ false = sym here ∙ h.0 in cc
found_name (d ∷ ds) n (inr m) none = found_name ds n m (passed_over (bytes_eq d.named.name n) d (find ds n) none).1

unnamed_step : (b : Bool) (p : PlacedName) (x : Declaration) (o : Option PlacedName) (q : Option Declaration) → (o ≡ None → q ≡ None)
    → cond b (Some p) o ≡ None → cond b (Some x) q ≡ None
unnamed_step true p x o q rest h = absurd (cc)
unnamed_step false p x o q rest h = rest h

pub unnamed : (ds : Declarations) (n : List ℕ) → find_name (map (λ d. d.named) ds) n ≡ None → find ds n ≡ None
unnamed [] n none = refl
unnamed (d ∷ ds) n none =
    unnamed_step (bytes_eq d.named.name n) d.named d (find_name (map (λ d. d.named) ds) n) (find ds n) (unnamed ds n) none

-- what a second declaration shows, by the entry of the first
abbrev pub second_by_entry : Option Entry → PlacedName → List Fault
second_by_entry None n = []
second_by_entry (Some e) n = twice n.place n.name e.place ∷ []

second_step : (b : Bool) (p : PlacedName) (e : Entry) (o : Option PlacedName) (q : Option Entry) (n : PlacedName) → p.place ≡ e.place
    → second_faults o n ≡ second_by_entry q n → second_faults (cond b (Some p) o) n ≡ second_by_entry (cond b (Some e) q) n
second_step true p e o q n place rest = ap (λ at. twice n.place n.name at ∷ []) place
second_step false p e o q n place rest = rest

pub second_is : (modules : List PlacedName) (i : ℕ) (ds : Declarations) (n : PlacedName)
    → second_faults (find_name (map (λ d. d.named) ds) n.name) n ≡ second_by_entry (entry_named modules i ds n.name) n
second_is modules i [] n = refl
second_is modules i (d ∷ ds) n =
    second_step (bytes_eq d.named.name n.name) d.named (entry_of modules i d) (find_name (map (λ d. d.named) ds) n.name)
    (entry_named modules (suc i) ds n.name) n refl (second_is modules (suc i) ds n)

-- what the code tells of an entry is what a second declaration shows, and so is nothing of none
pub told_by_entry : (o : Option Entry) (e : Entry) (n : PlacedName) → Some e ≡ o → Some (twice n.place n.name e.place) ≡ first_of (second_by_entry o n)
told_by_entry None e n is = absurd (cc)
told_by_entry (Some x) e n is = let same : e ≡ x = cc in ap (λ y. Some (twice n.place n.name y.place)) same

pub none_by_entry : (o : Option Entry) (n : PlacedName) → None ≡ o → None ≡ first_of (second_by_entry o n)
none_by_entry None n is = refl
none_by_entry (Some x) n is = absurd (cc)

-- where no fault is told of it, a name is not declared
pub not_second : (o : Option PlacedName) (n : PlacedName) → None ≡ first_of (second_faults o n) → o ≡ None
not_second None n none = refl
not_second (Some p) n none = absurd (cc)
