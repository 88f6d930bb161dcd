-- What a tick writes to one name, beside what it writes to others.
use Rattle.std.proofs.Common.{◌≡◌, ℕ, List, [], ◌∷◌, ◌++◌, Bool, true, false, if◌then◌else◌, map, flat_map, refl, sym, ap, ◌∙◌, inl, inr, subst}
use Rattle.std.specs.Prelude.{filter, slice_set}
use Rattle.std.specs.List.{list_all}
use Rattle.std.specs.Str.{bytes_eq}
use Rattle.std.proofs.lemmas.List.Concat.{flat_map-append}
use Rattle.std.proofs.lemmas.List.Elements.{filter-append}
use Rattle.std.proofs.lemmas.List.Folds.{list_all-append}
use Rattle.fir_base.specs.Lists.{In, Distinct}
use Rattle.fir_base.specs.Ticks.{Env}
use Rattle.fir_base.proofs.Members.{in_flat_map_from, in_map}
use Rattle.fir_base.proofs.SameNames.{name_other}
use Rattle.ver_ast.specs.Nets.{SizedNet, AlwaysBlock}
use Rattle.ver_ast.specs.Next.{Put, acts, puts, put_one, put_all}
use Rattle.ver_ast.specs.Stores.{Store}
use Rattle.ver_build.proofs.Written.{all_written}

pub put_behind : (ps qs : List Put) (s : Store) (n : List ℕ) → put_all (ps ++ qs) s n ≡ put_all qs (put_all ps s) n
put_behind [] qs s n = refl
put_behind (p ∷ ps) qs s n = put_behind ps qs (put_one p s) n

-- what goes to other names leaves the words of a name
pub put_apart : (ps : List Put) (s : Store) (n : List ℕ) → ((q : Put) → In ps q → q.name ≡ n → ⊥) → put_all ps s n ≡ s n
put_apart [] s n h = refl
put_apart (p ∷ ps) s n h =
    let other : bytes_eq p.name n ≡ false = name_other p.name n (h p (inl refl)) in
    let one : put_one p s n ≡ s n = rw other refl in
    put_apart ps (put_one p s) n (λ q m. h q (inr m)) ∙ one

-- the words of a name hang on no other words
pub put_same : (ps : List Put) (s u : Store) (n : List ℕ) → s n ≡ u n → put_all ps s n ≡ put_all ps u n
put_same [] s u n e = e
put_same (p ∷ ps) s u n e =
    put_same ps (put_one p s) (put_one p u) n (ap (λ (xs : List ℕ). if bytes_eq p.name n then slice_set xs p.place p.word else xs) e)

-- where each of many writes to its own name, a name has what its own writes leave
pub one_of_many : (puts_of : ℕ → List Put) (name : ℕ → List ℕ) (ks : List ℕ) → Distinct (map name ks)
    → ((m : ℕ) → In ks m → (q : Put) → In (puts_of m) q → q.name ≡ name m) → (k : ℕ) → In ks k → (s : Store)
    → put_all (flat_map puts_of ks) s (name k) ≡ put_all (puts_of k) s (name k)
one_of_many puts_of name [] once own k m s = absurd m
one_of_many puts_of name (j ∷ ks) once own k (inl e) s =
    subst (λ (i : ℕ). put_all (flat_map puts_of (j ∷ ks)) s (name i) ≡ put_all (puts_of i) s (name i)) e
    (put_behind (puts_of j) (flat_map puts_of ks) s (name j)
    ∙ put_apart (flat_map puts_of ks) (put_all (puts_of j) s) (name j)
    (λ q m same.
    let f = in_flat_map_from puts_of ks q m in
    once.0 (subst (In (map name ks)) (sym (own f.0 (inr f.1) q f.2) ∙ same) (in_map name ks f.0 f.1))))
one_of_many puts_of name (j ∷ ks) once own k (inr i) s =
    put_behind (puts_of j) (flat_map puts_of ks) s (name k)
    ∙ one_of_many puts_of name ks once.1 (λ m n. own m (inr n)) k i (put_all (puts_of j) s)
    ∙ put_same (puts_of k) (put_all (puts_of j) s) s (name k)
    (put_apart (puts_of j) s (name k)
    (λ q m same. once.0 (subst (In (map name ks)) (sym same ∙ own j (inl refl) q m) (in_map name ks k i))))

pub within_parts : {A : Type 0} → (test : Put → Bool) (f : A → List Put) (xs : List A) → ((x : A) → In xs x → list_all test (f x) ≡ true)
    → list_all test (flat_map f xs) ≡ true
within_parts test f [] h = refl
within_parts test f (x ∷ xs) h =
    let first = h x (inl refl) in
    let rest = within_parts test f xs (λ y m. h y (inr m)) in
    list_all-append test (f x) (flat_map f xs) ∙ rw (first, rest) refl

module _ (ns : List SizedNet) (f : Env) (named : List ℕ) where
  pub written_joined : (xs ys : List AlwaysBlock) → all_written ns f named (xs ++ ys) ≡ all_written ns f named xs ++ all_written ns f named ys
  written_joined xs ys =
      ap (flat_map (puts ns f)) (filter-append (acts named f) xs ys)
      ∙ flat_map-append (puts ns f) (filter (acts named f) xs) (filter (acts named f) ys)

  pub written_parts : (blocks : ℕ → List AlwaysBlock) (ks : List ℕ) → all_written ns f named (flat_map blocks ks) ≡ flat_map (λ k. all_written ns f named (blocks k)) ks
  written_parts blocks [] = refl
  written_parts blocks (k ∷ ks) =
      written_joined (blocks k) (flat_map blocks ks)
      ∙ ap (λ (ps : List Put). all_written ns f named (blocks k) ++ ps) (written_parts blocks ks)
