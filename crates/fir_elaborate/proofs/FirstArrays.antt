-- Among the arrays of a module, the first from a declaration on: those before it are of earlier declarations, and those from it on of that or later ones.
use Rattle.std.proofs.Common.{◌≡◌, ℕ, zero, suc, ◌+◌, ◌<◌, ◌≤◌, Bool, true, false, nat_lt, length, get_or, map, List, refl, sym, ap, ◌∙◌, arith, subst, ⊎_elim}
use Rattle.std.specs.Prelude.{if◌then◌else◌}
use Rattle.std.proofs.lemmas.Bool.{cases_lt, le-ltb, lt-ltb, ltb-false, ltb-true}
use Rattle.std.proofs.lemmas.List.{get_or-map}
use Rattle.fir_meaning.specs.working.LeafModules.{LeafArray, LeafModule}
use Rattle.fir_leaf.specs.working.DesignStates.{array_at, no_array}
use Rattle.fir_elaborate.specs.working.Walks.{first_from}

module _ (m : LeafModule) (declaration : ℕ) where
  abbrev ds : List ℕ
  ds = map (λ (a : LeafArray). a.declaration) m.arrays

  declared_is : (x : ℕ) → x < length m.arrays → get_or ds x 0 ≡ (array_at m.arrays x).declaration
  declared_is x lt = get_or-map (λ (a : LeafArray). a.declaration) m.arrays x no_array 0 lt

  pub first_within : (n : ℕ) → first_from (map (λ (a : LeafArray). a.declaration) m.arrays) n declaration ≤ n
  unfolding first_from
  first_within zero = omega arith
  first_within (suc n) = go (nat_lt (get_or ds n 0) declaration) (first_within n)
    where
      go : (b : Bool) → first_from ds n declaration ≤ n → (if b then suc n else first_from ds n declaration) ≤ suc n
      go true h = omega arith
      go false h = omega (arith, h)

  pub first_before : ((x y : ℕ) → x ≤ y → y < length m.arrays → (array_at m.arrays x).declaration ≤ (array_at m.arrays y).declaration)
      → (n : ℕ) → n ≤ length m.arrays → (x : ℕ) → x < first_from (map (λ (a : LeafArray). a.declaration) m.arrays) n declaration
      → (array_at m.arrays x).declaration < declaration
  unfolding first_from
  first_before rise zero le x lt = absurd (omega (arith, lt))
  first_before rise (suc n) le x lt =
      go (nat_lt (get_or ds n 0) declaration) refl (first_before rise n (omega (arith, le)) x) lt
    where
      go : (b : Bool) → nat_lt (get_or ds n 0) declaration ≡ b
          → (x < first_from ds n declaration → (array_at m.arrays x).declaration < declaration)
          → x < (if b then suc n else first_from ds n declaration) → (array_at m.arrays x).declaration < declaration
      go true e before under =
          let last = ltb-true (get_or ds n 0) declaration e in
          let is = declared_is n (omega (arith, le)) in
          let upto = rise x n (omega (arith, under)) (omega (arith, le)) in
          omega (arith, last, is, upto)
      go false e before under = before under

  pub first_behind : (n : ℕ) → n ≤ length m.arrays → (x : ℕ) → first_from (map (λ (a : LeafArray). a.declaration) m.arrays) n declaration ≤ x
      → x < n → declaration ≤ (array_at m.arrays x).declaration
  unfolding first_from
  first_behind zero le x over lt = absurd (omega (arith, lt))
  first_behind (suc n) le x over lt = go (nat_lt (get_or ds n 0) declaration) refl (first_behind n (omega (arith, le)) x) over
    where
      go : (b : Bool) → nat_lt (get_or ds n 0) declaration ≡ b
          → (first_from ds n declaration ≤ x → x < n → declaration ≤ (array_at m.arrays x).declaration)
          → (if b then suc n else first_from ds n declaration) ≤ x → declaration ≤ (array_at m.arrays x).declaration
      go true e behind above = absurd (omega (arith, above, lt))
      go false e behind above =
          ⊎_elim (λ (under : x < n). behind above under)
          (λ (last : n ≤ x).
          let same : x ≡ n = omega (arith, last, lt) in
          let least = ltb-false (get_or ds n 0) declaration e in
          let is = declared_is n (omega (arith, le)) in
          subst (λ z. declaration ≤ (array_at m.arrays z).declaration) (sym same) (omega (arith, least, is)))
          (cases_lt x n)

-- one step of the search
pub first_here : (ds : List ℕ) (n k declaration : ℕ) → k + 1 ≡ n → get_or ds k 0 < declaration → first_from ds n declaration ≡ n
unfolding first_from
first_here ds n k declaration e lt =
    let same : n ≡ suc k = omega (arith, e) in
    ap (λ z. first_from ds z declaration) same ∙ ap (λ b. if b then suc k else first_from ds k declaration) (lt-ltb (get_or ds k 0) declaration lt) ∙ sym same

pub first_earlier : (ds : List ℕ) (n k declaration : ℕ) → k + 1 ≡ n → declaration ≤ get_or ds k 0
    → first_from ds n declaration ≡ first_from ds k declaration
unfolding first_from
first_earlier ds n k declaration e le =
    let same : n ≡ suc k = omega (arith, e) in
    ap (λ z. first_from ds z declaration) same ∙ ap (λ b. if b then suc k else first_from ds k declaration) (le-ltb (get_or ds k 0) declaration le)

pub first_none : (declared : List ℕ) (declaration : ℕ) → first_from declared 0 declaration ≡ 0
unfolding first_from
first_none declared declaration = refl
