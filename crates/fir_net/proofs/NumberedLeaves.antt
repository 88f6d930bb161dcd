-- Lists of leaves' numbers: the leaf of each number, the place of each, and that none stands twice.
use Rattle.std.proofs.Common.{◌≡◌, ℕ, zero, suc, ◌+◌, List, [], ◌∷◌, ◌++◌, Bool, true, false, nat_eq, if◌then◌else◌, refl, sym, ap, ◌∙◌, inl, inr, ◌⊎◌, ⊎_elim, subst, arith}
use Rattle.std.specs.Prelude.{slice_get, Some}
use Rattle.fir_base.specs.Lists.{In, Distinct}
use Rattle.fir_base.proofs.Elements.{number_of}
use Rattle.fir_net.specs.declared.leaf.Role.{Role}
use Rattle.fir_net.specs.declared.leaf.Role.TheVariants as role
use Rattle.fir_net.specs.declared.leaf.Leaf.{Leaf}
use Rattle.fir_net.specs.working.Settled.{with_bits, input_number, clock_number, numbers_by}
use Rattle.fir_net.proofs.Places.{place_of, place_is}

-- a leaf gives its number once, or not at all
pub record GivesOwn (number : Role → ℕ → ℕ → List ℕ) : Type 0 where
  pub each : (r : Role) (w k : ℕ) → (number r w k ≡ []) ⊎ (number r w k ≡ k ∷ [])

bits_own : (w k : ℕ) → (with_bits w k ≡ []) ⊎ (with_bits w k ≡ k ∷ [])
bits_own w k = by (nat_eq w 0)
  where
    by : (b : Bool) → ((if b then [] else (k ∷ [])) ≡ []) ⊎ ((if b then [] else (k ∷ [])) ≡ k ∷ [])
    by true = inl refl
    by false = inr refl

pub inputs_own : GivesOwn input_number
inputs_own = record { each = own }
  where
    own : (r : Role) (w k : ℕ) → (input_number r w k ≡ []) ⊎ (input_number r w k ≡ k ∷ [])
    own role.Input w k = bits_own w k
    own _ w k = inl refl

pub clocks_own : GivesOwn clock_number
clocks_own = record { each = own }
  where
    own : (r : Role) (w k : ℕ) → (clock_number r w k ≡ []) ⊎ (clock_number r w k ≡ k ∷ [])
    own role.Clock w k = inr refl
    own _ w k = inl refl

-- what gives its number is an input, or a clock input
pub input_role : (r : Role) (w k : ℕ) → input_number r w k ≡ k ∷ [] → r ≡ role.Input
input_role role.Input w k e = refl
input_role role.Clock w k e = cc
input_role (role.Output r) w k e = cc
input_role (role.Wire r) w k e = cc
input_role (role.Register d) w k e = cc
input_role (role.Reading r) w k e = cc
input_role (role.Pipe p) w k e = cc
input_role (role.ClockOutput c) w k e = cc
input_role (role.ClockWire c) w k e = cc

pub clock_role : (r : Role) (w k : ℕ) → clock_number r w k ≡ k ∷ [] → r ≡ role.Clock
clock_role role.Input w k e = cc
clock_role role.Clock w k e = refl
clock_role (role.Output r) w k e = cc
clock_role (role.Wire r) w k e = cc
clock_role (role.Register d) w k e = cc
clock_role (role.Reading r) w k e = cc
clock_role (role.Pipe p) w k e = cc
clock_role (role.ClockOutput c) w k e = cc
clock_role (role.ClockWire c) w k e = cc

-- what stands in a list behind its own number, or behind none
behind_own : (own tail : List ℕ) (base n k : ℕ) → (own ≡ []) ⊎ (own ≡ base ∷ []) → slice_get (own ++ tail) n ≡ Some k → ((own ≡ base ∷ []) × (base ≡ k)) ⊎ ((m : ℕ) × (slice_get tail m ≡ Some k))
behind_own own tail base n k (inl e) at = inr (n, rw e at at)
behind_own own tail base zero k (inr e) at = let here : Some base ≡ Some k = rw e at at in inl (e, cc)
behind_own own tail base (suc n) k (inr e) at = inr (n, rw e at at)

before_own : (own tail : List ℕ) (base m k : ℕ) → (own ≡ []) ⊎ (own ≡ base ∷ []) → slice_get tail m ≡ Some k → (n : ℕ) × (slice_get (own ++ tail) n ≡ Some k)
before_own own tail base m k (inl e) at = (m, rw e at)
before_own own tail base m k (inr e) at = (suc m, rw e at)

-- the leaf of a number
pub record LeafOf (number : Role → ℕ → ℕ → List ℕ) (base : ℕ) (leaves : List Leaf) (k : ℕ) : Type 0 where
  pub place : ℕ
  pub leaf : Leaf
  pub at : slice_get leaves place ≡ Some leaf
  pub is : base + place ≡ k
  pub own : number leaf.role leaf.width k ≡ k ∷ []

module _ (number : Role → ℕ → ℕ → List ℕ) (gives : GivesOwn number) where
  pub leaf_of : (leaves : List Leaf) (base n k : ℕ) → slice_get (numbers_by number base leaves) n ≡ Some k → LeafOf number base leaves k
  leaf_of [] base n k e = cc
  leaf_of (l ∷ leaves) base n k e =
      ⊎_elim
      (λ (t : (number l.role l.width base ≡ base ∷ []) × (base ≡ k)).
      let same = t.1 in
      record { place = 0; leaf = l; at = refl; is = omega (arith, same); own = subst (λ (i : ℕ). number l.role l.width i ≡ i ∷ []) same t.0 })
      (λ (t : (m : ℕ) × (slice_get (numbers_by number (base + 1) leaves) m ≡ Some k)).
      let r = leaf_of leaves (base + 1) t.0 k t.1 in
      let is = r.is in
      record { place = suc r.place; leaf = r.leaf; at = r.at; is = omega (arith, is); own = r.own })
      (behind_own (number l.role l.width base) (numbers_by number (base + 1) leaves) base n k (gives.each l.role l.width base) e)

  pub distinct_numbers : (leaves : List Leaf) (base : ℕ) → Distinct (numbers_by number base leaves)
  distinct_numbers [] base = tt
  distinct_numbers (l ∷ leaves) base = by (number l.role l.width base) (gives.each l.role l.width base) (distinct_numbers leaves (base + 1)) above
    where
      by : (own : List ℕ) → (own ≡ []) ⊎ (own ≡ base ∷ []) → Distinct (numbers_by number (base + 1) leaves) → (In (numbers_by number (base + 1) leaves) base → ⊥) → Distinct (own ++ numbers_by number (base + 1) leaves)
      by own (inl e) rest new = rw e rest
      by own (inr e) rest new = rw e (new, rest)

      above : In (numbers_by number (base + 1) leaves) base → ⊥
      above m = let r = number_of (numbers_by number (base + 1) leaves) base m in let is = (leaf_of leaves (base + 1) r.0 base r.1).is in omega (arith, is)

  -- a leaf that gives its number has a place
  pub place_in : (leaves : List Leaf) (base place : ℕ) (l : Leaf) → slice_get leaves place ≡ Some l → number l.role l.width (base + place) ≡ (base + place) ∷ [] → (n : ℕ) × (slice_get (numbers_by number base leaves) n ≡ Some (base + place))
  place_in [] base place l at own = cc
  place_in (m ∷ leaves) base zero l at own =
      let same : m ≡ l = cc in
      let place : base + 0 ≡ base = omega arith in
      let here : number m.role m.width base ≡ base ∷ [] = rw same (rw place at own) in
      rw place (0, rw here refl)
  place_in (m ∷ leaves) base (suc place) l at own =
      let sum : base + 1 + place ≡ base + suc place = omega arith in
      let r = place_in leaves (base + 1) place l at (subst (λ (i : ℕ). number l.role l.width i ≡ i ∷ []) (sym sum) own) in
      let found : slice_get (numbers_by number (base + 1) leaves) r.0 ≡ Some (base + suc place) = r.1 ∙ ap Some sum in
      before_own (number m.role m.width base) (numbers_by number (base + 1) leaves) base r.0 (base + suc place) (gives.each m.role m.width base) found

-- among all leaves
module _ (number : Role → ℕ → ℕ → List ℕ) (gives : GivesOwn number) (leaves : List Leaf) where
  pub place_among : (n k : ℕ) → slice_get (numbers_by number 0 leaves) n ≡ Some k → place_of k (numbers_by number 0 leaves) ≡ n
  place_among n k e = place_is (numbers_by number 0 leaves) (distinct_numbers number gives leaves 0) n k e

  pub among : (k : ℕ) (l : Leaf) → slice_get leaves k ≡ Some l → number l.role l.width k ≡ k ∷ [] → (n : ℕ) × (slice_get (numbers_by number 0 leaves) n ≡ Some k)
  among k l at own =
      let place : 0 + k ≡ k = omega arith in
      let r = place_in number gives leaves 0 k l at (subst (λ (i : ℕ). number l.role l.width i ≡ i ∷ []) (sym place) own) in
      (r.0, r.1 ∙ ap Some place)

  pub leaf_at : (n k : ℕ) → slice_get (numbers_by number 0 leaves) n ≡ Some k → (l : Leaf) × (slice_get leaves k ≡ Some l) × (number l.role l.width k ≡ k ∷ [])
  leaf_at n k e =
      let r = leaf_of number gives leaves 0 n k e in
      let is = r.is in
      let place : r.place ≡ k = omega (arith, is) in
      (r.leaf, ap (slice_get leaves) (sym place) ∙ r.at, r.own)
