-- A closed walk by positions in a flat net, and one by recursion in its circuit, are walks through the same leaves.
use Rattle.std.proofs.Common.{◌≡◌, ℕ, zero, suc, ◌+◌, ◌-◌, ◌<◌, List, [], ◌∷◌, ◌++◌, length, Some, refl, sym, ap, ◌∙◌, subst, inl, inr, arith, length-append}
use Rattle.std.specs.Prelude.{slice_get}
use Rattle.std.proofs.lemmas.Option.{none-some, same_Some, slice_get_within}
use Rattle.fir_base.specs.Lists.{Distinct}
use Rattle.fir_base.proofs.Elements.{number_of}
use Rattle.fir_base.proofs.Writes.{PushedOr, push_cases, push_end, push_left}
use Rattle.fir_meaning.specs.working.CircuitDependence.{CircuitDepends, IsWalk}
use Rattle.fir_meaning.specs.working.LeafCircuits.{LeafCircuit}
use Rattle.fir_net.specs.declared.net.FlatNet.{FlatNet}
use Rattle.fir_net.specs.working.IsNet.{IsNet}
use Rattle.fir_net.proofs.Places.{place_is}
use Rattle.fir_loop.specs.working.IsLoop.{IsLoop}
use Rattle.fir_flat.specs.working.FlatCircuits.{IsFlatOf}
use Rattle.fir_flat.proofs.LeafDependence.{depends_the_same}

-- a list of which no later element is an earlier one
apart : (xs : List ℕ) → ((i j x : ℕ) → i < j → slice_get xs i ≡ Some x → slice_get xs j ≡ Some x → ⊥) → Distinct xs
apart [] h = tt
apart (x ∷ xs) h = (
  λ m. let at = number_of xs x m in h 0 (suc at.0) x (omega arith) refl at.1,
  apart xs (λ i j y lt p q. h (suc i) (suc j) y (omega (arith, lt)) p q),
)

-- the elements before the last one
record EndsWith (xs : List ℕ) (last : ℕ) : Type 0 where
  front : List ℕ
  is : xs ≡ front ++ last ∷ []

ends : (x : ℕ) (xs : List ℕ) (last : ℕ) → slice_get (x ∷ xs) (length xs) ≡ Some last → EndsWith (x ∷ xs) last
ends x [] last at = record { front = []; is = ap (λ (y : ℕ). y ∷ []) (same_Some x last at) }
ends x (y ∷ ys) last at = let rest = ends y ys last at in record { front = x ∷ rest.front; is = ap (λ (zs : List ℕ). x ∷ zs) rest.is }

module _ (c : LeafCircuit) where
  steps_of : (x : ℕ) (xs : List ℕ) (final : ℕ) → IsWalk c x xs final
      → (i y z : ℕ) → slice_get (x ∷ xs) i ≡ Some y → slice_get (x ∷ xs) (suc i) ≡ Some z → CircuitDepends c y z
  steps_of x [] final w i y z p q = absurd (none-some z q)
  steps_of x (v ∷ xs) final w zero y z p q = rw (← same_Some x y p, ← same_Some v z q) w.0
  steps_of x (v ∷ xs) final w (suc i) y z p q = steps_of v xs final w.1 i y z p q

  walk_by : (x : ℕ) (xs : List ℕ) (final : ℕ) → slice_get (x ∷ xs) (length xs) ≡ Some final
      → ((i y z : ℕ) → slice_get (x ∷ xs) i ≡ Some y → slice_get (x ∷ xs) (suc i) ≡ Some z → CircuitDepends c y z) → IsWalk c x xs final
  walk_by x [] final end steps = same_Some x final end
  walk_by x (v ∷ xs) final end steps = (steps 0 x v refl refl, walk_by v xs final end (λ i y z p q. steps (suc i) y z p q))

module _ (c : LeafCircuit) (net : FlatNet) (whole : IsNet net) (flat : IsFlatOf c net) where
  pub loop_of : (first : ℕ) (between : List ℕ) → IsWalk c first (between ++ first ∷ []) first → Distinct (first ∷ between)
      → IsLoop net (first ∷ between ++ first ∷ [])
  loop_of first between walk distinct = record {
    long = omega (arith, long);
    steps = λ i y z p q.
        let next : i + 1 ≡ suc i = omega arith in
        (depends_the_same c net whole flat y z).1
        (steps_of c first (between ++ first ∷ []) first walk i y z p (ap (slice_get (first ∷ between ++ first ∷ [])) (sym next) ∙ q));
    closed =
        let end : length (first ∷ between ++ first ∷ []) - 1 ≡ length (first ∷ between) = omega (arith, long) in
        sym (ap (slice_get (first ∷ between ++ first ∷ [])) end ∙ push_end (first ∷ between) first);
    once = λ i j y ij p q. once i j y ij (push_cases (first ∷ between) first i y p) (push_cases (first ∷ between) first j y q);
  }
    where
      long : length (first ∷ between ++ first ∷ []) ≡ length (first ∷ between) + 1
      long = length-append (first ∷ between) (first ∷ [])

      same : (i j y : ℕ) → slice_get (first ∷ between) i ≡ Some y → slice_get (first ∷ between) j ≡ Some y → i ≡ j
      same i j y p q = sym (place_is (first ∷ between) distinct i y p) ∙ place_is (first ∷ between) distinct j y q

      once : (i j y : ℕ) → i < j → PushedOr (first ∷ between) first i y → PushedOr (first ∷ between) first j y
          → (i ≡ 0) × (j ≡ length (first ∷ between ++ first ∷ []) - 1)
      once i j y ij (inl p) (inl q) = absurd (omega (arith, ij, same i j y p q))
      once i j y ij (inl p) (inr (e, q)) = (same i 0 y p (ap Some q), omega (arith, e, long))
      once i j y ij (inr (e, p)) (inl q) = absurd (omega (arith, ij, e, slice_get_within (first ∷ between) j y q))
      once i j y ij (inr (e, p)) (inr (g, q)) = absurd (omega (arith, ij, e, g))

  -- a closed walk of the circuit through these leaves
  pub record IsClosed (first : ℕ) (rest : List ℕ) : Type 0 where
    pub between : List ℕ
    pub is : rest ≡ between ++ first ∷ []
    pub walk : IsWalk c first (between ++ first ∷ []) first
    pub distinct : Distinct (first ∷ between)

  pub walk_of : (first : ℕ) (rest : List ℕ) → IsLoop net (first ∷ rest) → IsClosed first rest
  walk_of first [] loop = absurd (omega (arith, loop.long))
  walk_of first (y ∷ ys) loop = let e = ends y ys first last in by e.front e.is
    where
      last : slice_get (y ∷ ys) (length ys) ≡ Some first
      last =
          let end : length (first ∷ y ∷ ys) - 1 ≡ suc (length ys) = omega arith in
          ap (slice_get (first ∷ y ∷ ys)) (sym end) ∙ sym loop.closed

      steps : (i v w : ℕ) → slice_get (first ∷ y ∷ ys) i ≡ Some v → slice_get (first ∷ y ∷ ys) (suc i) ≡ Some w → CircuitDepends c v w
      steps i v w p q =
          let next : i + 1 ≡ suc i = omega arith in
          (depends_the_same c net whole flat v w).0 (loop.steps i v w p (ap (slice_get (first ∷ y ∷ ys)) next ∙ q))

      by : (front : List ℕ) → y ∷ ys ≡ front ++ first ∷ [] → IsClosed first (y ∷ ys)
      by front is = record {
        between = front;
        is = is;
        walk = subst (λ (zs : List ℕ). IsWalk c first zs first) is (walk_by c first (y ∷ ys) first last steps);
        distinct = apart (first ∷ front) (λ i j x ij p q.
            let low : j < length (first ∷ front) = slice_get_within (first ∷ front) j x q in
            let long : length (y ∷ ys) ≡ length front + 1 = ap length is ∙ length-append front (first ∷ []) in
            let once = loop.once i j x ij (longer i x p) (longer j x q) in
            omega (arith, low, long, once.1));
      }
        where
          longer : (i x : ℕ) → slice_get (first ∷ front) i ≡ Some x → slice_get (first ∷ y ∷ ys) i ≡ Some x
          longer i x p = ap (λ (zs : List ℕ). slice_get (first ∷ zs) i) is ∙ push_left (first ∷ front) (first ∷ []) i x p
