-- Vertices that are marked one after the other, none twice.
use Rattle.std.proofs.Common.{◌≡◌, ℕ, Bool, true, false, ◌+◌, ◌<◌, ◌≤◌, List, Some, length, set, sym, ap, ◌∙◌, subst, inl, inr, ◌⊎◌, arith}
use Rattle.std.specs.Prelude.{slice_get}
use Rattle.std.proofs.lemmas.Bool.{cases_lt}
use Rattle.std.proofs.lemmas.Option.{same_Some, slice_get_within}
use Rattle.fir_base.specs.Lists.{Distinct}
use Rattle.fir_base.proofs.Writes.{write_same, two_items, kept}
use Rattle.fir_graph.proofs.Positions.{distinct_from}

-- the first n are marked, and none of them stands twice
pub record Seen (circle : List ℕ) (n : ℕ) (met : List Bool) : Type 0 where
  pub marked : (i v : ℕ) → i < n → slice_get circle i ≡ Some v → slice_get met v ≡ Some true
  pub once : (i j v : ℕ) → i < n → j < n → slice_get circle i ≡ Some v → slice_get circle j ≡ Some v → i ≡ j

-- one more, which was not marked
pub seen_more : (circle : List ℕ) (i : ℕ) (met new : List Bool) (v : ℕ) → Seen circle i met → slice_get circle i ≡ Some v → slice_get met v ≡ Some false → new ≡ set met v true → Seen circle (i + 1) new
seen_more circle i met new v s here is e = rw e (record {
  marked = λ j u l h. marked j u l h (cases_lt j i);
  once = λ j k u l n h g. once j k u h g (cases_lt j i) (cases_lt k i) l n;
})
  where
    last : (j u : ℕ) → j < i + 1 → i ≤ j → slice_get circle j ≡ Some u → v ≡ u
    last j u l g h = let same : j ≡ i = omega (arith, l, g) in same_Some v u (sym here ∙ ap (slice_get circle) (sym same) ∙ h)

    marked : (j u : ℕ) → j < i + 1 → slice_get circle j ≡ Some u → (j < i) ⊎ (i ≤ j) → slice_get (set met v true) u ≡ Some true
    marked j u l h (inl g) = kept met v false true is u true (λ e. cc) (s.marked j u g h)
    marked j u l h (inr g) = subst (λ (x : ℕ). slice_get (set met v true) x ≡ Some true) (last j u l g h) (write_same met v true (slice_get_within met v false is))

    fresh : (j : ℕ) → j < i → slice_get circle j ≡ Some v → ⊥
    fresh j l h = let f : false ≡ true = two_items met v false true is (s.marked j v l h) in cc

    once : (j k u : ℕ) → slice_get circle j ≡ Some u → slice_get circle k ≡ Some u → (j < i) ⊎ (i ≤ j) → (k < i) ⊎ (i ≤ k) → j < i + 1 → k < i + 1 → j ≡ k
    once j k u h g (inl a) (inl b) l n = s.once j k u a b h g
    once j k u h g (inl a) (inr b) l n = absurd (fresh j a (h ∙ ap Some (sym (last k u n b g))))
    once j k u h g (inr a) (inl b) l n = absurd (fresh k b (g ∙ ap Some (sym (last j u l a h))))
    once j k u h g (inr a) (inr b) l n = omega (arith, a, b, l, n)

pub seen_all : (circle : List ℕ) (n : ℕ) (met : List Bool) → Seen circle n met → length circle ≤ n → Distinct circle
seen_all circle n met s le = distinct_from circle (λ i j v h k. s.once i j v (omega (arith, le, slice_get_within circle i v h)) (omega (arith, le, slice_get_within circle j v k)) h k)
