-- A path closes to a circle.
use Rattle.std.proofs.Common.{◌≡◌, ℕ, suc, ◌+◌, List, [], ◌∷◌, Some, length, length-drop, drop, refl, sym, ap, ◌∙◌, subst, arith}
use Rattle.std.specs.Prelude.{slice_get}
use Rattle.std.proofs.lemmas.Option.{none-some, slice_get_within}
use Rattle.fir_graph.specs.working.HasTarget.{HasTarget}
use Rattle.fir_graph.specs.working.IsCircle.{Chain, Turns, IsCircle}
use Rattle.fir_graph.proofs.Positions.{get-drop, distinct_from}

module _ (targets : ℕ → List ℕ) where
  -- by places or by recursion
  chain_from : (v : ℕ) (vs : List ℕ) (w : ℕ) → ((i x y : ℕ) → slice_get (v ∷ vs) i ≡ Some x → slice_get (v ∷ vs) (suc i) ≡ Some y → HasTarget targets x y) → ((i x : ℕ) → slice_get (v ∷ vs) i ≡ Some x → i ≡ length vs → HasTarget targets x w) → Chain targets v vs w
  chain_from v [] w steps last = last 0 v refl refl
  chain_from v (x ∷ vs) w steps last = (steps 0 v x refl refl, chain_from x vs w (λ i y z p q. steps (suc i) y z p q) (λ i y p e. last (suc i) y p (ap suc e)))

  turns_from : (vs : List ℕ) (w : ℕ) → slice_get vs 0 ≡ Some w → ((i x y : ℕ) → slice_get vs i ≡ Some x → slice_get vs (suc i) ≡ Some y → HasTarget targets x y) → ((i x : ℕ) → slice_get vs i ≡ Some x → suc i ≡ length vs → HasTarget targets x w) → Turns targets vs
  turns_from [] w first steps last = none-some w first
  turns_from (v ∷ vs) w first steps last = let same : w ≡ v = cc in chain_from v vs v steps (λ i x p e. subst (HasTarget targets x) same (last i x p (ap suc e)))

  -- a path whose last has one of it as a target
  pub closes : (path : List ℕ) → ((i j v : ℕ) → slice_get path i ≡ Some v → slice_get path j ≡ Some v → i ≡ j) → ((i v w : ℕ) → slice_get path i ≡ Some v → slice_get path (i + 1) ≡ Some w → HasTarget targets v w) → (p w : ℕ) → slice_get path p ≡ Some w → ((i x : ℕ) → slice_get path i ≡ Some x → i + 1 ≡ length path → HasTarget targets x w) → IsCircle targets (drop p path)
  closes path once steps p w at last = record {
    turns = turns_from (drop p path) w (get-drop p path 0 ∙ ap (slice_get path) (omega arith) ∙ at)
        (λ i x y h k. steps (p + i) x y (inner i x h) (ap (slice_get path) (omega arith) ∙ inner (suc i) y k))
        (λ i x h e. last (p + i) x (inner i x h) (omega (arith, e, length-drop p path, slice_get_within path p w at)));
    once = distinct_from (drop p path) (λ i j x h k. omega (arith, once (p + i) (p + j) x (inner i x h) (inner j x k)));
  }
    where
      inner : (i x : ℕ) → slice_get (drop p path) i ≡ Some x → slice_get path (p + i) ≡ Some x
      inner i x h = sym (get-drop p path i) ∙ h
