-- No loop exists where each leaf and each node stands higher than all that it hangs on.
use Rattle.std.proofs.Common.{◌≡◌, ℕ, zero, suc, ◌-◌, ◌<◌, List, [], ◌∷◌, Some, length, sym, ap, ◌∙◌, arith}
use Rattle.std.specs.Prelude.{slice_get}
use Rattle.std.proofs.lemmas.Option.{slice_get_within}
use Rattle.fir_base.proofs.Elements.{there}
use Rattle.fir_net.specs.declared.reads.Read.{Read}
use Rattle.fir_net.specs.declared.reads.Read.TheVariants as read
use Rattle.fir_net.specs.declared.net.FlatNet.{FlatNet}
use Rattle.fir_net.specs.working.HasHeights.{HasHeights}
use Rattle.fir_loop.specs.working.IsLoop.{HangsThrough, IsLoop}

module _ (net : FlatNet) (h : HasHeights net) where
  -- through nodes the heights fall
  falls : (v : Read) (nodes : List ℕ) (w : Read) → HangsThrough net v nodes w → h.height w < h.height v
  falls v [] w t = h.falls v w t
  falls v (n ∷ ns) w t =
      let first = h.falls v (read.Node n) t.0 in
      let rest = falls (read.Node n) ns w t.1 in
      omega (arith, first, rest)

  pub no_high_loop : (walk : List ℕ) → IsLoop net walk → ⊥
  no_high_loop walk c = let first = there walk 0 (omega (arith, c.long)) in ends first.0 first.1
    where
      -- along the walk they fall too
      fall : (n x y : ℕ) → slice_get walk 0 ≡ Some x → slice_get walk (suc n) ≡ Some y → h.height (read.Leaf y) < h.height (read.Leaf x)
      fall zero x y at next = let s = c.steps 0 x y at next in falls (read.Leaf x) s.nodes (read.Leaf y) s.through
      fall (suc n) x y at next =
          let z = there walk (suc n) (omega (arith, slice_get_within walk (suc (suc n)) y next)) in
          let a = fall n x z.0 at z.1 in
          let s = c.steps (suc n) z.0 y z.1 (ap (slice_get walk) (omega arith) ∙ next) in
          let b = falls (read.Leaf z.0) s.nodes (read.Leaf y) s.through in
          omega (arith, a, b)

      ends : (x : ℕ) → slice_get walk 0 ≡ Some x → ⊥
      ends x at =
          let back : slice_get walk (suc (length walk - 2)) ≡ Some x = ap (slice_get walk) (omega (arith, c.long)) ∙ sym c.closed ∙ at in
          let f = fall (length walk - 2) x x at back in
          omega (arith, f)
