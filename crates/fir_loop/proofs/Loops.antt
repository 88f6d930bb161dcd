-- No loop exists where an order does.
use Rattle.std.proofs.Common.{◌≡◌, ℕ, zero, suc, ◌-◌, ◌<◌, List, [], ◌∷◌, Some, length, sym, ap, ◌∙◌, arith}
use Rattle.std.specs.Prelude.{slice_get}
use Rattle.std.proofs.lemmas.Option.{slice_get_within}
use Rattle.fir_base.proofs.Elements.{there}
use Rattle.fir_net.specs.declared.reads.Read.{Read}
use Rattle.fir_net.specs.declared.reads.Read.TheVariants as read
use Rattle.fir_net.specs.declared.net.FlatNet.{FlatNet}
use Rattle.fir_net.specs.working.Dependence.{IsOf}
use Rattle.fir_net.specs.working.IsOrder.{IsOrder}
use Rattle.fir_loop.specs.working.IsLoop.{HangsThrough, IsLoop}
use Rattle.fir_loop.proofs.NetReads.{reads_from}

module _ (net : FlatNet) (order : List Read) (o : IsOrder net order) where
  -- through nodes the places in the order fall
  falls : (i : ℕ) (v : Read) (nodes : List ℕ) (w : Read) → slice_get order i ≡ Some v → HangsThrough net v nodes w → (j : ℕ) × (j < i) × (slice_get order j ≡ Some w)
  falls i v [] w at h = o.after i v w at h
  falls i v (n ∷ ns) w at h =
      let a = o.after i v (read.Node n) at h.0 in
      let b = falls a.0 (read.Node n) ns w a.2 h.1 in
      (b.0, omega (arith, a.1, b.1), b.2)

  of_hanging : (v : Read) (nodes : List ℕ) (w : Read) → HangsThrough net v nodes w → IsOf net v
  of_hanging v [] w h = reads_from net v w h
  of_hanging v (n ∷ ns) w h = reads_from net v (read.Node n) h.0

  pub no_loop : (walk : List ℕ) → IsLoop net walk → ⊥
  no_loop walk c =
      let first = there walk 0 (omega (arith, c.long)) in
      let next = there walk 1 (omega (arith, c.long)) in
      ends first.0 next.0 first.1 next.1
    where
      -- along the walk they fall too
      fall : (n x y i : ℕ) → slice_get walk 0 ≡ Some x → slice_get order i ≡ Some (read.Leaf x) → slice_get walk (suc n) ≡ Some y → (j : ℕ) × (j < i) × (slice_get order j ≡ Some (read.Leaf y))
      fall zero x y i at placed next = let h = c.steps 0 x y at next in falls i (read.Leaf x) h.nodes (read.Leaf y) placed h.through
      fall (suc n) x y i at placed next =
          let z = there walk (suc n) (omega (arith, slice_get_within walk (suc (suc n)) y next)) in
          let a = fall n x z.0 i at placed z.1 in
          let h = c.steps (suc n) z.0 y z.1 (ap (slice_get walk) (omega arith) ∙ next) in
          let b = falls a.0 (read.Leaf z.0) h.nodes (read.Leaf y) a.2 h.through in
          (b.0, omega (arith, a.1, b.1), b.2)

      ends : (x y : ℕ) → slice_get walk 0 ≡ Some x → slice_get walk 1 ≡ Some y → ⊥
      ends x y at next =
          let h = c.steps 0 x y at next in
          let p = o.all (read.Leaf x) (of_hanging (read.Leaf x) h.nodes (read.Leaf y) h.through) in
          let back : slice_get walk (suc (length walk - 2)) ≡ Some x = ap (slice_get walk) (omega (arith, c.long)) ∙ sym c.closed ∙ at in
          let f = fall (length walk - 2) x x p.0 at p.1 back in
          omega (arith, f.1, o.once f.0 p.0 (read.Leaf x) f.2 p.1)
