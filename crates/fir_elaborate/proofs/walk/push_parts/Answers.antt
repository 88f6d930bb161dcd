use Rattle.std.proofs.Common.{◌≡◌, ◌+◌, ◌-◌, ◌<◌, ◌++◌, [], ◌∷◌, ap₂, ◌∙◌, arith, length, map}
use Rattle.fir_leaf.specs.declared.statement.LeafInstance.{LeafInstance}
use Rattle.fir_leaf_circuit.specs.declared.array.LeafArray.{LeafArray}
use Rattle.fir_elaborate.specs.declared.numbers.Stretch.{Stretch}
use Rattle.fir_elaborate.specs.declared.walk.Pending.TheVariants as pending
use Rattle.fir_elaborate.specs.working.Walks.{instance_parts, next_array, next_first}
use Rattle.fir_elaborate.proofs.StackedParts.{arrays_more, parts_more, stacked, stretch_more, upto_more}
use Rattle.fir_elaborate.proofs.walk.push_parts.Goals as goal

pub loop-place-preserved : goal.loop-place-preserved
loop-place-preserved c =
    let n = c.loop-place.place in
    let is = c.args.instances.now in
    let ds = map (λ (a : LeafArray). a.declaration) c.args.arrays.now in
    let none : LeafInstance = record { declaration = 0; module_number = 0; first = 0 } in
    let next : n - 1 + 1 ≡ n = omega (arith, c.loop-place-test.true) in
    let within : n - 1 < length is = omega (arith, c.loop-place-test.true, c.loop-place.auto.place) in
    record {
      upto = upto_more c.args.at c.args.leaves ds c.args.names.now c.args.prefix.now is (n - 1) n none next within;
      arrays_upto =
          arrays_more c.args.at c.args.leaves ds c.args.names.now c.args.prefix.now is (n - 1) n none next within _ _
          c.loop-place.invariant.arrays_upto c.in_ok-arrays_from.ensures;
      pending =
          parts_more c.args.at c.args.leaves ds c.args.names.now c.args.prefix.now is (n - 1) n none next within _ _ _ _ _ _
          (stretch_more c.args.at c.args.leaves ds c.args.names.now c.args.prefix.now is (n - 1) n none next within _ _ _ c.loop-place.invariant.upto
          c.in_ok-arrays_from.ensures c.loop-place.invariant.arrays_upto)
          c.loop-place.invariant.pending c.in_ok-push.ensures.items c.in_ok-pending_module.ensures c.in_ok-push-2.ensures.items;
    }

pub returns : goal.returns
returns c =
    let first : c.loop-place.place ≡ 0 = omega (arith, c.loop-place-test.false) in
    let is = c.args.instances.now in
    let ds = map (λ (a : LeafArray). a.declaration) c.args.arrays.now in
    let to : c.loop-place.upto ≡ next_first c.args.leaves is = rw first at c.loop-place.invariant.upto in
    let arrays_to : c.loop-place.arrays_upto ≡ next_array ds is = rw first at c.loop-place.invariant.arrays_upto in
    let some : Stretch = record { from = 0; upto = next_first c.args.leaves is; arrays_from = 0; arrays_upto = next_array ds is } in
    stacked (pending.Words c.args.at some) (instance_parts c.args.at c.args.leaves ds c.args.names.now c.args.prefix.now is)
    c.args.pending.now.items _ _ (rw first at c.loop-place.invariant.pending)
    (c.in_ok-push-3.ensures.items
    ∙ ap₂
    (λ z y. c.loop-place.pending.items ++ pending.Words c.args.at (record { from = 0; upto = z; arrays_from = 0; arrays_upto = y }) ∷ []) to arrays_to)
