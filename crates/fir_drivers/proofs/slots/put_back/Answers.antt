use Rattle.std.proofs.Common.{length}
use Rattle.std.proofs.lemmas.List.{length_push}
use Rattle.std.proofs.lemmas.Slice.Zip.{zip_end, zip_turn}
use Rattle.fir_drivers.proofs.SlotSteps.{put_back_all, put_more}
use Rattle.fir_drivers.proofs.slots.put_back.Goals as goal

pub loop-leaf-preserved : goal.loop-leaf-preserved
loop-leaf-preserved c =
    let xs = c.args.leaves.now in
    let bs = c.args.bounds.now in
    let turn =
    zip_turn xs bs c.loop-leaf.yielded c.into_iter-leaf-iterator.result c.loop-leaf.leaf-iterator c.next.new.self c.next.result (cc) (cc) c.loop-leaf.yielded_by
    (c.in-Some.leaf, c.in-Some.bound) c.in-Some.is c.next.ensures.steps in
    λ f are.
    rw (length_push c.loop-leaf.yielded (c.in-Some.leaf, c.in-Some.bound))
    (put_more c.args.slots.now.items c.loop-leaf.slots.items c.set_slot.new.slots.items xs bs (length c.loop-leaf.yielded) c.in-Some.leaf.now
    c.in-Some.bound.now f are turn.0 (turn.2 c.in-Some.leaf.now) (turn.3 c.in-Some.bound.now) (c.loop-leaf.invariant f are) c.set_slot.ensures)

pub returns : goal.returns
returns c =
    let xs = c.args.leaves.now in
    let bs = c.args.bounds.now in
    let turns =
    zip_end xs bs c.loop-leaf.yielded c.into_iter-leaf-iterator.result c.loop-leaf.leaf-iterator c.next.new.self c.next.result (cc) (cc) c.loop-leaf.yielded_by
    c.in-None.is c.next.ensures.steps in
    λ f are. put_back_all c.args.slots.now.items c.loop-leaf.slots.items xs bs (length c.loop-leaf.yielded) f are turns (c.loop-leaf.invariant f are)
