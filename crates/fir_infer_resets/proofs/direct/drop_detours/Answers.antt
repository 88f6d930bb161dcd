use Rattle.std.proofs.Common.{refl}
use Rattle.fir_infer_resets.specs.working.DirectWalks.{EndsInDetour}
use Rattle.fir_infer_resets.proofs.DroppedDetours.{one_dropped}
use Rattle.fir_infer_resets.proofs.direct.drop_detours.Goals as goal

pub loop-kept-preserved : goal.loop-kept-preserved
loop-kept-preserved c =
    let detour : EndsInDetour c.args.ends.now c.loop-kept.kept.items c.args.next = rw c.as_slice.ensures.value at (c.loop-kept-test.ensures.0 refl) in
    one_dropped c.args.ends.now c.args.next c.args.kept.now.items c.loop-kept.kept c.pop.new.self.items c.loop-kept.invariant detour c.pop.ensures.rest
