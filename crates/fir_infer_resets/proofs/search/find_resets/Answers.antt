use Rattle.std.proofs.Common.{arith, length, ◌≤◌}
use Rattle.fir_infer_resets.proofs.FoundResets.{found}
use Rattle.fir_infer_resets.proofs.Rooting.{searching_begun}
use Rattle.fir_infer_resets.proofs.search.find_resets.Goals as goal

pub loop-place-init : goal.loop-place-init
loop-place-init c = searching_begun _ _ _ c.in_ok-reached.ensures

pub returns-clause-ok : goal.returns-clause-ok
returns-clause-ok c =
    let done : length c.loop-place.reached.queue.items ≤ c.loop-place.place = omega (arith, c.loop-place-test.false, c.loop-place.reached.queue.ok.0, c.len.ensures) in
    found _ _ _ c.loop-place.place c.loop-place.invariant done
