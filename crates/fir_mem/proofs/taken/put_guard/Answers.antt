use Rattle.std.proofs.Common.{ap}
use Rattle.fir_bits.specs.Values.{BitVector}
use Rattle.fir_mem.proofs.Steps.{guard_built}
use Rattle.fir_mem.proofs.taken.put_guard.Goals as goal

pub returns : goal.returns
returns c =
    guard_built c.put-2.result _ _ _ _ _ _ _ _ _ _ _ _ c.in_ok-is_read.ensures c.in_ok-zero.ensures
    (ap (λ (v : BitVector). record { signed = c.args.ty.signed; value = v }) c.of.ensures) c.choice.ensures c.put-2.ensures
