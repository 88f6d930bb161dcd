use Rattle.fir_check.proofs.MemoryPorts.{no_parts}
use Rattle.fir_check.proofs.memory_type.controls.Goals as goal

pub returns : goal.returns
returns c = λ ts t words has.
    c.in_ok-put-3.ensures ts _ _ has.clock
    (c.in_ok-put-2.ensures ts _ _ has.bit (c.in_ok-put.ensures ts _ _ has.address (no_parts ts c.new-parts.result.items c.new-parts.ensures.items)))
