use Rattle.fir_check.proofs.MemoryPorts.{parts_more}
use Rattle.fir_check.proofs.memory_type.put.Goals as goal

pub returns : goal.returns
returns c = λ ts t fs at parts.
    parts_more ts t fs c.args.parts.now.items _ c.args.place c.args.flip c.args.name.now _ c.args.ty c.in_ok-new.ensures c.in_ok-push.ensures.items at parts
