use Rattle.std.proofs.lemmas.List.{take_all}
use Rattle.fir_check.proofs.MemoryPorts.{flipped_more}
use Rattle.fir_check.proofs.memory_type.put_each.Goals as goal

pub loop-ident-preserved : goal.loop-ident-preserved
loop-ident-preserved c = λ ts t fs at parts.
    rw (← flipped_more t fs c.args.names.now c.loop-ident.ident-index c.ident-item.result c.loop-ident-test.true c.ident-item.is, ← c.as_bytes.ensures)
    (c.in_ok-put.ensures ts t _ at (c.loop-ident.invariant ts t fs at parts))

pub returns : goal.returns
returns c = λ ts t fs at parts.
    rw (← take_all c.loop-ident.ident-index c.args.names.now c.loop-ident-test.false) (c.loop-ident.invariant ts t fs at parts)
