use Rattle.std.proofs.lemmas.Result.{IfOk-weaker}
use Rattle.fir_check.proofs.MemoryPorts.{parts_bundle}
use Rattle.fir_check.proofs.memory_type.reader_type.Goals as goal

pub add_bundle-requires : goal.add_bundle-requires
add_bundle-requires c =
    let has = c.requires.2 in
    (c.in_ok-put.ensures _ _ _ has.word (c.in_ok-parts.ensures _ _ _ has)).held

pub returns : goal.returns
returns c =
    IfOk-weaker c.add_bundle.result _ _
    (λ id adds. λ t words has.
    parts_bundle c.args.table.now c.add_bundle.new.self id.number _ _
    (c.in_ok-put.ensures _ _ _ has.word (c.in_ok-parts.ensures _ _ _ has)) adds)
    c.add_bundle.ensures
