-- The writes are made in turn.
use Rattle.std.proofs.Common.{◌++◌, List, None, length, get_or, take, ap, ◌∙◌}
use Rattle.std.proofs.lemmas.List.{take_more, take_all}
use Rattle.fir_leaf_circuit.specs.declared.array.Writing.{Writing}
use Rattle.fir_net.specs.declared.array.ArrayWrite.{ArrayWrite}
use Rattle.fir_flatten.specs.working.ArrayPorts.{array_write, writing_nodes}
use Rattle.fir_flatten.proofs.AddedInTurn.{added, made, so_far_more, so_far_none}
use Rattle.fir_flatten.proofs.WrittenArrays.{writes_add, writes_made}
use Rattle.fir_flatten.proofs.flat_arrays.flat_writes.Goals as goal

-- what stands past the end
abbrev no_writing : Writing
no_writing = record { address = 0; enable = 0; mode = None; mask = 0; clock = 0; given = 0 }

pub loop-writing-init : goal.loop-writing-init
loop-writing-init c = rw c.in_ok-writes.ensures.items (so_far_none Writing ArrayWrite array_write writing_nodes c.args.nodes.now.items)

pub loop-writing-preserved : goal.loop-writing-preserved
loop-writing-preserved c =
    let i = c.loop-writing.writing-index in
    let ws = c.args.writings.now in
    let w = get_or ws i no_writing in
    rw (c.in_ok-push.ensures.items, take_more ws i no_writing c.loop-writing-test.true)
    (so_far_more Writing ArrayWrite array_write writing_nodes c.args.nodes.now.items c.loop-writing.nodes.items c.array_write.new.nodes.items (take i ws) w
    c.loop-writing.writes.items c.in_ok-array_write.field-0 c.loop-writing.invariant c.in_ok-array_write.ensures.write c.in_ok-array_write.ensures.nodes)

pub returns-clause-writes : goal.returns-clause-writes
returns-clause-writes c =
    let all = take_all c.loop-writing.writing-index c.args.writings.now c.loop-writing-test.false in
    let count = length c.args.nodes.now.items in
    c.loop-writing.invariant.are ∙ ap (λ (ws : List Writing). made Writing ArrayWrite array_write writing_nodes ws count) all
    ∙ writes_made c.args.writings.now count

pub returns-clause-nodes : goal.returns-clause-nodes
returns-clause-nodes c =
    let all = take_all c.loop-writing.writing-index c.args.writings.now c.loop-writing-test.false in
    let old = c.args.nodes.now.items in
    c.loop-writing.invariant.nodes ∙ ap (λ (ws : List Writing). old ++ added Writing ArrayWrite array_write writing_nodes ws (length old)) all
    ∙ ap (λ ns. old ++ ns) (writes_add c.args.writings.now (length old))
