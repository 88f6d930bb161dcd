use Rattle.std.proofs.Common.{sym, ◌∙◌, ap, length}
use Rattle.fir_ast.specs.working.Views.{circuit_of}
use Rattle.fir_ast.specs.working.CodeFaults.{fault_of}
use Rattle.fir_infer_resets.specs.working.DirectWalks.{Replaces}
use Rattle.fir_infer_resets.specs.working.ResetGraphs.{IsResetWalk}
use Rattle.fir_infer_resets.proofs.InferredResets.{inferred}
use Rattle.fir_infer_resets.proofs.ShownWalks.{direct_long, direct_within, kinds_long, shown, walk_within}
use Rattle.fir_infer_resets.proofs.infer.found_in.Goals as goal

pub returns-in_ok-map_of-in-Ok-clause-resets : goal.returns-in_ok-map_of-in-Ok-clause-resets
returns-in_ok-map_of-in-Ok-clause-resets c =
    inferred (circuit_of c.args.named.now) c.requires.names c.requires.types c.args.joined.now c.requires.whole c.in-Ok.marks.items
    (rw (c.deref.ensures.value, c.deref-2.ensures.value) at c.in-Ok.ensures.ok) c.in_ok-map_of-in-Ok.field-0
    (rw (c.deref-in-Ok.ensures.value, c.deref-in-Ok-2.ensures.value) at c.in_ok-map_of-in-Ok.ensures)

pub map_of-requires-clause-long : goal.map_of-requires-clause-long
map_of-requires-clause-long c =
    let found = rw (c.deref.ensures.value, c.deref-2.ensures.value) at c.in-Ok.ensures.ok in
    ap length c.deref-in-Ok-2.ensures.value ∙ found.long ∙ kinds_long (circuit_of c.args.named.now) c.args.joined.now c.requires.whole
    ∙ ap length (sym c.deref-in-Ok.ensures.value)

pub without_detours-requires : goal.without_detours-requires
without_detours-requires c =
    let joined = c.args.joined.now in
    let walk = c.in-Err-Fault.walk.nodes.items in
    let fault : IsResetWalk joined.graph.items joined.kinds.items walk =
    rw (c.in-Err-Fault.field-0-is, c.deref.ensures.value, c.deref-2.ensures.value) at c.in-Err-Fault.ensures.fault in
    rw (c.deref-in-Err-Fault.ensures.value, c.deref-in-Err-Fault-2.ensures.value)
    (walk_within (circuit_of c.args.named.now) joined c.requires.whole walk fault)

pub told-requires-clause-long : goal.told-requires-clause-long
told-requires-clause-long c =
    let joined = c.args.joined.now in
    let walk = c.in-Err-Fault.walk.nodes.items in
    let fault : IsResetWalk joined.graph.items joined.kinds.items walk =
    rw (c.in-Err-Fault.field-0-is, c.deref.ensures.value, c.deref-2.ensures.value) at c.in-Err-Fault.ensures.fault in
    let direct = c.in_ok-nodes-in-Err-Fault.nodes.items in
    let replaces : Replaces joined.ends.items walk direct =
    rw (c.deref-in-Err-Fault.ensures.value, c.deref-in-Err-Fault-2.ensures.value) at c.in_ok-nodes-in-Err-Fault.ensures.replaces in
    rw c.deref-in-Err-Fault-4.ensures.value (direct_long (circuit_of c.args.named.now) joined c.requires.whole walk fault direct replaces)

pub told-requires-clause-within : goal.told-requires-clause-within
told-requires-clause-within c =
    let joined = c.args.joined.now in
    let walk = c.in-Err-Fault.walk.nodes.items in
    let fault : IsResetWalk joined.graph.items joined.kinds.items walk =
    rw (c.in-Err-Fault.field-0-is, c.deref.ensures.value, c.deref-2.ensures.value) at c.in-Err-Fault.ensures.fault in
    let direct = c.in_ok-nodes-in-Err-Fault.nodes.items in
    let replaces : Replaces joined.ends.items walk direct =
    rw (c.deref-in-Err-Fault.ensures.value, c.deref-in-Err-Fault-2.ensures.value) at c.in_ok-nodes-in-Err-Fault.ensures.replaces in
    rw (c.deref-in-Err-Fault-3.ensures.value, c.deref-in-Err-Fault-4.ensures.value)
    (direct_within (circuit_of c.args.named.now) joined c.requires.whole walk fault direct replaces)

pub returns-in_ok-told-in-Err-Fault-clause-fault : goal.returns-in_ok-told-in-Err-Fault-clause-fault
returns-in_ok-told-in-Err-Fault-clause-fault c =
    let joined = c.args.joined.now in
    let walk = c.in-Err-Fault.walk.nodes.items in
    let fault : IsResetWalk joined.graph.items joined.kinds.items walk =
    rw (c.in-Err-Fault.field-0-is, c.deref.ensures.value, c.deref-2.ensures.value) at c.in-Err-Fault.ensures.fault in
    let direct = c.in_ok-nodes-in-Err-Fault.nodes.items in
    let replaces : Replaces joined.ends.items walk direct =
    rw (c.deref-in-Err-Fault.ensures.value, c.deref-in-Err-Fault-2.ensures.value) at c.in_ok-nodes-in-Err-Fault.ensures.replaces in
    shown (circuit_of c.args.named.now) joined c.requires.whole walk fault direct replaces (fault_of c.in_ok-told-in-Err-Fault.field-0)
    (rw (c.deref-in-Err-Fault-3.ensures.value, c.deref-in-Err-Fault-4.ensures.value) at c.in_ok-told-in-Err-Fault.ensures)
