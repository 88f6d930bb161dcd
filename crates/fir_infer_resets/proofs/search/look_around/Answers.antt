use Rattle.std.proofs.Common.{rules, arith, ◌<◌, length, sym, get_or}
use Rattle.std.proofs.lemmas.Option.{slice_get_read}
use Rattle.fir_infer_resets.specs.declared.graph.Kind.TheVariants.{Other, Unsigned, Reset}
use Rattle.fir_infer_resets.proofs.Read.{kind_there, kind_other, entry_within, mark_there}
use Rattle.fir_infer_resets.proofs.Looks.{Beside, beside, look_begun, look_passes, look_enters, look_done, joined_at, seen_marked, seen_other}
use Rattle.fir_infer_resets.proofs.search.look_around.Goals.{in-Reset+then-not-index+in_ok-enter-in-Reset, in-Reset+else-not-index, in_default}
use Rattle.fir_infer_resets.proofs.search.look_around.Goals as goal

pub bounds-graph-node : goal.bounds-graph-node
bounds-graph-node c =
    let place : c.args.place < length c.args.reached.now.queue.items = omega (arith, c.requires.within, c.args.reached.now.queue.ok.0) in
    omega (arith, c.requires.graph.long, entry_within _ _ _ _ c.requires.searching.knows c.args.place _ place c.index.ensures)

pub offset_bounds-graph-node : goal.offset_bounds-graph-node
offset_bounds-graph-node c =
    let place : c.args.place < length c.args.reached.now.queue.items = omega (arith, c.requires.within, c.args.reached.now.queue.ok.0) in
    let node : c.index.result.now.node < length c.args.graph.now = omega (arith, c.requires.graph.long, entry_within _ _ _ _ c.requires.searching.knows c.args.place _ place c.index.ensures) in
    search rules

pub loop-next-init : goal.loop-next-init
loop-next-init c = look_begun _ _ c.args.reached.now c.args.place _ _ c.requires.searching (omega (arith, c.requires.within, c.args.reached.now.queue.ok.0)) c.index.ensures

pub bounds : goal.bounds
bounds c =
    let place : c.args.place < length c.args.reached.now.queue.items = omega (arith, c.requires.within, c.args.reached.now.queue.ok.0) in
    let node : c.index.result.now.node < length c.args.kinds.now = entry_within _ _ _ _ c.requires.searching.knows c.args.place _ place c.index.ensures in
    (beside _ _ _ _ _ _ c.requires.graph node c.index-graph-node.is c.as_slice-next-items.ensures.value c.loop-next-test.true).within

pub walk_back-requires-clause-unsigned : goal.walk_back-requires-clause-unsigned
walk_back-requires-clause-unsigned c =
    let place : c.args.place < length c.args.reached.now.queue.items = omega (arith, c.requires.within, c.args.reached.now.queue.ok.0) in
    let node : c.index.result.now.node < length c.args.kinds.now = entry_within _ _ _ _ c.requires.searching.knows c.args.place _ place c.index.ensures in
    let next : Beside c.args.graph.now c.args.kinds.now c.index.result.now.node c.loop-next.next-index c.as_slice-next-items.result.now (get_or c.as_slice-next-items.result.now c.loop-next.next-index 0) = beside _ _ _ _ _ _ c.requires.graph node c.index-graph-node.is c.as_slice-next-items.ensures.value c.loop-next-test.true in
    kind_there _ _ Other Unsigned next.within c.in-Unsigned.is

pub walk_back-requires-clause-joined : goal.walk_back-requires-clause-joined
walk_back-requires-clause-joined c =
    let place : c.args.place < length c.args.reached.now.queue.items = omega (arith, c.requires.within, c.args.reached.now.queue.ok.0) in
    let node : c.index.result.now.node < length c.args.kinds.now = entry_within _ _ _ _ c.requires.searching.knows c.args.place _ place c.index.ensures in
    let next : Beside c.args.graph.now c.args.kinds.now c.index.result.now.node c.loop-next.next-index c.as_slice-next-items.result.now (get_or c.as_slice-next-items.result.now c.loop-next.next-index 0) = beside _ _ _ _ _ _ c.requires.graph node c.index-graph-node.is c.as_slice-next-items.ensures.value c.loop-next-test.true in
    joined_at _ _ _ _ _ c.loop-next.invariant.here next.joined

pub loop-next-preserved : goal.loop-next-preserved
loop-next-preserved c =
    let place : c.args.place < length c.args.reached.now.queue.items = omega (arith, c.requires.within, c.args.reached.now.queue.ok.0) in
    let node : c.index.result.now.node < length c.args.kinds.now = entry_within _ _ _ _ c.requires.searching.knows c.args.place _ place c.index.ensures in
    let next : Beside c.args.graph.now c.args.kinds.now c.index.result.now.node c.loop-next.next-index c.as_slice-next-items.result.now (get_or c.as_slice-next-items.result.now c.loop-next.next-index 0) = beside _ _ _ _ _ _ c.requires.graph node c.index-graph-node.is c.as_slice-next-items.ensures.value c.loop-next-test.true in
    elim c.match-kinds-next.branch [
      | in-Reset+then-not-index+in_ok-enter-in-Reset w ↦
          rw w.reached-is
          (look_enters _ _ _ _ _ _ _ _ c.loop-next.invariant next.at _ (kind_there _ _ Other Reset next.within w.in-Reset.is)
          (mark_there _ _ _ _ c.loop-next.invariant.searching.knows _ _ _ next.within w.index-in-Reset.ensures w.if-not-index.true) next.joined w.in_ok-enter-in-Reset.ensures)
      | in-Reset+else-not-index w ↦
          rw w.reached-is
          (look_passes _ _ _ _ _ _ _ _ c.loop-next.invariant next.at
          (seen_marked _ _ _ (kind_there _ _ Other Reset next.within w.in-Reset.is)
          (mark_there _ _ _ _ c.loop-next.invariant.searching.knows _ _ _ next.within w.index-in-Reset.ensures w.if-not-index.false)))
      | in_default w ↦
          rw w.reached-is
          (look_passes _ _ _ _ _ _ _ _ c.loop-next.invariant next.at
          (seen_other _ _ _ (kind_other _ _ Other Reset next.within w.in_default.not-Reset) (kind_other _ _ Other Unsigned next.within w.in_default.not-Unsigned)))
    ]

pub returns-clause-ok : goal.returns-clause-ok
returns-clause-ok c =
    let place : c.args.place < length c.args.reached.now.queue.items = omega (arith, c.requires.within, c.args.reached.now.queue.ok.0) in
    let node : c.index.result.now.node < length c.args.kinds.now = entry_within _ _ _ _ c.requires.searching.knows c.args.place _ place c.index.ensures in
    look_done c.args.graph.now c.args.kinds.now c.loop-next.reached c.args.place c.index.result.now.node c.as_slice-next-items.result.now c.index-graph-node.result _
    (slice_get_read c.args.graph.now (length c.args.kinds.now) c.index.result.now.node c.index-graph-node.result (sym c.requires.graph.long) node c.index-graph-node.is)
    c.as_slice-next-items.ensures.value c.loop-next.invariant c.loop-next-test.false
