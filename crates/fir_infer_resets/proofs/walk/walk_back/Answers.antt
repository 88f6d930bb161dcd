use Rattle.std.proofs.Common.{◌<◌, length}
use Rattle.fir_infer_resets.specs.declared.graph.Kind.TheVariants.{Other, Asynchronous}
use Rattle.fir_infer_resets.proofs.Read.{kind_there, kind_other, entry_within}
use Rattle.fir_infer_resets.proofs.WalkEnds.{place_within, turn}
use Rattle.fir_infer_resets.proofs.walk.walk_back.Goals as goal

pub bounds : goal.bounds
bounds c = entry_within _ _ _ _ c.requires.knows c.loop-nodes.place _ (place_within _ _ _ _ c.requires.knows _ _ c.loop-nodes.invariant) c.index-entry.ensures

pub returns-in-Asynchronous : goal.returns-in-Asynchronous
returns-in-Asynchronous c =
    let within : c.index-entry.result.now.node < length c.args.kinds.now = entry_within _ _ _ _ c.requires.knows c.loop-nodes.place _ (place_within _ _ _ _ c.requires.knows _ _ c.loop-nodes.invariant) c.index-entry.ensures in
    (turn _ _ _ _ c.requires.knows _ _ c.loop-nodes.invariant _ _ c.index-entry.ensures c.in_ok-push-2.ensures.items).ends
    (kind_there _ _ Other Asynchronous within c.in-Asynchronous.is)

pub loop-nodes-preserved : goal.loop-nodes-preserved
loop-nodes-preserved c =
    let within : c.index-entry.result.now.node < length c.args.kinds.now = entry_within _ _ _ _ c.requires.knows c.loop-nodes.place _ (place_within _ _ _ _ c.requires.knows _ _ c.loop-nodes.invariant) c.index-entry.ensures in
    (turn _ _ _ _ c.requires.knows _ _ c.loop-nodes.invariant _ _ c.index-entry.ensures c.in_ok-push-2.ensures.items).goes_on
    (kind_other _ _ Other Asynchronous within c.in_default.not-Asynchronous)

pub loop-nodes-smaller : goal.loop-nodes-smaller
loop-nodes-smaller c =
    let within : c.index-entry.result.now.node < length c.args.kinds.now = entry_within _ _ _ _ c.requires.knows c.loop-nodes.place _ (place_within _ _ _ _ c.requires.knows _ _ c.loop-nodes.invariant) c.index-entry.ensures in
    (turn _ _ _ _ c.requires.knows _ _ c.loop-nodes.invariant _ _ c.index-entry.ensures c.in_ok-push-2.ensures.items).less
    (kind_other _ _ Other Asynchronous within c.in_default.not-Asynchronous)
