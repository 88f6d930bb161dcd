use Rattle.std.proofs.Common.{◌≡◌, ◌<◌, ℕ, List, length, take, Some, refl, ap, ◌∙◌, sym, subst, arith}
use Rattle.std.proofs.lemmas.List.{get_or_read}
use Rattle.std.proofs.lemmas.Option.{slice_get_read}
use Rattle.fir_net.specs.declared.node.Node.{Node}
use Rattle.fir_merge.specs.working.NodeTerms.{ReadBefore}
use Rattle.fir_flatten.specs.working.KeptNodes.{AreNeeded, moved_node}
use Rattle.fir_flatten.proofs.CopiedNodes.{Copied, all_kept}
use Rattle.fir_flatten.proofs.KeptInPlace.{none_kept, one_kept}
use Rattle.fir_flatten.proofs.kept_nodes.keep_nodes.Goals as goal
use Rattle.fir_flatten.proofs.kept_nodes.keep_nodes.Goals.{then-index+in_ok-renumber, else-index}

pub loop-number-preserved : goal.loop-number-preserved
loop-number-preserved c =
    let nodes = c.args.nodes.items in
    let roles = c.args.roles.now in
    let marks = c.in_ok-needed.needed.items in
    let i = c.loop-number.number in
    let now = c.loop-number.nodes.items in
    let places = c.loop-number.places.items in
    let so = c.loop-number.invariant in
    let same : c.deref.result.now ≡ nodes = c.deref.ensures.value in
    let needed : ReadBefore 0 nodes → AreNeeded nodes roles marks =
    subst (λ (ns : List Node). ReadBefore 0 ns → AreNeeded ns roles marks) same c.in_ok-needed.ensures.needed in
    let within : i < length nodes = omega (arith, so.long, c.loop-number-test.true) in
    let long : i < length marks = omega (arith, c.in_ok-needed.ensures.count, ap length same, within) in
    let mark = slice_get_read marks (length marks) i c.index.result.now refl long c.index.ensures in
    rw c.in_ok-push.ensures.items
    (elim c.if-index.branch [
      | then-index+in_ok-renumber w ↦
          let n = w.index-then-index.result.now in
          let again : w.index_mut.result.now ≡ n =
          get_or_read now i w.index_mut.result.now (omega (arith, so.long, within)) w.index_mut.ensures.value n ∙ sym w.index-then-index.ensures in
          let renumbered : w.renumber.new.node ≡ moved_node places n =
          w.in_ok-renumber.ensures ∙ ap (λ (ps : List ℕ). moved_node ps w.index_mut.result.now) w.deref-then-index.ensures.value ∙ ap (moved_node places) again in
          rw (w.nodes-is, w.count-is, w.swap.ensures.items, renumbered)
          (one_kept nodes roles marks i c.loop-number.count now places within so needed n w.index-then-index.ensures w.has_form.ensures
          (mark ∙ ap Some w.if-index.true))
      | else-index w ↦
          rw (w.nodes-is, w.count-is)
          (none_kept nodes roles marks i c.loop-number.count now places within so (mark ∙ ap Some w.if-index.false))
    ])

pub returns : goal.returns
returns c =
    let nodes = c.args.nodes.items in
    let roles = c.args.roles.now in
    let marks = c.in_ok-needed.needed.items in
    let same : c.deref.result.now ≡ nodes = c.deref.ensures.value in
    let needed : ReadBefore 0 nodes → AreNeeded nodes roles marks =
    subst (λ (ns : List Node). ReadBefore 0 ns → AreNeeded ns roles marks) same c.in_ok-needed.ensures.needed in
    let all : c.loop-number.number ≡ length nodes = omega (arith, c.loop-number.invariant.long, c.loop-number.auto.number-end, c.loop-number-test.false) in
    λ before.
    all_kept nodes roles marks (needed before) before (record { nodes = c.truncate.new.self; places = c.loop-number.places })
    (rw c.truncate.ensures.items
    (subst (λ (i : ℕ). Copied nodes roles marks i (take c.loop-number.count c.loop-number.nodes.items) c.loop-number.places.items) all
    (c.loop-number.invariant.front before)))
