use Rattle.std.proofs.Common.{sym, ap, ◌∙◌}
use Rattle.fir_leaf.specs.working.Nodes.{entries, picks_at}
use Rattle.fir_meaning.specs.working.TermReads.{reached}
use Rattle.fir_driven.specs.working.Indices.{elements_behind, leaves_behind}
use Rattle.fir_driven.proofs.IndexElements.{behind_index, reached_behind}
use Rattle.fir_driven.proofs.reached.reached_leaves.Goals as goal

pub loop-pick-preserved : goal.loop-pick-preserved
loop-pick-preserved c =
    let nodes = c.args.nodes.now in
    let first = c.args.first in
    let old = c.loop-pick.indices.items in
    let pick = c.in-Some.pick in
    let left = reached first (picks_at (entries nodes) pick.before) in
    c.loop-pick.invariant ∙ ap (leaves_behind old) (reached_behind nodes first c.loop-pick.next pick c.in-Some.ensures.index)
    ∙ sym (behind_index old pick left) ∙ ap (λ ps. leaves_behind ps left) (sym c.in_ok-push.ensures.items)

pub loop-pick-2-preserved : goal.loop-pick-2-preserved
loop-pick-2-preserved c =
    let rest = c.pop.new.self.items in
    let pick = c.in-Some-pop.pick in
    let leaves = c.loop-pick-2.leaves.items in
    c.loop-pick-2.invariant ∙ ap (λ ps. leaves_behind ps leaves) c.in-Some-pop.ensures.items ∙ behind_index rest pick leaves
    ∙ ap (leaves_behind rest) (ap (elements_behind pick) (sym c.deref.ensures.value) ∙ sym c.in_ok-leaves-2.ensures)
