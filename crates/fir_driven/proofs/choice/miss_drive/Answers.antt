use Rattle.std.proofs.Common.{sym, ◌∙◌}
use Rattle.fir_leaf.specs.declared.statement.LeafStmt.TheVariants as code
use Rattle.fir_leaf.specs.working.Nodes.{entries, node_term, picks_at}
use Rattle.fir_leaf.specs.working.NodeBlocks.{statement_in}
use Rattle.fir_driven.proofs.LeafViews.{drive_view}
use Rattle.fir_driven.proofs.MissesOfDrives.{misses_apart, misses_never, misses_through}
use Rattle.fir_driven.proofs.choice.miss_drive.Goals as goal

pub returns-then-not-branch : goal.returns-then-not-branch
returns-then-not-branch c = λ depth.
    let nodes = c.args.nodes.now in
    let d = c.args.drive.now in
    misses_apart c.args.asked (statement_in nodes (code.Drive d)) depth c.args.outcomes.now.items d.place d.leaf (picks_at (entries nodes) d.picks)
    (node_term nodes d.given) (drive_view nodes d) (sym c.in_ok-may_drive.ensures ∙ c.if-not-branch.true)

pub returns-then-is_picked : goal.returns-then-is_picked
returns-then-is_picked c = λ depth.
    let nodes = c.args.nodes.now in
    let d = c.args.drive.now in
    rw c.in_ok-push.ensures.items
    (misses_through c.args.asked (statement_in nodes (code.Drive d)) depth c.args.outcomes.now.items d.place d.leaf (picks_at (entries nodes) d.picks)
    (node_term nodes d.given) (drive_view nodes d) (sym c.in_ok-may_drive.ensures ∙ c.if-not-branch.false) (sym c.is_picked.ensures ∙ c.if-is_picked.true))

pub returns : goal.returns
returns c = λ depth.
    let nodes = c.args.nodes.now in
    let d = c.args.drive.now in
    misses_never c.args.asked (statement_in nodes (code.Drive d)) depth c.args.outcomes.now.items d.place d.leaf (picks_at (entries nodes) d.picks)
    (node_term nodes d.given) (drive_view nodes d) (sym c.in_ok-may_drive.ensures ∙ c.if-not-branch.false) (sym c.is_picked.ensures ∙ c.if-is_picked.false)
