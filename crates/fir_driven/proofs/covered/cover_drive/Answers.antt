use Rattle.fir_driven.proofs.CoveredStatements.{listed_behind, passed_by}
use Rattle.fir_driven.proofs.covered.cover_drive.Goals as goal

pub returns-then-is_picked : goal.returns-then-is_picked
returns-then-is_picked c = λ depths k x. passed_by c.args.nodes.now c.args.drive.now c.args.found.now.items depths k x c.if-is_picked.ensures

pub returns : goal.returns
returns c = λ depths k x. listed_behind c.args.nodes.now c.args.drive.now _ _ depths k x c.if-is_picked.ensures c.in_ok-push.ensures.items
