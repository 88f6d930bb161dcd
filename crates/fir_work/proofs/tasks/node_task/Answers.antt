use Rattle.std.proofs.Common.{◌≡◌, length, Some, refl, subst}
use Rattle.std.specs.Prelude.{slice_get}
use Rattle.std.proofs.lemmas.Option.{slice_get_read}
use Rattle.fir_net.specs.declared.node.Node.{Node}
use Rattle.fir_work.specs.working.Tasks.{IsNodeTask}
use Rattle.fir_work.proofs.GeneralWay.{node_whole, general_task}
use Rattle.fir_work.proofs.tasks.node_task.Goals as goal

pub usual_task-requires-clause-is : goal.usual_task-requires-clause-is
usual_task-requires-clause-is c =
    let nodes = c.args.net.now.nodes in
    let found = slice_get_read nodes (length nodes) c.args.number _ refl c.requires.there (rw c.as_slice.ensures at c.index-as_slice-number.is) in
    node_whole c.args.net.now c.requires.whole c.args.number c.index-as_slice-number.result found

pub returns-in-Some : goal.returns-in-Some
returns-in-Some c = λ n at.
    let nodes = c.args.net.now.nodes in
    let node = c.index-as_slice-number.result in
    let found : slice_get nodes c.args.number ≡ Some node = slice_get_read nodes (length nodes) c.args.number node refl c.requires.there (rw c.as_slice.ensures at c.index-as_slice-number.is) in
    let same : node ≡ n = cc in
    subst (λ (x : Node). IsNodeTask c.args.net.now x c.in-Some.task) same c.in-Some.ensures

pub returns-in-None : goal.returns-in-None
returns-in-None c = rw c.alone.ensures (general_task c.args.net.now c.requires.whole c.args.number)
