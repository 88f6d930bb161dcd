use Rattle.std.proofs.Common.{◌≡◌, ◌≤◌, length, Some, arith}
use Rattle.std.specs.Prelude.{slice_get}
use Rattle.std.proofs.lemmas.Grind.{common_steps}
use Rattle.std.proofs.lemmas.Option.{gets}
use Rattle.fir_drivers.proofs.StandingNodes.{zeros_at, zeros_past}
use Rattle.fir_drivers.proofs.drives.is_zeros.Goals as goal

pub returns-in-Some : goal.returns-in-Some
returns-in-Some c =
    let there : slice_get c.args.nodes.now c.args.place ≡ Some c.in-Some.node.now = grind (arith, common_steps, gets) in
    zeros_at c.args.nodes.now c.args.place c.in-Some.node.now c.gives_zeros.result there c.gives_zeros.ensures

pub returns-in-None : goal.returns-in-None
returns-in-None c =
    let past : length c.args.nodes.now ≤ c.args.place = grind (arith, common_steps) in
    zeros_past c.args.nodes.now c.args.place past
