use Rattle.ver_command.proofs.VsimLaws.{fronts_begin}
use Rattle.ver_command.proofs.vsim.VsimSimulationCommand.fronts_begin.Goals as goal

pub returns : goal.returns
returns c = fronts_begin c.fronts_begin.ensures c.args.self.now.with_state c.args.self.now.order
