use Rattle.fir_commands.proofs.sim.SimSimulationCommand.fronts_begin.Goals as goal

pub returns : goal.returns
returns c text trace = c.fronts_begin.ensures text trace c.args.self.now.with_state
