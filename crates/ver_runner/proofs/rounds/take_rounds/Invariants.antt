use Rattle.std.proofs.Common.{◌≡◌}
use Rattle.ver_sim.specs.working.Views.{shown_env}
use Rattle.ver_runner.proofs.Turns.{TurnsTaken}
use Rattle.ver_runner.proofs.rounds.take_rounds.Given as goal

abbrev pub invariant-loop-taken : goal.invariant-loop-taken
invariant-loop-taken l = record {
  tree : l.sim.tree ≡ l.fn.sim.tree;
  state : l.sim.state ≡ l.fn.sim.state;
  taken : TurnsTaken l.fn.sim.tree l.fn.sim.state l.fn.round (shown_env l.fn.sim) (shown_env l.sim) l.taken;
}
