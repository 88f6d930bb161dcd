use Rattle.std.proofs.Common.{refl, ◌∙◌, arith}
use Rattle.ver_sim.specs.working.Views.{shown_env}
use Rattle.ver_runner.proofs.Turns.{no_turns, turn_settled, turn_taken, never_shown}
use Rattle.ver_runner.proofs.rounds.take_rounds.Goals as goal

pub loop-taken-init : goal.loop-taken-init
loop-taken-init c = record {
  tree = refl;
  state = refl;
  taken = no_turns c.args.sim.now.tree c.args.sim.now.state c.args.round.now (shown_env c.args.sim.now);
}

pub returns-in-Ok-clause-some : goal.returns-in-Ok-clause-some
returns-in-Ok-clause-some c =
    let h = c.loop-taken.invariant in
    turn_settled c.args.sim.now c.loop-taken.sim c.settle_by.new.self c.args.round.now h.tree h.state c.settle_by.ensures.tree c.settle_by.ensures.state c.settle_by.ensures.steps
    c.loop-taken.taken h.taken c.in-Ok.ensures.settled (omega arith)

pub loop-taken-preserved : goal.loop-taken-preserved
loop-taken-preserved c =
    let h = c.loop-taken.invariant in
    record {
      tree = c.settle_by.ensures.tree ∙ h.tree;
      state = c.settle_by.ensures.state ∙ h.state;
      taken =
          turn_taken c.args.sim.now c.loop-taken.sim c.settle_by.new.self c.args.round.now h.tree h.state c.settle_by.ensures.tree c.settle_by.ensures.state
          c.settle_by.ensures.steps c.loop-taken.taken h.taken c.in-Err.field-0 c.in-Err.ensures.not_yet;
    }

pub returns-clause-none : goal.returns-clause-none
returns-clause-none c =
    never_shown c.args.sim.now.tree c.args.sim.now.state c.args.round.now (shown_env c.args.sim.now) (shown_env c.loop-taken.sim) c.loop-taken.taken c.loop-taken.invariant.taken (omega arith)
