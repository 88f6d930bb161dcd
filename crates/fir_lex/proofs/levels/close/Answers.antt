use Rattle.std.proofs.Common.{◌∙◌, arith}
use Rattle.fir_lex.specs.working.Steps.{tokens_in}
use Rattle.fir_lex.proofs.Moves.{close_more}
use Rattle.fir_lex.proofs.levels.close.Goals as goal

pub loop-level-preserved : goal.loop-level-preserved
loop-level-preserved c = (
  c.push_bare.ensures.text ∙ c.loop-level.invariant.0,
  close_more (tokens_in c.args.draft.now) (tokens_in c.loop-level.draft) (tokens_in c.push_bare.new.self) c.args.place c.args.levels.now c.loop-level._level-index (omega arith) c.loop-level.invariant.1 c.in_ok-push_bare.ensures.tokens,
)
