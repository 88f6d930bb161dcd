use Rattle.std.proofs.Common.{[], refl, subst}
use Rattle.ver_ast.specs.Tokens.{sign}
use Rattle.ver_parse.specs.working.Symbols.{a_token}
use Rattle.ver_parse.specs.working.Fixed.{TriesOk}
use Rattle.ver_parse.proofs.Leading.{exits, took, refused_behind, end_or_full}
use Rattle.ver_parse.proofs.Turns.{other_token}
use Rattle.ver_parse.proofs.parser.Parser.opening_brace.Goals as goal

pub returns-in_err-takes_brace-clause-halts : goal.returns-in_err-takes_brace-clause-halts
returns-in_err-takes_brace-clause-halts c = exits _ c.from_residual.ensures.1 (end_or_full (a_token (sign 123)) [] c.in_err-takes_brace.ensures.tries refl)

pub returns-then-branch-clause-gives : goal.returns-then-branch-clause-gives
returns-then-branch-clause-gives c = took (a_token (sign 123)) [] (sign 123) (subst (λ b. TriesOk (sign 123) c.args.self.now c.takes_brace.new.self b) c.if-branch.true c.in_ok-takes_brace.ensures.tries) refl refl

pub returns-else-branch-clause-halts : goal.returns-else-branch-clause-halts
returns-else-branch-clause-halts c = refused_behind (a_token (sign 123)) (subst (λ b. TriesOk (sign 123) c.args.self.now c.takes_brace.new.self b) c.if-branch.false c.in_ok-takes_brace.ensures.tries) c.unexpected.ensures (other_token (sign 123))
