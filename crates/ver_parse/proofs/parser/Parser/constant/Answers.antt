use Rattle.std.proofs.Common.{[], false}
use Rattle.ver_parse.specs.working.Symbols.{a_constant}
use Rattle.ver_parse.proofs.Leading.{exits, ended, refused}
use Rattle.std.proofs.Common.{false}
use Rattle.ver_lex.specs.declared.lexeme.Lexeme.TheVariants as lexeme
use Rattle.ver_parse.proofs.Heads.{took_constant, head_is, seen_as, not_constant, in_type}
use Rattle.ver_parse.proofs.Turns.{is_constant_token, no_constant}
use Rattle.ver_parse.proofs.parser.Parser.constant.Goals as goal

pub returns-in_err-found-clause-halts : goal.returns-in_err-found-clause-halts
returns-in_err-found-clause-halts c = exits _ c.from_residual.ensures.1 (ended a_constant [] c.in_err-found.ensures)

pub returns-in-Constant-clause-gives : goal.returns-in-Constant-clause-gives
returns-in-Constant-clause-gives c = took_constant c.in-Constant.found c.in_ok-found.ensures c.pass.ensures.rest c.pass.ensures.depth (seen_as _ (lexeme.Constant c.in-Constant.found) _ c.in_ok-found.ensures.seen c.in-Constant.is)

pub returns-in-Constant-clause-in_type : goal.returns-in-Constant-clause-in_type
returns-in-Constant-clause-in_type c = in_type c.in-Constant.found _ (seen_as _ (lexeme.Constant c.in-Constant.found) _ c.in_ok-found.ensures.seen c.in-Constant.is)

pub returns-in_default-clause-halts : goal.returns-in_default-clause-halts
returns-in_default-clause-halts c = refused a_constant (head_is is_constant_token false c.in_ok-found.ensures (not_constant _ _ c.in_ok-found.ensures.seen c.in_default.not-Constant)) c.unexpected.ensures no_constant
