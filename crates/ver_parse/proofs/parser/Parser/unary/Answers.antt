use Rattle.std.proofs.Common.{sym, ap}
use Rattle.ver_parse.specs.working.Fixed.{is_unary}
use Rattle.std.proofs.Common.{is_some}
use Rattle.ver_lex.specs.declared.lexeme.Lexeme.TheVariants as lexeme
use Rattle.ver_parse.proofs.Heads.{keeps, took_unary}
use Rattle.ver_parse.proofs.parser.Parser.unary.Goals as goal

pub returns-in-Some-clause-tries : goal.returns-in-Some-clause-tries
returns-in-Some-clause-tries c = took_unary c.in-Some.op c.in_ok-next.ensures c.pass.ensures.rest c.pass.ensures.depth (c.in-Some.ensures.spelled _ c.in_ok-next.ensures.seen)

pub returns-in-None-clause-tries : goal.returns-in-None-clause-tries
returns-in-None-clause-tries c = keeps is_unary c.in_ok-next.ensures (ap is_some (sym (c.in-None.ensures.value _ c.in_ok-next.ensures.seen)))
