use Rattle.std.proofs.Common.{[], false}
use Rattle.ver_parse.specs.working.Symbols.{a_number}
use Rattle.ver_parse.specs.working.Fixed.{is_number_token}
use Rattle.ver_lex.specs.declared.lexeme.Lexeme.TheVariants as lexeme
use Rattle.ver_parse.proofs.Leading.{exits, ended, refused}
use Rattle.ver_parse.proofs.Heads.{took_zero, took_number, head_is, seen_as, not_number}
use Rattle.ver_parse.proofs.Turns.{no_number}
use Rattle.ver_parse.proofs.parser.Parser.number.Goals as goal

pub returns-in_err-peek-clause-halts : goal.returns-in_err-peek-clause-halts
returns-in_err-peek-clause-halts c = exits _ c.from_residual.ensures.1 (ended a_number [] c.in_err-peek.ensures)

pub returns-in-Zero-clause-gives : goal.returns-in-Zero-clause-gives
returns-in-Zero-clause-gives c = took_zero c.in_ok-peek.ensures c.pass.ensures.rest c.pass.ensures.depth (seen_as _ lexeme.Zero _ c.in_ok-peek.ensures.seen c.in-Zero.is)

pub returns-in-Number-clause-gives : goal.returns-in-Number-clause-gives
returns-in-Number-clause-gives c =
    took_number c.in-Number.found c.in_ok-peek.ensures c.pass-in-Number.ensures.rest c.pass-in-Number.ensures.depth (seen_as _ (lexeme.Number c.in-Number.found) _ c.in_ok-peek.ensures.seen c.in-Number.is)

pub returns-in_default-clause-halts : goal.returns-in_default-clause-halts
returns-in_default-clause-halts c =
    refused a_number (head_is is_number_token false c.in_ok-peek.ensures (not_number _ _ c.in_ok-peek.ensures.seen c.in_default.not-Zero c.in_default.not-Number)) c.unexpected.ensures no_number
