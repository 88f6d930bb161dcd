use Rattle.std.proofs.Common.{[], false, ap, ◌∙◌}
use Rattle.ver_ast.specs.Tokens.{word}
use Rattle.ver_parse.specs.working.Symbols.{a_direction}
use Rattle.ver_parse.proofs.Leading.{exits, ended, refused}
use Rattle.std.proofs.Common.{false}
use Rattle.ver_lex.specs.declared.lexeme.Lexeme.TheVariants as lexeme
use Rattle.ver_parse.proofs.Heads.{reads_direction, is_direction, no_direction, other_word, not_direction, head_is, seen_as}
use Rattle.ver_parse.proofs.parser.Parser.direction.Goals as goal

pub returns-in_err-spelling-clause-halts : goal.returns-in_err-spelling-clause-halts
returns-in_err-spelling-clause-halts c = exits _ c.from_residual.ensures.1 (ended a_direction [] c.in_err-spelling.ensures)

pub returns-in-Some-clause-gives : goal.returns-in-Some-clause-gives
returns-in-Some-clause-gives c = reads_direction c.in-Some.direction c.in_ok-spelling.ensures c.pass.ensures.rest c.pass.ensures.depth (seen_as _ (lexeme.Word c.in-Word.spelling) _ c.in_ok-spelling.ensures.seen c.in-Word.is ∙ ap word c.in-Some.ensures.spelled)

pub returns-in-None-clause-halts : goal.returns-in-None-clause-halts
returns-in-None-clause-halts c = refused a_direction (head_is is_direction false c.in_ok-spelling.ensures (other_word c.in-Word.spelling.now _ (seen_as _ (lexeme.Word c.in-Word.spelling) _ c.in_ok-spelling.ensures.seen c.in-Word.is) c.in-None.ensures.value)) c.unexpected.ensures no_direction

pub returns-in_default-clause-halts : goal.returns-in_default-clause-halts
returns-in_default-clause-halts c = refused a_direction (head_is is_direction false c.in_ok-spelling.ensures (not_direction _ _ c.in_ok-spelling.ensures.seen c.in_default.not-Word)) c.unexpected-in_default.ensures no_direction
