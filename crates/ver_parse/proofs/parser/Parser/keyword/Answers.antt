use Rattle.std.proofs.Common.{[], false, ap, ◌∙◌}
use Rattle.ver_ast.specs.Tokens.{word}
use Rattle.ver_parse.specs.working.Symbols.{an_item}
use Rattle.ver_parse.proofs.Leading.{exits, ended, refused}
use Rattle.std.proofs.Common.{false}
use Rattle.ver_lex.specs.declared.lexeme.Lexeme.TheVariants as lexeme
use Rattle.ver_parse.proofs.Heads.{reads_keyword, is_keyword, no_keyword, no_key, not_keyword, head_is, seen_as}
use Rattle.ver_parse.proofs.parser.Parser.keyword.Goals as goal

pub returns-in_err-spelling-clause-halts : goal.returns-in_err-spelling-clause-halts
returns-in_err-spelling-clause-halts c = exits _ c.from_residual.ensures.1 (ended an_item [] c.in_err-spelling.ensures)

pub returns-in-Some-clause-gives : goal.returns-in-Some-clause-gives
returns-in-Some-clause-gives c = reads_keyword c.in-Some.keyword c.in_ok-spelling.ensures c.pass.ensures.rest c.pass.ensures.depth (seen_as _ (lexeme.Word c.in-Word.spelling) _ c.in_ok-spelling.ensures.seen c.in-Word.is ∙ ap word c.in-Some.ensures.spelled)

pub returns-in-None-clause-halts : goal.returns-in-None-clause-halts
returns-in-None-clause-halts c = refused an_item (head_is is_keyword false c.in_ok-spelling.ensures (no_key c.in-Word.spelling.now _ (seen_as _ (lexeme.Word c.in-Word.spelling) _ c.in_ok-spelling.ensures.seen c.in-Word.is) c.in-None.ensures.value)) c.unexpected.ensures no_keyword

pub returns-in_default-clause-halts : goal.returns-in_default-clause-halts
returns-in_default-clause-halts c = refused an_item (head_is is_keyword false c.in_ok-spelling.ensures (not_keyword _ _ c.in_ok-spelling.ensures.seen c.in_default.not-Word)) c.unexpected-in_default.ensures no_keyword
