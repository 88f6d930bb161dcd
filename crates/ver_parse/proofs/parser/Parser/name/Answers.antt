use Rattle.std.proofs.Common.{[], ◌∷◌, false, sym, ◌∙◌, subst}
use Rattle.ver_ast.specs.Tokens.{word}
use Rattle.ver_parse.specs.working.Symbols.{a_name}
use Rattle.ver_parse.specs.working.Reads.{Leads}
use Rattle.ver_parse.proofs.Leading.{exits, ended, refused}
use Rattle.std.proofs.Common.{false}
use Rattle.ver_lex.specs.declared.lexeme.Lexeme.TheVariants as lexeme
use Rattle.ver_parse.proofs.Heads.{took_name, head_is, seen_as, not_named, reserved, named}
use Rattle.ver_parse.proofs.Turns.{is_name_token, no_name}
use Rattle.ver_words.specs.Names.{IsName}
use Rattle.ver_parse.proofs.parser.Parser.name.Goals as goal

pub returns-in_err-spelling-clause-halts : goal.returns-in_err-spelling-clause-halts
returns-in_err-spelling-clause-halts c = exits _ c.from_residual.ensures.1 (ended a_name [] c.in_err-spelling.ensures)

pub returns-in_ok-new-in-Word-clause-gives : goal.returns-in_ok-new-in-Word-clause-gives
returns-in_ok-new-in-Word-clause-gives c = subst (λ n. Leads (a_name ∷ []) (word n ∷ []) [] c.args.self.now c.pass.new.self) (sym c.in_ok-new-in-Word.ensures) (took_name c.in-Word.spelling.now c.in_ok-spelling.ensures c.pass.ensures.rest c.pass.ensures.depth (seen_as _ (lexeme.Word c.in-Word.spelling) _ c.in_ok-spelling.ensures.seen c.in-Word.is) (sym c.is_name.ensures ∙ c.if-is_name.true))

pub returns-in_ok-new-in-Word-clause-named : goal.returns-in_ok-new-in-Word-clause-named
returns-in_ok-new-in-Word-clause-named c = subst IsName (sym c.in_ok-new-in-Word.ensures) (named c.in-Word.spelling.now (sym c.is_name.ensures ∙ c.if-is_name.true))

pub returns-else-is_name-clause-halts : goal.returns-else-is_name-clause-halts
returns-else-is_name-clause-halts c = refused a_name (head_is is_name_token false c.in_ok-spelling.ensures (reserved c.in-Word.spelling.now _ (seen_as _ (lexeme.Word c.in-Word.spelling) _ c.in_ok-spelling.ensures.seen c.in-Word.is) (sym c.is_name.ensures ∙ c.if-is_name.false))) c.unexpected.ensures no_name

pub returns-in_default-clause-halts : goal.returns-in_default-clause-halts
returns-in_default-clause-halts c = refused a_name (head_is is_name_token false c.in_ok-spelling.ensures (not_named _ _ c.in_ok-spelling.ensures.seen c.in_default.not-Word)) c.unexpected-in_default.ensures no_name
