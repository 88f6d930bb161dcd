use Rattle.std.proofs.Common.{◌≡◌, [], false, sym, ap, ◌∙◌, subst}
use Rattle.ver_ast.specs.Grammar.{binary_token}
use Rattle.ver_parse.specs.working.Symbols.{a_signed_operator}
use Rattle.ver_parse.proofs.Leading.{exits, ended, refused}
use Rattle.std.proofs.Common.{false, is_some}
use Rattle.ver_lex.specs.declared.lexeme.Lexeme.TheVariants as lexeme
use Rattle.ver_parse.proofs.Heads.{reads_signed, is_signed, no_signed, head_is}
use Rattle.std.proofs.Common.{IfSome}
use Rattle.ver_parse.specs.working.Steps.{signed_op}
use Rattle.ver_parse.proofs.parser.Parser.signed.Goals as goal

pub returns-in_err-next-clause-halts : goal.returns-in_err-next-clause-halts
returns-in_err-next-clause-halts c = exits _ c.from_residual.ensures.1 (ended a_signed_operator [] c.in_err-next.ensures)

pub returns-in-Some-clause-gives : goal.returns-in-Some-clause-gives
returns-in-Some-clause-gives c = reads_signed c.in-Some.op c.in_ok-next.ensures c.pass.ensures.rest c.pass.ensures.depth (subst (λ o. IfSome o (λ b. c.in_ok-next.ensures.token.token ≡ binary_token b)) c.in-Some.ensures.spelled (c.binary_of.ensures.spelled _ c.in_ok-next.ensures.seen))

pub returns-in-None-clause-halts : goal.returns-in-None-clause-halts
returns-in-None-clause-halts c = refused a_signed_operator (head_is is_signed false c.in_ok-next.ensures (ap (λ o. is_some (signed_op o)) (sym (c.binary_of.ensures.value _ c.in_ok-next.ensures.seen)) ∙ ap is_some (sym c.in-None.ensures.value))) c.unexpected.ensures no_signed
