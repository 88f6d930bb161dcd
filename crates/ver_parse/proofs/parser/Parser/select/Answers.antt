use Rattle.std.proofs.Common.{[], ◌∷◌, refl, subst}
use Rattle.ver_ast.specs.Grammar.{atom_tokens}
use Rattle.ver_ast.specs.Tokens.{word, number, sign}
use Rattle.ver_parse.specs.working.Symbols.{a_number, a_select, behind_index}
use Rattle.ver_parse.specs.working.Fixed.{TriesOk}
use Rattle.ver_parse.proofs.Leading.{chained, beside, tail_part, tail_front, halts_into, halts_more, tail_halts, exits, ended, took, turned}
use Rattle.ver_parse.proofs.Turns.{no_select}
use Rattle.ver_parse.proofs.parser.Parser.select.Goals as goal

pub returns-in_err-takes-clause-halts : goal.returns-in_err-takes-clause-halts
returns-in_err-takes-clause-halts c = exits _ c.from_residual.ensures.1 (ended a_select [] c.in_err-takes.ensures.tries)

pub returns-in_err-high-clause-halts : goal.returns-in_err-high-clause-halts
returns-in_err-high-clause-halts c = exits _ c.from_residual-in_err-high.ensures.1 (halts_into (took a_select (a_number ∷ behind_index ∷ []) (sign 91) (subst (λ b. TriesOk (sign 91) c.args.self.now c.takes.new.self b) c.if-branch.true c.in_ok-takes.ensures.tries) refl refl) (halts_more (behind_index ∷ []) c.in_err-high.ensures.halts))

pub returns-in_ok-high-clause-gives : goal.returns-in_ok-high-clause-gives
returns-in_ok-high-clause-gives c = tail_part _ _ (word c.args.name ∷ []) (sign 91 ∷ number c.in_ok-high.high ∷ []) atom_tokens (chained (took a_select (a_number ∷ behind_index ∷ []) (sign 91) (subst (λ b. TriesOk (sign 91) c.args.self.now c.takes.new.self b) c.if-branch.true c.in_ok-takes.ensures.tries) refl refl) (beside (behind_index ∷ []) c.in_ok-high.ensures.gives)) c.index_end.ensures.front c.index_end.ensures.gives

pub returns-in_ok-high-clause-halts : goal.returns-in_ok-high-clause-halts
returns-in_ok-high-clause-halts c = tail_halts _ (chained (took a_select (a_number ∷ behind_index ∷ []) (sign 91) (subst (λ b. TriesOk (sign 91) c.args.self.now c.takes.new.self b) c.if-branch.true c.in_ok-takes.ensures.tries) refl refl) (beside (behind_index ∷ []) c.in_ok-high.ensures.gives)) c.index_end.ensures.halts

pub returns-in_ok-high-clause-front : goal.returns-in_ok-high-clause-front
returns-in_ok-high-clause-front c = tail_front _ (word c.args.name ∷ []) (sign 91 ∷ number c.in_ok-high.high ∷ []) atom_tokens c.index_end.ensures.front

pub returns-else-branch-clause-gives : goal.returns-else-branch-clause-gives
returns-else-branch-clause-gives c = turned a_select [] (subst (λ b. TriesOk (sign 91) c.args.self.now c.takes.new.self b) c.if-branch.false c.in_ok-takes.ensures.tries) no_select
