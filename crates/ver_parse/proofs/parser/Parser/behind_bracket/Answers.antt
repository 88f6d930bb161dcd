use Rattle.std.proofs.Common.{[], ◌∷◌, drop, subst}
use Rattle.ver_ast.specs.Grammar.{rhs_tokens}
use Rattle.ver_ast.specs.Tokens.{sign}
use Rattle.ver_parse.specs.working.Symbols.{a_token, a_number, an_atom, behind_index, behind_bracket, behind_atom}
use Rattle.ver_parse.specs.working.Fixed.{is_number_token, HeadIs}
use Rattle.ver_parse.proofs.Leading.{chained, tail, halts_into, tail_halts, exits, ended, turns}
use Rattle.ver_parse.proofs.Turns.{read_side, selected_side}
use Rattle.ver_parse.proofs.parser.Parser.behind_bracket.Goals as goal

pub returns-in_err-sees_number-clause-halts : goal.returns-in_err-sees_number-clause-halts
returns-in_err-sees_number-clause-halts c = exits _ c.from_residual.ensures.1 (ended behind_bracket [] c.in_err-sees_number.ensures)

pub returns-then-branch-clause-gives : goal.returns-then-branch-clause-gives
returns-then-branch-clause-gives c = tail _ _ (λ r. drop 2 (rhs_tokens r)) (turns behind_bracket (a_number ∷ behind_index ∷ behind_atom ∷ []) (subst (λ b. HeadIs is_number_token b c.args.self.now) c.if-branch.true c.in_ok-sees_number.ensures) selected_side) c.selected_side.ensures.gives

pub returns-then-branch-clause-halts : goal.returns-then-branch-clause-halts
returns-then-branch-clause-halts c = tail_halts _ (turns behind_bracket (a_number ∷ behind_index ∷ behind_atom ∷ []) (subst (λ b. HeadIs is_number_token b c.args.self.now) c.if-branch.true c.in_ok-sees_number.ensures) selected_side) c.selected_side.ensures.halts

pub returns-in_err-index-clause-halts : goal.returns-in_err-index-clause-halts
returns-in_err-index-clause-halts c = exits _ c.from_residual-in_err-index.ensures.1 (halts_into (turns behind_bracket (an_atom ∷ a_token (sign 93) ∷ []) (subst (λ b. HeadIs is_number_token b c.args.self.now) c.if-branch.false c.in_ok-sees_number.ensures) read_side) c.in_err-index.ensures.halts)

pub returns-in_ok-index-clause-gives : goal.returns-in_ok-index-clause-gives
returns-in_ok-index-clause-gives c = chained (turns behind_bracket (an_atom ∷ a_token (sign 93) ∷ []) (subst (λ b. HeadIs is_number_token b c.args.self.now) c.if-branch.false c.in_ok-sees_number.ensures) read_side) c.in_ok-index.ensures.gives
