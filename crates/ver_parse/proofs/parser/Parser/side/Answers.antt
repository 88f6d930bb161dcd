use Rattle.std.proofs.Common.{[], ◌∷◌, refl, subst}
use Rattle.ver_ast.specs.Grammar.{rhs_tokens}
use Rattle.ver_ast.specs.Tokens.{sign, signed_word}
use Rattle.ver_parse.specs.working.Symbols.{a_token, a_name, an_atom, a_side, other_side, behind_side_name, behind_signed}
use Rattle.ver_parse.specs.working.Fixed.{is_word_token, TriesOk, Keeps, HeadIs}
use Rattle.ver_parse.proofs.Leading.{kept_to, tail, tail_part, tail_halts, exits, ended, took, turns, turns_twice}
use Rattle.ver_parse.proofs.Turns.{named_side, not_signed}
use Rattle.ver_parse.proofs.parser.Parser.side.Goals as goal

pub returns-in_err-sees_word-clause-halts : goal.returns-in_err-sees_word-clause-halts
returns-in_err-sees_word-clause-halts c = exits _ c.from_residual.ensures.1 (ended a_side [] c.in_err-sees_word.ensures)

pub returns-in_err-takes-clause-halts : goal.returns-in_err-takes-clause-halts
returns-in_err-takes-clause-halts c = exits _ c.from_residual-in_err-takes.ensures.1 (ended a_side [] c.in_err-takes.ensures.tries)

pub returns-then-branch-clause-gives : goal.returns-then-branch-clause-gives
returns-then-branch-clause-gives c = tail _ _ rhs_tokens (turns a_side (a_name ∷ behind_side_name ∷ []) (subst (λ b. HeadIs is_word_token b c.args.self.now) c.if-branch.true c.in_ok-sees_word.ensures) named_side) c.named_side.ensures.gives

pub returns-then-branch-clause-halts : goal.returns-then-branch-clause-halts
returns-then-branch-clause-halts c = tail_halts _ (turns a_side (a_name ∷ behind_side_name ∷ []) (subst (λ b. HeadIs is_word_token b c.args.self.now) c.if-branch.true c.in_ok-sees_word.ensures) named_side) c.named_side.ensures.halts

pub returns-then-branch-2-clause-gives : goal.returns-then-branch-2-clause-gives
returns-then-branch-2-clause-gives c = tail_part _ _ [] (signed_word ∷ []) rhs_tokens (took a_side (a_token (sign 40) ∷ an_atom ∷ a_token (sign 41) ∷ behind_signed ∷ []) signed_word (subst (λ b. TriesOk signed_word c.args.self.now c.takes.new.self b) c.if-branch-2.true c.in_ok-takes.ensures.tries) refl refl) c.signed_side.ensures.front c.signed_side.ensures.gives

pub returns-then-branch-2-clause-halts : goal.returns-then-branch-2-clause-halts
returns-then-branch-2-clause-halts c = tail_halts _ (took a_side (a_token (sign 40) ∷ an_atom ∷ a_token (sign 41) ∷ behind_signed ∷ []) signed_word (subst (λ b. TriesOk signed_word c.args.self.now c.takes.new.self b) c.if-branch-2.true c.in_ok-takes.ensures.tries) refl refl) c.signed_side.ensures.halts

pub returns-else-branch-2-clause-gives : goal.returns-else-branch-2-clause-gives
returns-else-branch-2-clause-gives c = tail _ _ rhs_tokens (kept_to (subst (λ b. TriesOk signed_word c.args.self.now c.takes.new.self b) c.if-branch-2.false c.in_ok-takes.ensures.tries) (turns_twice a_side (other_side ∷ []) (subst (λ b. HeadIs is_word_token b c.args.self.now) c.if-branch.false c.in_ok-sees_word.ensures) (Keeps.head (subst (λ b. TriesOk signed_word c.args.self.now c.takes.new.self b) c.if-branch-2.false c.in_ok-takes.ensures.tries)) not_signed)) c.other_side.ensures.gives

pub returns-else-branch-2-clause-halts : goal.returns-else-branch-2-clause-halts
returns-else-branch-2-clause-halts c = tail_halts _ (kept_to (subst (λ b. TriesOk signed_word c.args.self.now c.takes.new.self b) c.if-branch-2.false c.in_ok-takes.ensures.tries) (turns_twice a_side (other_side ∷ []) (subst (λ b. HeadIs is_word_token b c.args.self.now) c.if-branch.false c.in_ok-sees_word.ensures) (Keeps.head (subst (λ b. TriesOk signed_word c.args.self.now c.takes.new.self b) c.if-branch-2.false c.in_ok-takes.ensures.tries)) not_signed)) c.other_side.ensures.halts
