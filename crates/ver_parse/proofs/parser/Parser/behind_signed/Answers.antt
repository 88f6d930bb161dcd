use Rattle.std.proofs.Common.{[], ◌∷◌, ◌++◌, refl, subst}
use Rattle.ver_ast.specs.Grammar.{atom_tokens, signed_tokens, binary_token, unsigned_op}
use Rattle.ver_ast.specs.Tokens.{sign, signed_shift, signed_word}
use Rattle.ver_parse.specs.working.Symbols.{a_token, an_atom, behind_signed, a_signed_operator}
use Rattle.ver_parse.specs.working.Fixed.{TriesOk}
use Rattle.ver_parse.proofs.Leading.{chained, ◌▸◌, cut, front_is, halts_into, halts_more, halts_behind, exits, ended, took, turned}
use Rattle.ver_parse.proofs.Turns.{no_signed_shift}
use Rattle.ver_parse.proofs.parser.Parser.behind_signed.Goals as goal

pub returns-in_err-takes-clause-halts : goal.returns-in_err-takes-clause-halts
returns-in_err-takes-clause-halts c = exits _ c.from_residual.ensures.1 (ended behind_signed [] c.in_err-takes.ensures.tries)

pub returns-in_err-second-clause-halts : goal.returns-in_err-second-clause-halts
returns-in_err-second-clause-halts c = exits _ c.from_residual-in_err-second.ensures.1 (halts_into (took behind_signed (an_atom ∷ []) signed_shift (subst (λ b. TriesOk signed_shift c.args.self.now c.takes.new.self b) c.if-branch.true c.in_ok-takes.ensures.tries) refl refl) c.in_err-second.ensures.halts)

pub returns-in_ok-second-clause-gives : goal.returns-in_ok-second-clause-gives
returns-in_ok-second-clause-gives c = cut (signed_tokens c.args.first) (signed_shift ∷ atom_tokens c.in_ok-second.second) (signed_tokens c.args.first ++ signed_shift ∷ atom_tokens c.in_ok-second.second) refl (chained (took behind_signed (an_atom ∷ []) signed_shift (subst (λ b. TriesOk signed_shift c.args.self.now c.takes.new.self b) c.if-branch.true c.in_ok-takes.ensures.tries) refl refl) c.in_ok-second.ensures.gives)

pub returns-in_ok-second-clause-front : goal.returns-in_ok-second-clause-front
returns-in_ok-second-clause-front c = front_is (signed_tokens c.args.first) (signed_shift ∷ atom_tokens c.in_ok-second.second) (signed_tokens c.args.first ++ signed_shift ∷ atom_tokens c.in_ok-second.second) refl

pub returns-in_err-op-clause-halts : goal.returns-in_err-op-clause-halts
returns-in_err-op-clause-halts c = exits _ c.from_residual-in_err-op.ensures.1 (halts_into (turned behind_signed (a_signed_operator ∷ a_token signed_word ∷ a_token (sign 40) ∷ an_atom ∷ a_token (sign 41) ∷ []) (subst (λ b. TriesOk signed_shift c.args.self.now c.takes.new.self b) c.if-branch.false c.in_ok-takes.ensures.tries) no_signed_shift) (halts_more (a_token signed_word ∷ a_token (sign 40) ∷ an_atom ∷ a_token (sign 41) ∷ []) c.in_err-op.ensures.halts))

pub returns-in_err-second-2-clause-halts : goal.returns-in_err-second-2-clause-halts
returns-in_err-second-2-clause-halts c = exits _ c.from_residual-in_err-second-2.ensures.1 (halts_into (turned behind_signed (a_signed_operator ∷ a_token signed_word ∷ a_token (sign 40) ∷ an_atom ∷ a_token (sign 41) ∷ []) (subst (λ b. TriesOk signed_shift c.args.self.now c.takes.new.self b) c.if-branch.false c.in_ok-takes.ensures.tries) no_signed_shift) (halts_behind c.in_ok-op.ensures.gives c.in_err-second-2.ensures.halts))

pub returns-in_ok-second-2-clause-gives : goal.returns-in_ok-second-2-clause-gives
returns-in_ok-second-2-clause-gives c = cut (signed_tokens c.args.first) (binary_token (unsigned_op c.in_ok-op.op) ∷ signed_tokens c.in_ok-second-2.second) (signed_tokens c.args.first ++ binary_token (unsigned_op c.in_ok-op.op) ∷ signed_tokens c.in_ok-second-2.second) refl (chained (turned behind_signed (a_signed_operator ∷ a_token signed_word ∷ a_token (sign 40) ∷ an_atom ∷ a_token (sign 41) ∷ []) (subst (λ b. TriesOk signed_shift c.args.self.now c.takes.new.self b) c.if-branch.false c.in_ok-takes.ensures.tries) no_signed_shift) (c.in_ok-op.ensures.gives ▸ c.in_ok-second-2.ensures.gives))
