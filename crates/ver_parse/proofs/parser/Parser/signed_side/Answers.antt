use Rattle.std.proofs.Common.{[], ◌∷◌, ◌++◌}
use Rattle.ver_ast.specs.Grammar.{atom_tokens, rhs_tokens}
use Rattle.ver_ast.specs.Tokens.{sign, signed_word}
use Rattle.ver_parse.specs.working.Symbols.{behind_signed}
use Rattle.ver_parse.proofs.Leading.{beside, tail_part, tail_front, halts_more, tail_halts, exits}
use Rattle.ver_parse.proofs.parser.Parser.signed_side.Goals as goal

pub returns-in_err-first-clause-halts : goal.returns-in_err-first-clause-halts
returns-in_err-first-clause-halts c = exits _ c.from_residual.ensures.1 (halts_more (behind_signed ∷ []) c.in_err-first.ensures.halts)

pub returns-clause-gives : goal.returns-clause-gives
returns-clause-gives c = tail_part _ _ (signed_word ∷ []) (sign 40 ∷ atom_tokens c.in_ok-first.first ++ sign 41 ∷ []) rhs_tokens (beside (behind_signed ∷ []) c.in_ok-first.ensures.gives) c.behind_signed.ensures.front c.behind_signed.ensures.gives

pub returns-clause-halts : goal.returns-clause-halts
returns-clause-halts c = tail_halts _ (beside (behind_signed ∷ []) c.in_ok-first.ensures.gives) c.behind_signed.ensures.halts

pub returns-clause-front : goal.returns-clause-front
returns-clause-front c = tail_front _ (signed_word ∷ []) (sign 40 ∷ atom_tokens c.in_ok-first.first ++ sign 41 ∷ []) rhs_tokens c.behind_signed.ensures.front
