use Rattle.std.proofs.Common.{[], ◌∷◌, ◌++◌}
use Rattle.ver_ast.specs.Grammar.{atom_tokens}
use Rattle.ver_ast.specs.Tokens.{sign}
use Rattle.ver_parse.specs.working.Symbols.{a_token, an_atom}
use Rattle.ver_parse.proofs.Leading.{beside, tail, halts_more, tail_halts, exits}
use Rattle.ver_parse.proofs.parser.Parser.signed_operand.Goals as goal

pub returns-in_err-token-clause-halts : goal.returns-in_err-token-clause-halts
returns-in_err-token-clause-halts c = exits _ c.from_residual.ensures.1 (halts_more (a_token (sign 40) ∷ an_atom ∷ a_token (sign 41) ∷ []) c.in_err-token.ensures.halts)

pub returns-clause-gives : goal.returns-clause-gives
returns-clause-gives c = tail _ _ (λ a. sign 40 ∷ atom_tokens a ++ sign 41 ∷ []) (beside (a_token (sign 40) ∷ an_atom ∷ a_token (sign 41) ∷ []) c.in_ok-token.ensures.gives) c.in_round.ensures.gives

pub returns-clause-halts : goal.returns-clause-halts
returns-clause-halts c = tail_halts _ (beside (a_token (sign 40) ∷ an_atom ∷ a_token (sign 41) ∷ []) c.in_ok-token.ensures.gives) c.in_round.ensures.halts
