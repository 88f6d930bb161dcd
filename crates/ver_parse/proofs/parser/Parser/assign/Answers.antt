use Rattle.std.proofs.Common.{[], ◌∷◌}
use Rattle.ver_ast.specs.Tokens.{sign}
use Rattle.ver_parse.specs.working.Symbols.{a_token, a_side}
use Rattle.ver_parse.proofs.Leading.{◌▸◌, halts_more, halts_behind, exits}
use Rattle.ver_parse.proofs.parser.Parser.assign.Goals as goal

pub returns-in_err-target-clause-halts : goal.returns-in_err-target-clause-halts
returns-in_err-target-clause-halts c = exits _ c.from_residual.ensures.1 (halts_more (a_token (sign 61) ∷ a_side ∷ a_token (sign 59) ∷ []) c.in_err-target.ensures.halts)

pub returns-in_err-token-clause-halts : goal.returns-in_err-token-clause-halts
returns-in_err-token-clause-halts c = exits _ c.from_residual-in_err-token.ensures.1 (halts_behind c.in_ok-target.ensures.gives (halts_more (a_side ∷ a_token (sign 59) ∷ []) c.in_err-token.ensures.halts))

pub returns-in_err-rhs-clause-halts : goal.returns-in_err-rhs-clause-halts
returns-in_err-rhs-clause-halts c = exits _ c.from_residual-in_err-rhs.ensures.1 (halts_behind c.in_ok-target.ensures.gives (halts_behind c.in_ok-token.ensures.gives (halts_more (a_token (sign 59) ∷ []) c.in_err-rhs.ensures.halts)))

pub returns-in_err-token-2-clause-halts : goal.returns-in_err-token-2-clause-halts
returns-in_err-token-2-clause-halts c = exits _ c.from_residual-in_err-token-2.ensures.1 (halts_behind c.in_ok-target.ensures.gives (halts_behind c.in_ok-token.ensures.gives (halts_behind c.in_ok-rhs.ensures.gives (c.in_err-token-2.ensures.halts))))

pub returns-clause-gives : goal.returns-clause-gives
returns-clause-gives c = c.in_ok-target.ensures.gives ▸ c.in_ok-token.ensures.gives ▸ c.in_ok-rhs.ensures.gives ▸ c.in_ok-token-2.ensures.gives
