use Rattle.std.proofs.Common.{[], ◌∷◌}
use Rattle.ver_ast.specs.Tokens.{digit_zero, sign}
use Rattle.ver_parse.specs.working.Symbols.{a_token}
use Rattle.ver_parse.proofs.Leading.{◌▸◌, halts_more, halts_behind, exits}
use Rattle.ver_parse.proofs.parser.Parser.range_end.Goals as goal

pub returns-in_err-high-clause-halts : goal.returns-in_err-high-clause-halts
returns-in_err-high-clause-halts c = exits _ c.from_residual.ensures.1 (halts_more (a_token (sign 58) ∷ a_token digit_zero ∷ a_token (sign 93) ∷ []) c.in_err-high.ensures.halts)

pub returns-in_err-token-clause-halts : goal.returns-in_err-token-clause-halts
returns-in_err-token-clause-halts c = exits _ c.from_residual-in_err-token.ensures.1 (halts_behind c.in_ok-high.ensures.gives (halts_more (a_token digit_zero ∷ a_token (sign 93) ∷ []) c.in_err-token.ensures.halts))

pub returns-in_err-token-2-clause-halts : goal.returns-in_err-token-2-clause-halts
returns-in_err-token-2-clause-halts c = exits _ c.from_residual-in_err-token-2.ensures.1 (halts_behind c.in_ok-high.ensures.gives (halts_behind c.in_ok-token.ensures.gives (halts_more (a_token (sign 93) ∷ []) c.in_err-token-2.ensures.halts)))

pub returns-in_err-token-3-clause-halts : goal.returns-in_err-token-3-clause-halts
returns-in_err-token-3-clause-halts c = exits _ c.from_residual-in_err-token-3.ensures.1 (halts_behind c.in_ok-high.ensures.gives (halts_behind c.in_ok-token.ensures.gives (halts_behind c.in_ok-token-2.ensures.gives (c.in_err-token-3.ensures.halts))))

pub returns-clause-gives : goal.returns-clause-gives
returns-clause-gives c = c.in_ok-high.ensures.gives ▸ c.in_ok-token.ensures.gives ▸ c.in_ok-token-2.ensures.gives ▸ c.in_ok-token-3.ensures.gives
