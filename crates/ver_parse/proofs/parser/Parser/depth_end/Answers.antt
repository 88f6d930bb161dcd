use Rattle.std.proofs.Common.{[], ◌∷◌}
use Rattle.ver_ast.specs.Tokens.{digit_zero, sign}
use Rattle.ver_parse.specs.working.Symbols.{a_token, a_number}
use Rattle.ver_parse.proofs.Leading.{◌▸◌, halts_more, halts_behind, exits}
use Rattle.ver_parse.proofs.parser.Parser.depth_end.Goals as goal

pub returns-in_err-token-clause-halts : goal.returns-in_err-token-clause-halts
returns-in_err-token-clause-halts c = exits _ c.from_residual.ensures.1 (halts_more (a_token digit_zero ∷ a_token (sign 58) ∷ a_number ∷ a_token (sign 93) ∷ a_token (sign 59) ∷ []) c.in_err-token.ensures.halts)

pub returns-in_err-token-2-clause-halts : goal.returns-in_err-token-2-clause-halts
returns-in_err-token-2-clause-halts c = exits _ c.from_residual-in_err-token-2.ensures.1 (halts_behind c.in_ok-token.ensures.gives (halts_more (a_token (sign 58) ∷ a_number ∷ a_token (sign 93) ∷ a_token (sign 59) ∷ []) c.in_err-token-2.ensures.halts))

pub returns-in_err-token-3-clause-halts : goal.returns-in_err-token-3-clause-halts
returns-in_err-token-3-clause-halts c = exits _ c.from_residual-in_err-token-3.ensures.1 (halts_behind c.in_ok-token.ensures.gives (halts_behind c.in_ok-token-2.ensures.gives (halts_more (a_number ∷ a_token (sign 93) ∷ a_token (sign 59) ∷ []) c.in_err-token-3.ensures.halts)))

pub returns-in_err-last-clause-halts : goal.returns-in_err-last-clause-halts
returns-in_err-last-clause-halts c = exits _ c.from_residual-in_err-last.ensures.1 (halts_behind c.in_ok-token.ensures.gives (halts_behind c.in_ok-token-2.ensures.gives (halts_behind c.in_ok-token-3.ensures.gives (halts_more (a_token (sign 93) ∷ a_token (sign 59) ∷ []) c.in_err-last.ensures.halts))))

pub returns-in_err-token-4-clause-halts : goal.returns-in_err-token-4-clause-halts
returns-in_err-token-4-clause-halts c = exits _ c.from_residual-in_err-token-4.ensures.1 (halts_behind c.in_ok-token.ensures.gives (halts_behind c.in_ok-token-2.ensures.gives (halts_behind c.in_ok-token-3.ensures.gives (halts_behind c.in_ok-last.ensures.gives (halts_more (a_token (sign 59) ∷ []) c.in_err-token-4.ensures.halts)))))

pub returns-in_err-token-5-clause-halts : goal.returns-in_err-token-5-clause-halts
returns-in_err-token-5-clause-halts c = exits _ c.from_residual-in_err-token-5.ensures.1 (halts_behind c.in_ok-token.ensures.gives (halts_behind c.in_ok-token-2.ensures.gives (halts_behind c.in_ok-token-3.ensures.gives (halts_behind c.in_ok-last.ensures.gives (halts_behind c.in_ok-token-4.ensures.gives (c.in_err-token-5.ensures.halts))))))

pub returns-clause-gives : goal.returns-clause-gives
returns-clause-gives c = c.in_ok-token.ensures.gives ▸ c.in_ok-token-2.ensures.gives ▸ c.in_ok-token-3.ensures.gives ▸ c.in_ok-last.ensures.gives ▸ c.in_ok-token-4.ensures.gives ▸ c.in_ok-token-5.ensures.gives
