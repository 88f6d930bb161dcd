use Rattle.std.proofs.Common.{[], ◌∷◌, codes}
use Rattle.ver_ast.specs.Tokens.{word, sign}
use Rattle.ver_parse.specs.working.Symbols.{a_token, a_name}
use Rattle.ver_parse.proofs.Leading.{◌▸◌, halts_more, halts_behind, exits}
use Rattle.ver_parse.proofs.parser.Parser.second_edge.Goals as goal

pub returns-in_err-token-clause-halts : goal.returns-in_err-token-clause-halts
returns-in_err-token-clause-halts c = exits _ c.from_residual.ensures.1 (halts_more (a_token (word (codes "posedge")) ∷ a_name ∷ a_token (sign 41) ∷ a_token (word (codes "if")) ∷ []) c.in_err-token.ensures.halts)

pub returns-in_err-reset-clause-halts : goal.returns-in_err-reset-clause-halts
returns-in_err-reset-clause-halts c = exits _ c.from_residual-in_err-reset.ensures.1 (halts_behind c.in_ok-token.ensures.gives (halts_more (a_token (sign 41) ∷ a_token (word (codes "if")) ∷ []) c.in_err-reset.ensures.halts))

pub returns-in_err-token-2-clause-halts : goal.returns-in_err-token-2-clause-halts
returns-in_err-token-2-clause-halts c = exits _ c.from_residual-in_err-token-2.ensures.1 (halts_behind c.in_ok-token.ensures.gives (halts_behind c.in_ok-reset.ensures.gives (halts_more (a_token (word (codes "if")) ∷ []) c.in_err-token-2.ensures.halts)))

pub returns-in_err-token-3-clause-halts : goal.returns-in_err-token-3-clause-halts
returns-in_err-token-3-clause-halts c = exits _ c.from_residual-in_err-token-3.ensures.1 (halts_behind c.in_ok-token.ensures.gives (halts_behind c.in_ok-reset.ensures.gives (halts_behind c.in_ok-token-2.ensures.gives (c.in_err-token-3.ensures.halts))))

pub returns-clause-gives : goal.returns-clause-gives
returns-clause-gives c = c.in_ok-token.ensures.gives ▸ c.in_ok-reset.ensures.gives ▸ c.in_ok-token-2.ensures.gives ▸ c.in_ok-token-3.ensures.gives
