use Rattle.std.proofs.Common.{[], ◌∷◌}
use Rattle.ver_ast.specs.Tokens.{sign}
use Rattle.ver_parse.specs.working.Symbols.{a_token, a_name}
use Rattle.ver_parse.proofs.Leading.{◌▸◌, halts_more, halts_behind, exits}
use Rattle.ver_parse.proofs.parser.Parser.wire.Goals as goal

pub returns-in_err-width-clause-halts : goal.returns-in_err-width-clause-halts
returns-in_err-width-clause-halts c = exits _ c.from_residual.ensures.1 (halts_more (a_name ∷ a_token (sign 59) ∷ []) c.in_err-width.ensures.halts)

pub returns-in_err-name-clause-halts : goal.returns-in_err-name-clause-halts
returns-in_err-name-clause-halts c = exits _ c.from_residual-in_err-name.ensures.1 (halts_behind c.in_ok-width.ensures.gives (halts_more (a_token (sign 59) ∷ []) c.in_err-name.ensures.halts))

pub returns-in_err-token-clause-halts : goal.returns-in_err-token-clause-halts
returns-in_err-token-clause-halts c = exits _ c.from_residual-in_err-token.ensures.1 (halts_behind c.in_ok-width.ensures.gives (halts_behind c.in_ok-name.ensures.gives (c.in_err-token.ensures.halts)))

pub returns-clause-gives : goal.returns-clause-gives
returns-clause-gives c = c.in_ok-width.ensures.gives ▸ c.in_ok-name.ensures.gives ▸ c.in_ok-token.ensures.gives
