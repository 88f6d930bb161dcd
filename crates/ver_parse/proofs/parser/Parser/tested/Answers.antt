use Rattle.std.proofs.Common.{[], ◌∷◌}
use Rattle.ver_ast.specs.Tokens.{sign}
use Rattle.ver_parse.specs.working.Symbols.{a_token, a_name}
use Rattle.ver_parse.proofs.Leading.{◌▸◌, halts_more, halts_behind, exits}
use Rattle.ver_parse.proofs.parser.Parser.tested.Goals as goal

pub returns-in_err-token-clause-halts : goal.returns-in_err-token-clause-halts
returns-in_err-token-clause-halts c = exits _ c.from_residual.ensures.1 (halts_more (a_name ∷ a_token (sign 41) ∷ []) c.in_err-token.ensures.halts)

pub returns-in_err-tested-clause-halts : goal.returns-in_err-tested-clause-halts
returns-in_err-tested-clause-halts c = exits _ c.from_residual-in_err-tested.ensures.1 (halts_behind c.in_ok-token.ensures.gives (halts_more (a_token (sign 41) ∷ []) c.in_err-tested.ensures.halts))

pub returns-in_err-token-2-clause-halts : goal.returns-in_err-token-2-clause-halts
returns-in_err-token-2-clause-halts c = exits _ c.from_residual-in_err-token-2.ensures.1 (halts_behind c.in_ok-token.ensures.gives (halts_behind c.in_ok-tested.ensures.gives (c.in_err-token-2.ensures.halts)))

pub returns-clause-gives : goal.returns-clause-gives
returns-clause-gives c = c.in_ok-token.ensures.gives ▸ c.in_ok-tested.ensures.gives ▸ c.in_ok-token-2.ensures.gives
