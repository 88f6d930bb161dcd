use Rattle.std.proofs.Common.{[], ◌∷◌}
use Rattle.ver_ast.specs.Tokens.{sign}
use Rattle.ver_parse.specs.working.Symbols.{a_token}
use Rattle.ver_parse.proofs.Leading.{◌▸◌, halts_more, halts_behind, exits}
use Rattle.ver_parse.proofs.parser.Parser.index.Goals as goal

pub returns-in_err-index-clause-halts : goal.returns-in_err-index-clause-halts
returns-in_err-index-clause-halts c = exits _ c.from_residual.ensures.1 (halts_more (a_token (sign 93) ∷ []) c.in_err-index.ensures.halts)

pub returns-in_err-token-clause-halts : goal.returns-in_err-token-clause-halts
returns-in_err-token-clause-halts c = exits _ c.from_residual-in_err-token.ensures.1 (halts_behind c.in_ok-index.ensures.gives (c.in_err-token.ensures.halts))

pub returns-clause-gives : goal.returns-clause-gives
returns-clause-gives c = c.in_ok-index.ensures.gives ▸ c.in_ok-token.ensures.gives
