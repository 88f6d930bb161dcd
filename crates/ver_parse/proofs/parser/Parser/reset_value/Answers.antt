use Rattle.std.proofs.Common.{[], ◌∷◌}
use Rattle.ver_ast.specs.Tokens.{sign, double}
use Rattle.ver_parse.specs.working.Symbols.{a_token, a_name, a_constant}
use Rattle.ver_parse.proofs.Leading.{◌▸◌, halts_more, halts_behind, exits}
use Rattle.ver_parse.proofs.parser.Parser.reset_value.Goals as goal

pub returns-in_err-tested-clause-halts : goal.returns-in_err-tested-clause-halts
returns-in_err-tested-clause-halts c = exits _ c.from_residual.ensures.1 (halts_more (a_name ∷ a_token (double 60 61) ∷ a_constant ∷ a_token (sign 59) ∷ []) c.in_err-tested.ensures.halts)

pub returns-in_err-target-clause-halts : goal.returns-in_err-target-clause-halts
returns-in_err-target-clause-halts c = exits _ c.from_residual-in_err-target.ensures.1 (halts_behind c.in_ok-tested.ensures.gives (halts_more (a_token (double 60 61) ∷ a_constant ∷ a_token (sign 59) ∷ []) c.in_err-target.ensures.halts))

pub returns-in_err-token-clause-halts : goal.returns-in_err-token-clause-halts
returns-in_err-token-clause-halts c = exits _ c.from_residual-in_err-token.ensures.1 (halts_behind c.in_ok-tested.ensures.gives (halts_behind c.in_ok-target.ensures.gives (halts_more (a_constant ∷ a_token (sign 59) ∷ []) c.in_err-token.ensures.halts)))

pub returns-in_err-value-clause-halts : goal.returns-in_err-value-clause-halts
returns-in_err-value-clause-halts c = exits _ c.from_residual-in_err-value.ensures.1 (halts_behind c.in_ok-tested.ensures.gives (halts_behind c.in_ok-target.ensures.gives (halts_behind c.in_ok-token.ensures.gives (halts_more (a_token (sign 59) ∷ []) c.in_err-value.ensures.halts))))

pub returns-in_err-token-2-clause-halts : goal.returns-in_err-token-2-clause-halts
returns-in_err-token-2-clause-halts c = exits _ c.from_residual-in_err-token-2.ensures.1 (halts_behind c.in_ok-tested.ensures.gives (halts_behind c.in_ok-target.ensures.gives (halts_behind c.in_ok-token.ensures.gives (halts_behind c.in_ok-value.ensures.gives (c.in_err-token-2.ensures.halts)))))

pub returns-clause-gives : goal.returns-clause-gives
returns-clause-gives c = c.in_ok-tested.ensures.gives ▸ c.in_ok-target.ensures.gives ▸ c.in_ok-token.ensures.gives ▸ c.in_ok-value.ensures.gives ▸ c.in_ok-token-2.ensures.gives
