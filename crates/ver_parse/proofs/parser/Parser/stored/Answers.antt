use Rattle.std.proofs.Common.{[], ◌∷◌}
use Rattle.ver_ast.specs.Tokens.{sign, double}
use Rattle.ver_parse.specs.working.Symbols.{a_token, an_atom}
use Rattle.ver_parse.proofs.Leading.{◌▸◌, halts_more, halts_behind, exits}
use Rattle.ver_parse.proofs.parser.Parser.stored.Goals as goal

pub returns-in_err-target-clause-halts : goal.returns-in_err-target-clause-halts
returns-in_err-target-clause-halts c = exits _ c.from_residual.ensures.1 (halts_more (a_token (double 60 61) ∷ an_atom ∷ a_token (sign 59) ∷ []) c.in_err-target.ensures.halts)

pub returns-in_err-source-clause-halts : goal.returns-in_err-source-clause-halts
returns-in_err-source-clause-halts c = exits _ c.from_residual-in_err-source.ensures.1 (halts_behind c.in_ok-target.ensures.gives (c.in_err-source.ensures.halts))

pub returns-clause-gives : goal.returns-clause-gives
returns-clause-gives c = c.in_ok-target.ensures.gives ▸ c.in_ok-source.ensures.gives
