use Rattle.std.proofs.Common.{[], ◌∷◌}
use Rattle.ver_ast.specs.Tokens.{word}
use Rattle.ver_parse.specs.working.Symbols.{a_name}
use Rattle.ver_parse.proofs.Leading.{beside, tail, halts_more, tail_halts, exits}
use Rattle.ver_parse.proofs.parser.Parser.edge.Goals as goal

pub returns-in_err-token-clause-halts : goal.returns-in_err-token-clause-halts
returns-in_err-token-clause-halts c = exits _ c.from_residual.ensures.1 (halts_more (a_name ∷ []) c.in_err-token.ensures.halts)

pub returns-clause-gives : goal.returns-clause-gives
returns-clause-gives c = tail _ _ (λ n. word n ∷ []) (beside (a_name ∷ []) c.in_ok-token.ensures.gives) c.name.ensures.gives

pub returns-clause-halts : goal.returns-clause-halts
returns-clause-halts c = tail_halts _ (beside (a_name ∷ []) c.in_ok-token.ensures.gives) c.name.ensures.halts
