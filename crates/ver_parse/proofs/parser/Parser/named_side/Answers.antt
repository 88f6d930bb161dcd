use Rattle.std.proofs.Common.{[], ◌∷◌}
use Rattle.ver_ast.specs.Grammar.{rhs_tokens}
use Rattle.ver_ast.specs.Tokens.{word}
use Rattle.ver_parse.specs.working.Symbols.{behind_side_name}
use Rattle.ver_parse.proofs.Leading.{beside, tail_part, halts_more, tail_halts, exits}
use Rattle.ver_parse.proofs.parser.Parser.named_side.Goals as goal

pub returns-in_err-name-clause-halts : goal.returns-in_err-name-clause-halts
returns-in_err-name-clause-halts c = exits _ c.from_residual.ensures.1 (halts_more (behind_side_name ∷ []) c.in_err-name.ensures.halts)

pub returns-clause-gives : goal.returns-clause-gives
returns-clause-gives c = tail_part _ _ [] (word c.in_ok-name.name ∷ []) rhs_tokens (beside (behind_side_name ∷ []) c.in_ok-name.ensures.gives) c.behind_side_name.ensures.front c.behind_side_name.ensures.gives

pub returns-clause-halts : goal.returns-clause-halts
returns-clause-halts c = tail_halts _ (beside (behind_side_name ∷ []) c.in_ok-name.ensures.gives) c.behind_side_name.ensures.halts
