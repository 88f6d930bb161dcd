use Rattle.std.proofs.Common.{[], ◌∷◌}
use Rattle.ver_ast.specs.Grammar.{atom_tokens}
use Rattle.ver_ast.specs.Tokens.{word}
use Rattle.ver_parse.specs.working.Symbols.{a_select}
use Rattle.ver_parse.proofs.Leading.{beside, tail_part, halts_more, tail_halts, exits}
use Rattle.ver_parse.proofs.parser.Parser.selected.Goals as goal

pub returns-in_err-name-clause-halts : goal.returns-in_err-name-clause-halts
returns-in_err-name-clause-halts c = exits _ c.from_residual.ensures.1 (halts_more (a_select ∷ []) c.in_err-name.ensures.halts)

pub returns-clause-gives : goal.returns-clause-gives
returns-clause-gives c = tail_part _ _ [] (word c.in_ok-name.name ∷ []) atom_tokens (beside (a_select ∷ []) c.in_ok-name.ensures.gives) c.select.ensures.front c.select.ensures.gives

pub returns-clause-halts : goal.returns-clause-halts
returns-clause-halts c = tail_halts _ (beside (a_select ∷ []) c.in_ok-name.ensures.gives) c.select.ensures.halts
