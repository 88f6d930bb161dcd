use Rattle.std.proofs.Common.{[], ◌∷◌, ◌++◌}
use Rattle.ver_ast.specs.Grammar.{range_tokens, direction_keyword}
use Rattle.ver_ast.specs.Tokens.{word}
use Rattle.ver_parse.specs.working.Symbols.{a_name, a_range, a_direction}
use Rattle.ver_parse.proofs.Leading.{◌▸◌, cut, halts_more, halts_behind, exits}
use Rattle.std.proofs.Common.{append_assoc}
use Rattle.ver_ast.specs.Grammar.{mark_tokens}
use Rattle.ver_parse.proofs.parser.Parser.port.Goals as goal

pub returns-in_err-is_clock-clause-halts : goal.returns-in_err-is_clock-clause-halts
returns-in_err-is_clock-clause-halts c = exits _ c.from_residual.ensures.1 (halts_more (a_direction ∷ a_range ∷ a_name ∷ []) c.in_err-is_clock.ensures.halts)

pub returns-in_err-direction-clause-halts : goal.returns-in_err-direction-clause-halts
returns-in_err-direction-clause-halts c = exits _ c.from_residual-in_err-direction.ensures.1 (halts_behind c.in_ok-is_clock.ensures.gives (halts_more (a_range ∷ a_name ∷ []) c.in_err-direction.ensures.halts))

pub returns-in_err-width-clause-halts : goal.returns-in_err-width-clause-halts
returns-in_err-width-clause-halts c = exits _ c.from_residual-in_err-width.ensures.1 (halts_behind c.in_ok-is_clock.ensures.gives (halts_behind c.in_ok-direction.ensures.gives (halts_more (a_name ∷ []) c.in_err-width.ensures.halts)))

pub returns-in_err-name-clause-halts : goal.returns-in_err-name-clause-halts
returns-in_err-name-clause-halts c = exits _ c.from_residual-in_err-name.ensures.1 (halts_behind c.in_ok-is_clock.ensures.gives (halts_behind c.in_ok-direction.ensures.gives (halts_behind c.in_ok-width.ensures.gives (c.in_err-name.ensures.halts))))

pub returns-clause-gives : goal.returns-clause-gives
returns-clause-gives c = cut [] (mark_tokens c.in_ok-is_clock.is_clock ++ (word (direction_keyword c.in_ok-direction.direction) ∷ (range_tokens c.in_ok-width.width ++ word c.in_ok-name.name ∷ []))) _ (simp append_assoc) (c.in_ok-is_clock.ensures.gives ▸ c.in_ok-direction.ensures.gives ▸ c.in_ok-width.ensures.gives ▸ c.in_ok-name.ensures.gives)
