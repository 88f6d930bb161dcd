use Rattle.std.proofs.Common.{[], ◌∷◌, ◌++◌, codes}
use Rattle.ver_ast.specs.Grammar.{range_tokens, item_tokens}
use Rattle.ver_ast.specs.Tokens.{word}
use Rattle.ver_parse.specs.working.Symbols.{a_name, behind_register}
use Rattle.ver_parse.proofs.Leading.{beside, ◌▸◌, tail_part, tail_front, halts_more, halts_behind, tail_halts, exits}
use Rattle.ver_parse.proofs.parser.Parser.register.Goals as goal

pub returns-in_err-width-clause-halts : goal.returns-in_err-width-clause-halts
returns-in_err-width-clause-halts c = exits _ c.from_residual.ensures.1 (halts_more (a_name ∷ behind_register ∷ []) c.in_err-width.ensures.halts)

pub returns-in_err-name-clause-halts : goal.returns-in_err-name-clause-halts
returns-in_err-name-clause-halts c = exits _ c.from_residual-in_err-name.ensures.1 (halts_behind c.in_ok-width.ensures.gives (halts_more (behind_register ∷ []) c.in_err-name.ensures.halts))

pub returns-clause-gives : goal.returns-clause-gives
returns-clause-gives c = tail_part _ _ (word (codes "reg") ∷ []) (range_tokens c.in_ok-width.width ++ word c.in_ok-name.name ∷ []) item_tokens (beside (behind_register ∷ []) (c.in_ok-width.ensures.gives ▸ c.in_ok-name.ensures.gives)) c.behind_register.ensures.front c.behind_register.ensures.gives

pub returns-clause-halts : goal.returns-clause-halts
returns-clause-halts c = tail_halts _ (beside (behind_register ∷ []) (c.in_ok-width.ensures.gives ▸ c.in_ok-name.ensures.gives)) c.behind_register.ensures.halts

pub returns-clause-front : goal.returns-clause-front
returns-clause-front c = tail_front _ (word (codes "reg") ∷ []) (range_tokens c.in_ok-width.width ++ word c.in_ok-name.name ∷ []) item_tokens c.behind_register.ensures.front
