use Rattle.std.proofs.Common.{[], ◌∷◌, codes}
use Rattle.ver_ast.specs.Grammar.{item_tokens}
use Rattle.ver_ast.specs.Tokens.{word, sign}
use Rattle.ver_parse.specs.working.Symbols.{a_token, a_name, behind_edge}
use Rattle.ver_parse.proofs.Leading.{beside, ◌▸◌, tail_part, tail_front, halts_more, halts_behind, tail_halts, exits}
use Rattle.ver_parse.proofs.parser.Parser.always.Goals as goal

pub returns-in_err-token-clause-halts : goal.returns-in_err-token-clause-halts
returns-in_err-token-clause-halts c = exits _ c.from_residual.ensures.1 (halts_more (a_token (sign 40) ∷ a_token (word (codes "posedge")) ∷ a_name ∷ behind_edge ∷ []) c.in_err-token.ensures.halts)

pub returns-in_err-token-2-clause-halts : goal.returns-in_err-token-2-clause-halts
returns-in_err-token-2-clause-halts c = exits _ c.from_residual-in_err-token-2.ensures.1 (halts_behind c.in_ok-token.ensures.gives (halts_more (a_token (word (codes "posedge")) ∷ a_name ∷ behind_edge ∷ []) c.in_err-token-2.ensures.halts))

pub returns-in_err-first-clause-halts : goal.returns-in_err-first-clause-halts
returns-in_err-first-clause-halts c = exits _ c.from_residual-in_err-first.ensures.1 (halts_behind c.in_ok-token.ensures.gives (halts_behind c.in_ok-token-2.ensures.gives (halts_more (behind_edge ∷ []) c.in_err-first.ensures.halts)))

pub returns-clause-gives : goal.returns-clause-gives
returns-clause-gives c = tail_part _ _ (word (codes "always") ∷ []) (sign 64 ∷ sign 40 ∷ word (codes "posedge") ∷ word c.in_ok-first.first ∷ []) item_tokens (beside (behind_edge ∷ []) (c.in_ok-token.ensures.gives ▸ c.in_ok-token-2.ensures.gives ▸ c.in_ok-first.ensures.gives)) c.behind_edge.ensures.front c.behind_edge.ensures.gives

pub returns-clause-halts : goal.returns-clause-halts
returns-clause-halts c = tail_halts _ (beside (behind_edge ∷ []) (c.in_ok-token.ensures.gives ▸ c.in_ok-token-2.ensures.gives ▸ c.in_ok-first.ensures.gives)) c.behind_edge.ensures.halts

pub returns-clause-front : goal.returns-clause-front
returns-clause-front c = tail_front _ (word (codes "always") ∷ []) (sign 64 ∷ sign 40 ∷ word (codes "posedge") ∷ word c.in_ok-first.first ∷ []) item_tokens c.behind_edge.ensures.front
