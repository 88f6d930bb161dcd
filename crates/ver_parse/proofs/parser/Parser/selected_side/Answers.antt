use Rattle.std.proofs.Common.{[], ◌∷◌, drop}
use Rattle.ver_ast.specs.Grammar.{atom_tokens, rhs_tokens}
use Rattle.ver_ast.specs.Tokens.{word, number, sign}
use Rattle.ver_parse.specs.working.Symbols.{behind_index, behind_atom}
use Rattle.ver_parse.proofs.Leading.{beside, ◌▸◌, halts_more, halts_behind, tail_halts, exits}
use Rattle.ver_parse.proofs.Leading.{tail_split, front_split}
use Rattle.ver_parse.proofs.parser.Parser.selected_side.Goals as goal

pub returns-in_err-high-clause-halts : goal.returns-in_err-high-clause-halts
returns-in_err-high-clause-halts c = exits _ c.from_residual.ensures.1 (halts_more (behind_index ∷ behind_atom ∷ []) c.in_err-high.ensures.halts)

pub returns-in_err-first-clause-halts : goal.returns-in_err-first-clause-halts
returns-in_err-first-clause-halts c = exits _ c.from_residual-in_err-first.ensures.1 (halts_behind c.in_ok-high.ensures.gives (halts_more (behind_atom ∷ []) c.in_err-first.ensures.halts))

pub returns-clause-gives : goal.returns-clause-gives
returns-clause-gives c = tail_split _ _ (word c.args.name ∷ sign 91 ∷ []) (number c.in_ok-high.high ∷ drop 3 (atom_tokens c.in_ok-first.first)) (atom_tokens c.in_ok-first.first) rhs_tokens c.in_ok-first.ensures.front (beside (behind_atom ∷ []) (c.in_ok-high.ensures.gives ▸ c.in_ok-first.ensures.gives)) c.behind_atom.ensures.front c.behind_atom.ensures.gives

pub returns-clause-halts : goal.returns-clause-halts
returns-clause-halts c = tail_halts _ (beside (behind_atom ∷ []) (c.in_ok-high.ensures.gives ▸ c.in_ok-first.ensures.gives)) c.behind_atom.ensures.halts

pub returns-clause-front : goal.returns-clause-front
returns-clause-front c = front_split _ (word c.args.name ∷ sign 91 ∷ []) (number c.in_ok-high.high ∷ drop 3 (atom_tokens c.in_ok-first.first)) (atom_tokens c.in_ok-first.first) rhs_tokens c.in_ok-first.ensures.front c.behind_atom.ensures.front
