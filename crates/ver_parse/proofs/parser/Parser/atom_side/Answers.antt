use Rattle.std.proofs.Common.{[], ◌∷◌}
use Rattle.ver_ast.specs.Grammar.{atom_tokens, rhs_tokens}
use Rattle.ver_parse.specs.working.Symbols.{behind_atom}
use Rattle.ver_parse.proofs.Leading.{beside, tail_part, halts_more, tail_halts, exits}
use Rattle.ver_parse.proofs.parser.Parser.atom_side.Goals as goal

pub returns-in_err-first-clause-halts : goal.returns-in_err-first-clause-halts
returns-in_err-first-clause-halts c = exits _ c.from_residual.ensures.1 (halts_more (behind_atom ∷ []) c.in_err-first.ensures.halts)

pub returns-clause-gives : goal.returns-clause-gives
returns-clause-gives c = tail_part _ _ [] (atom_tokens c.in_ok-first.first) rhs_tokens (beside (behind_atom ∷ []) c.in_ok-first.ensures.gives) c.behind_atom.ensures.front c.behind_atom.ensures.gives

pub returns-clause-halts : goal.returns-clause-halts
returns-clause-halts c = tail_halts _ (beside (behind_atom ∷ []) c.in_ok-first.ensures.gives) c.behind_atom.ensures.halts
