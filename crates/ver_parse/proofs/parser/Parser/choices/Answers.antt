use Rattle.std.proofs.Common.{[], ◌∷◌, ◌++◌}
use Rattle.ver_ast.specs.Grammar.{atom_tokens}
use Rattle.ver_ast.specs.Tokens.{sign}
use Rattle.ver_parse.specs.working.Symbols.{a_token, an_atom}
use Rattle.ver_parse.proofs.Leading.{◌▸◌, cut, front_is, halts_more, halts_behind, exits}
use Rattle.std.proofs.Common.{append_assoc}
use Rattle.ver_parse.proofs.parser.Parser.choices.Goals as goal

pub returns-in_err-first-clause-halts : goal.returns-in_err-first-clause-halts
returns-in_err-first-clause-halts c = exits _ c.from_residual.ensures.1 (halts_more (a_token (sign 58) ∷ an_atom ∷ []) c.in_err-first.ensures.halts)

pub returns-in_err-token-clause-halts : goal.returns-in_err-token-clause-halts
returns-in_err-token-clause-halts c = exits _ c.from_residual-in_err-token.ensures.1 (halts_behind c.in_ok-first.ensures.gives (halts_more (an_atom ∷ []) c.in_err-token.ensures.halts))

pub returns-in_err-second-clause-halts : goal.returns-in_err-second-clause-halts
returns-in_err-second-clause-halts c = exits _ c.from_residual-in_err-second.ensures.1 (halts_behind c.in_ok-first.ensures.gives (halts_behind c.in_ok-token.ensures.gives (c.in_err-second.ensures.halts)))

pub returns-clause-gives : goal.returns-clause-gives
returns-clause-gives c = cut (atom_tokens c.args.condition ++ sign 63 ∷ []) (atom_tokens c.in_ok-first.first ++ sign 58 ∷ atom_tokens c.in_ok-second.second) _ (simp append_assoc) (c.in_ok-first.ensures.gives ▸ c.in_ok-token.ensures.gives ▸ c.in_ok-second.ensures.gives)

pub returns-clause-front : goal.returns-clause-front
returns-clause-front c = front_is (atom_tokens c.args.condition ++ sign 63 ∷ []) (atom_tokens c.in_ok-first.first ++ sign 58 ∷ atom_tokens c.in_ok-second.second) _ (simp append_assoc)
