use Rattle.std.proofs.Common.{[], ◌∷◌, ◌++◌, codes}
use Rattle.ver_ast.specs.Grammar.{atom_tokens}
use Rattle.ver_ast.specs.Tokens.{word, sign, double}
use Rattle.ver_parse.specs.working.Symbols.{a_token, a_name, an_atom}
use Rattle.ver_parse.proofs.Leading.{◌▸◌, cut, halts_more, halts_behind, exits}
use Rattle.ver_parse.proofs.Loops.{write_split}
use Rattle.ver_parse.proofs.parser.Parser.write.Goals as goal

pub returns-in_err-condition-clause-halts : goal.returns-in_err-condition-clause-halts
returns-in_err-condition-clause-halts c = exits _ c.from_residual.ensures.1 (halts_more (a_name ∷ a_token (sign 91) ∷ an_atom ∷ a_token (sign 93) ∷ a_token (double 60 61) ∷ an_atom ∷ a_token (sign 59) ∷ []) c.in_err-condition.ensures.halts)

pub returns-in_err-array-clause-halts : goal.returns-in_err-array-clause-halts
returns-in_err-array-clause-halts c = exits _ c.from_residual-in_err-array.ensures.1 (halts_behind c.in_ok-condition.ensures.gives (halts_more (a_token (sign 91) ∷ an_atom ∷ a_token (sign 93) ∷ a_token (double 60 61) ∷ an_atom ∷ a_token (sign 59) ∷ []) c.in_err-array.ensures.halts))

pub returns-in_err-token-clause-halts : goal.returns-in_err-token-clause-halts
returns-in_err-token-clause-halts c = exits _ c.from_residual-in_err-token.ensures.1 (halts_behind c.in_ok-condition.ensures.gives (halts_behind c.in_ok-array.ensures.gives (halts_more (an_atom ∷ a_token (sign 93) ∷ a_token (double 60 61) ∷ an_atom ∷ a_token (sign 59) ∷ []) c.in_err-token.ensures.halts)))

pub returns-in_err-index-clause-halts : goal.returns-in_err-index-clause-halts
returns-in_err-index-clause-halts c = exits _ c.from_residual-in_err-index.ensures.1 (halts_behind c.in_ok-condition.ensures.gives (halts_behind c.in_ok-array.ensures.gives (halts_behind c.in_ok-token.ensures.gives (halts_more (a_token (double 60 61) ∷ an_atom ∷ a_token (sign 59) ∷ []) c.in_err-index.ensures.halts))))

pub returns-in_err-source-clause-halts : goal.returns-in_err-source-clause-halts
returns-in_err-source-clause-halts c = exits _ c.from_residual-in_err-source.ensures.1 (halts_behind c.in_ok-condition.ensures.gives (halts_behind c.in_ok-array.ensures.gives (halts_behind c.in_ok-token.ensures.gives (halts_behind c.in_ok-index.ensures.gives (c.in_err-source.ensures.halts)))))

pub returns-clause-gives : goal.returns-clause-gives
returns-clause-gives c = cut (word (codes "if") ∷ []) ((sign 40 ∷ atom_tokens c.in_ok-condition.condition ++ sign 41 ∷ []) ++ (word c.in_ok-array.array ∷ (sign 91 ∷ ((atom_tokens c.in_ok-index.index ++ sign 93 ∷ []) ++ (double 60 61 ∷ atom_tokens c.in_ok-source.source ++ sign 59 ∷ []))))) _ (write_split (word (codes "if")) (sign 40) (sign 41) (word c.in_ok-array.array) (sign 91) (sign 93) (double 60 61) (sign 59) (atom_tokens c.in_ok-condition.condition) (atom_tokens c.in_ok-index.index) (atom_tokens c.in_ok-source.source)) (c.in_ok-condition.ensures.gives ▸ c.in_ok-array.ensures.gives ▸ c.in_ok-token.ensures.gives ▸ c.in_ok-index.ensures.gives ▸ c.in_ok-source.ensures.gives)
