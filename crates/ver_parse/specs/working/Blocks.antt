-- The tokens of parts of blocks.
use Rattle.std.specs.Prelude.{ℕ, List, [], ◌∷◌, ◌++◌, codes}
use Rattle.ver_ast.specs.AtomForms.{constant_number}
use Rattle.ver_ast.specs.Grammar.{atom_tokens}
use Rattle.ver_ast.specs.Tokens.{VToken, word, sign, double, constant}
use Rattle.ver_parse.specs.declared.blocks.ResetValue.{ResetValue}
use Rattle.ver_parse.specs.declared.blocks.Stored.{Stored}

-- up to the first edge
abbrev pub always_front : List ℕ → List VToken
always_front first = word (codes "always") ∷ sign 64 ∷ sign 40 ∷ word (codes "posedge") ∷ word first ∷ []

-- behind `if`
abbrev pub reset_tokens : ResetValue → List VToken
reset_tokens r = sign 40 ∷ word r.tested ∷ sign 41 ∷ word r.target ∷ double 60 61 ∷ constant r.value.width (constant_number r.value) ∷ sign 59 ∷ []

abbrev pub stored_tokens : Stored → List VToken
stored_tokens r = word r.target ∷ double 60 61 ∷ atom_tokens r.source ++ sign 59 ∷ []
