-- Texts of the grammar, and tokens that begin such a text (IEEE 1364-2005, Annex A).
use Rattle.std.specs.Prelude.{List, [], ◌∷◌, ◌++◌}
use Rattle.std.specs.List.{AllByRecursion}
use Rattle.ver_ast.specs.declared.tree.Verilog.{Verilog}
use Rattle.ver_ast.specs.Pieces.{PlacedToken}
use Rattle.ver_ast.specs.Grammar.{module_tokens}
use Rattle.ver_ast.specs.Spells.{AreAlike, HasNames, HasNumberInType}

-- the tokens are those of a tree, whatever its places
pub record AreTokensOf (v : Verilog) (ts : List PlacedToken) : Type 0 where
  pub tokens_are : AreAlike (module_tokens v) ts
  pub names : HasNames v
  pub numbers : AllByRecursion HasNumberInType v.items

abbrev pub IsText : List PlacedToken → Type 0
IsText ts = (v : Verilog) × AreTokensOf v ts

-- some text of the grammar begins with these tokens
abbrev pub IsFront : List PlacedToken → Type 0
IsFront front = (more : List PlacedToken) × IsText (front ++ more)

-- no text of the grammar has the next token behind this front, or ends here
abbrev pub StopsAt : List PlacedToken → List PlacedToken → Type 0
StopsAt front [] = IsText front → ⊥
StopsAt front (t ∷ back) = IsFront (front ++ t ∷ []) → ⊥
