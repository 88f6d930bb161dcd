-- Which width expressions stand under which numbers.
-- The list has the expression of each number. A leaf of a declaration has one of the first numbers: where its width is not written it is the unknown of
-- that number.
use Rattle.std.specs.Prelude.{◌≡◌, ℕ, ◌+◌, List, Some, slice_get}
use Rattle.fir_meaning.specs.WidthExpressions.{Width}

-- the number has the expression
abbrev pub Has : List Width → ℕ → Width → Type 0
Has meant number e = slice_get meant number ≡ Some e

-- these expressions have the numbers from a first one on
pub record Stands (meant : List Width) (first : ℕ) (es : List Width) : Type 0 where
  pub each : (i : ℕ) (e : Width) → slice_get es i ≡ Some e → Has meant (first + i) e
