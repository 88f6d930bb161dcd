-- The numbers of the operands of an operation.
use Rattle.std.specs.Prelude.{List, [], ◌∷◌}
use Rattle.fir_meaning.specs.WidthExpressions.{Width}
use Rattle.fir_meaning.specs.SizedTypes.{Sized}
use Rattle.fir_meaning.specs.SizedOperations.{width_in}
use Rattle.fir_width.specs.declared.side.Side.{Side}
use Rattle.fir_width.specs.working.StandingWidths.{Has}

-- operand by operand the first number is that of its width
abbrev pub HaveWidths : List Width → List Side → List Sized → Type 0
HaveWidths meant [] [] = Unit {0}
HaveWidths meant (side ∷ sides) (s ∷ ss) = Has meant side.first (width_in s) × HaveWidths meant sides ss
HaveWidths meant _ _ = ⊥
