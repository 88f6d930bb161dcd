-- The sides of forms, behind the expressions that they put under numbers.
use Rattle.std.proofs.Common.{◌≡◌, ℕ, List, [], ◌∷◌, ◌++◌, length, None, sym, ap, ◌∙◌}
use Rattle.fir_base.proofs.Writes.{push_end}
use Rattle.fir_ast.specs.declared.expressions.Literal.{Literal}
use Rattle.fir_ast.specs.Expressions.{literal}
use Rattle.fir_ast.specs.Types.{DataType}
use Rattle.fir_meaning.specs.TypeKinds.{bare}
use Rattle.fir_meaning.specs.SizedOperations.{guarded_by}
use Rattle.fir_meaning.specs.SizedScopes.{SizedScope, literal_width, sized_type}
use Rattle.fir_meaning.specs.SizedTypes.{Scalar, Sized, bare_type, scalar}
use Rattle.fir_meaning.specs.WidthExpressions.{Width, known}
use Rattle.fir_meaning.proofs.SizedShapes.{bare_again, guarded_bare, number_bare}
use Rattle.fir_types.specs.declared.found.Found.{Found}
use Rattle.fir_types.specs.declared.found.Found.TheVariants as found
use Rattle.fir_types.specs.working.Seen.{found_type}
use Rattle.fir_width.specs.declared.side.Side.{Side}
use Rattle.fir_width.specs.working.FlatWidths.{flat, guarded_each}
use Rattle.fir_width.specs.working.StandingWidths.{Has}
use Rattle.fir_width.specs.working.Sides.{IsSide}
use Rattle.fir_infer_widths.proofs.FlatForms.{flat_guarded}
use Rattle.fir_width.proofs.StandingWidths.{stands_one, stands_pushed}

-- the next number is that of what is pushed
pub next_has : (meant : List Width) (e : Width) (number : ℕ) → number ≡ length meant → Has (meant ++ e ∷ []) number e
next_has meant e number is = rw is (push_end meant e)

-- a scalar
pub scalar_side : (ts : List DataType) (meant : List Width) (f : Found) (number : ℕ) (kind : Scalar) (w : Width) → Has meant number w → bare_type (scalar kind w) ≡ bare (found_type ts f)
    → IsSide ts meant (record { found = f; first = number }) (scalar kind w)
scalar_side ts meant f number kind w has shape = record { shape = shape; stands = stands_one meant number w has }

pub literal_side : (ts : List DataType) (meant : List Width) (scope : SizedScope) (l : Literal) (number : ℕ) → Has meant number (known (literal_width l))
    → IsSide ts meant (record { found = found.Number l.signed None; first = number }) (sized_type scope (literal l))
literal_side ts meant scope l number has =
    scalar_side ts meant (found.Number l.signed None) number _ (known (literal_width l)) has (number_bare l.signed None (known (literal_width l)))

-- what is guarded: the last of the expressions
pub guarded_side : (ts : List DataType) (before : List Width) (condition : Width) (s : Sized) (arm : Found) (side : Side) → bare_type s ≡ bare (found_type ts arm)
    → side.first ≡ length before → found_type ts side.found ≡ bare (found_type ts arm)
    → IsSide ts (before ++ guarded_each condition (flat s)) side (guarded_by condition s)
guarded_side ts before condition s arm side shape first is = record {
  shape = guarded_bare condition s ∙ (shape ∙ (sym (bare_again (found_type ts arm)) ∙ ap bare (sym is)));
  stands = rw (first, flat_guarded condition s) (stands_pushed before (guarded_each condition (flat s)));
}
