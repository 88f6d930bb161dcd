-- What a mux or a validif is, behind its numbers.
use Rattle.std.specs.Prelude.{◌≡◌, ℕ, List, [], ◌∷◌, ◌++◌, Bool}
use Rattle.fir_ast.specs.declared.place.Place.{Place}
use Rattle.fir_ast.specs.Types.{DataType}
use Rattle.fir_meaning.specs.TypeKinds.{bare}
use Rattle.fir_types.specs.declared.found.Found.{Found}
use Rattle.fir_types.specs.working.Seen.{found_type}
use Rattle.fir_width.specs.declared.side.Side.{Side}
use Rattle.fir_infer_widths.specs.declared.spot.Spot.TheVariants as code
use Rattle.fir_infer_widths.specs.declared.walk.Walk.{Walk}

-- of the type of its arm without widths, and its spot has come
pub record IsChosen (place : Place) (is_mux : Bool) (found : Found) (first : ℕ) (old new : Walk) (side : Side) : Type 0 where
  pub first_number : side.first ≡ first
  pub data_type : (ts : List DataType) → found_type ts side.found ≡ bare (found_type ts found)
  pub spots : new.spots.items ≡ old.spots.items ++ code.Choice place is_mux side ∷ []
  pub stays : new ≡ record old { spots = new.spots }
