-- Muxes and validifs, behind their numbers.
use Rattle.std.proofs.Common.{◌≡◌, ℕ, List, [], ◌∷◌, ◌++◌, Bool, sym, ap, ◌∙◌, subst}
use Rattle.fir_ast.specs.declared.place.Place.{Place}
use Rattle.fir_ast.specs.Circuits.{CircuitTree}
use Rattle.fir_meaning.specs.SizedTypes.{Sized}
use Rattle.fir_meaning.specs.WidthExpressions.{Rule, Width}
use Rattle.fir_types.specs.declared.found.Found.{Found}
use Rattle.fir_types.specs.working.Notes.{Note}
use Rattle.fir_infer_widths.specs.declared.ground.Ground.{Ground}
use Rattle.fir_width.specs.declared.side.Side.{Side}
use Rattle.fir_infer_widths.specs.declared.spot.Spot.TheVariants as code
use Rattle.fir_infer_widths.specs.declared.walk.Walk.{Walk}
use Rattle.fir_infer_widths.specs.working.Choices.{IsChosen}
use Rattle.fir_infer_widths.specs.working.Numbered.{Keeps}
use Rattle.fir_width.specs.working.Sides.{IsSide}
use Rattle.fir_infer_widths.specs.working.SpotFaults.{IsSpot}
use Rattle.fir_infer_widths.specs.working.Spots.{Spot}
use Rattle.fir_infer_widths.specs.working.Walks.{Ahead, ComesTo, types_in}
use Rattle.fir_infer_widths.proofs.Coming.{come_made}

-- the numbers are given, and the note is passed
pub record Numbers (g : Ground) (meant own : List Width) (rules : List Rule) (rest : List Note) (old new : Walk) : Type 0 where
  pub keeps : Keeps (meant ++ own) rules new.arena
  pub ahead : Ahead (types_in g) new.notes.now rest
  pub spots : new.spots ≡ old.spots
  pub declared : new.declared ≡ old.declared

pub chosen_comes : (tree : CircuitTree) (g : Ground) (meant own : List Width) (rules : List Rule) (rest : List Note) (spot : Spot) (s : Sized) (p : Place) (is_mux : Bool) (arm : Found)
    (first : ℕ) (old now new : Walk) (side : Side) → Numbers g meant own rules rest old now → IsChosen p is_mux arm first now new side → IsSide (types_in g) (meant ++ own) side s
    → IsSpot tree (types_in g) (meant ++ own) (code.Choice p is_mux side) spot → ComesTo tree g meant rules rest (spot ∷ []) s old new side
chosen_comes tree g meant own rules rest spot s p is_mux arm first old now new side numbers chosen is shows =
    come_made tree g meant own rules rest (code.Choice p is_mux side) spot s old new side
    (subst (Keeps (meant ++ own) rules) (sym (ap (λ (x : Walk). x.arena) chosen.stays)) numbers.keeps)
    (subst (λ ns. Ahead (types_in g) ns rest) (sym (ap (λ (x : Walk). x.notes.now) chosen.stays)) numbers.ahead)
    (chosen.spots ∙ ap (λ xs. xs.items ++ code.Choice p is_mux side ∷ []) numbers.spots)
    (ap (λ (x : Walk). x.declared) chosen.stays ∙ numbers.declared) is shows
