-- A Reset that the table of numbers knows.
use Rattle.std.proofs.Common.{◌≡◌, ℕ, List, Some, refl, ap, ◌∙◌}
use Rattle.fir_ast.specs.declared.place.Place.{Place}
use Rattle.fir_ast.specs.Circuits.{CircuitTree}
use Rattle.fir_meaning.specs.LeafPaths.{LeafPath}
use Rattle.fir_meaning.specs.working.NameGroups.{HasNames}
use Rattle.fir_infer_resets.specs.declared.joined.Joined.{Joined}
use Rattle.fir_meaning.specs.ResetJoins.{Join}
use Rattle.fir_meaning.specs.ResetWalks.{IsLeafOf}
use Rattle.fir_infer_resets.specs.working.Holding.{reset_end, under_key, Holds, HasNumber}
use Rattle.fir_infer_resets.proofs.HeldGraphs.{still_there}
use Rattle.fir_reset.proofs.LeafSpots.{differ_in_elements}

-- a leaf has one place
pub one_place : (c : CircuitTree) → HasNames c → (number : ℕ) (leaf : LeafPath) (p q : Place) → IsLeafOf c (reset_end number leaf p) → IsLeafOf c (reset_end number leaf q) → p ≡ q
one_place c names number leaf p q l m = (differ_in_elements c names (reset_end number leaf p) (reset_end number leaf q) l m number leaf leaf refl refl refl).place

pub found_number : (c : CircuitTree) (js : List Join) (old : Joined) (before : Holds c js old) → HasNames c → (number : ℕ) (leaf : LeafPath) (place : Place) → IsLeafOf c (reset_end number leaf place)
    → (x : ℕ) → under_key old number leaf ≡ Some x → HasNumber before (reset_end number leaf place) old x
found_number c js old before names number leaf place l x h =
    let r = before.known number x leaf h in
    let m = before.built.leaves x (reset_end number leaf r.0) r.1 refl in
    still_there c js old before (reset_end number leaf place) x (r.1 ∙ ap (λ p. Some (reset_end number leaf p)) (one_place c names number leaf r.0 place m l))
