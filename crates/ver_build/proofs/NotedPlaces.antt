-- A list of places by the numbers of leaves, in which a place is noted.
use Rattle.std.proofs.Common.{◌≡◌, ℕ, zero, suc, ◌<◌, List, [], ◌∷◌, ◌++◌, length, map, refl, ap, ◌∙◌, arith}
use Rattle.std.proofs.Math.ListN.{set}
use Rattle.std.proofs.lemmas.List.{length-set, length-map}
use Rattle.fir_net.specs.declared.leaf.Leaf.{Leaf}
use Rattle.ver_build.specs.declared.places.NodePlace.{NodePlace}
use Rattle.ver_build.specs.working.Places.{node_at, nowhere}
use Rattle.ver_build.specs.working.Walks.{ArePlacesKept, IsPlaceNoted}
use Rattle.ver_build.proofs.Walk.{at_set, at_other}

no_place : (leaves : List Leaf) (j : ℕ) → node_at (map (λ l. nowhere) leaves) j ≡ nowhere
no_place [] j = refl
no_place (l ∷ leaves) zero = refl
no_place (l ∷ leaves) (suc j) = no_place leaves j

-- an entry for each leaf, where there was none
pub nowhere_kept : (leaves : List Leaf) (old new : List NodePlace) → length old ≡ 0 → new ≡ old ++ map (λ l. nowhere) leaves → ArePlacesKept leaves old new
nowhere_kept leaves [] new none is = record { room = ap length is ∙ length-map leaves (λ l. nowhere); same = λ j. ap (λ ps. node_at ps j) is ∙ no_place leaves j }
nowhere_kept leaves (x ∷ old) new none is = absurd (omega arith)

pub place_noted : (leaves : List Leaf) (k : ℕ) (p : NodePlace) (old kept new : List NodePlace) → ArePlacesKept leaves old kept → k < length leaves
    → new ≡ set kept k p → IsPlaceNoted leaves k p old new
place_noted leaves k p old kept new h less is =
    let room = h.room in
    record {
      room = ap length is ∙ length-set kept k p ∙ room;
      here = ap (λ ps. node_at ps k) is ∙ at_set kept k p nowhere (omega arith);
      others = λ j other. ap (λ ps. node_at ps j) is ∙ at_other kept k j p nowhere other ∙ h.same j;
    }
