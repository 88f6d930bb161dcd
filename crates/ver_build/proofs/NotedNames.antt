-- A list of names by the numbers of leaves, in which a name is noted.
use Rattle.std.proofs.Common.{◌≡◌, ℕ, zero, suc, ◌<◌, List, [], ◌∷◌, ◌++◌, length, map, refl, ap, ◌∙◌, arith, Option, Some, None}
use Rattle.std.proofs.Math.ListN.{set}
use Rattle.std.proofs.lemmas.List.{length-set, length-map}
use Rattle.fir_net.specs.declared.leaf.Leaf.{Leaf}
use Rattle.fir_net_names.specs.working.LeafNamed.{name_at}
use Rattle.ver_build.specs.working.Walks.{AreKept, IsNoted}
use Rattle.ver_build.proofs.Walk.{at_set, at_other}

no_name : (leaves : List Leaf) (j : ℕ) → name_at (map (λ l. None) leaves) j ≡ None
no_name [] j = refl
no_name (l ∷ leaves) zero = refl
no_name (l ∷ leaves) (suc j) = no_name leaves j

-- an entry for each leaf, where there was none
pub none_kept : (leaves : List Leaf) (old new : List (Option (List ℕ))) → length old ≡ 0 → new ≡ old ++ map (λ l. None) leaves → AreKept leaves old new
none_kept leaves [] new none is = record { room = ap length is ∙ length-map leaves (λ l. None); same = λ j. ap (λ names. name_at names j) is ∙ no_name leaves j }
none_kept leaves (x ∷ old) new none is = absurd (omega arith)

pub name_noted : (leaves : List Leaf) (k : ℕ) (name : List ℕ) (old kept new : List (Option (List ℕ))) → AreKept leaves old kept → k < length leaves
    → new ≡ set kept k (Some name) → IsNoted leaves k name old new
name_noted leaves k name old kept new h less is =
    let room = h.room in
    record {
      room = ap length is ∙ length-set kept k (Some name) ∙ room;
      here = ap (λ names. name_at names k) is ∙ at_set kept k (Some name) None (omega arith);
      others = λ j other. ap (λ names. name_at names j) is ∙ at_other kept k j (Some name) None other ∙ h.same j;
    }
