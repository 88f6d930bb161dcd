-- The declaration of a leaf, by the first name of its path.
use Rattle.std.proofs.Common.{◌≡◌, ℕ, ◌∷◌, Some, ◌⊎◌, subst}
use Rattle.std.specs.Prelude.{slice_get}
use Rattle.fir_base.proofs.Elements.{get_in}
use Rattle.fir_ast.specs.Circuits.{ModuleTree, CircuitTree}
use Rattle.fir_meaning.specs.LeafPaths.{LeafPath, named}
use Rattle.fir_meaning.specs.working.NameGroups.{HasNames}
use Rattle.fir_meaning.specs.Visibility.{declarations}
use Rattle.fir_meaning.proofs.FoundDeclarations.{once_found}
use Rattle.fir_meaning.specs.ResetItems.{End, leaf_item}
use Rattle.fir_meaning.specs.ResetWalks.{IsLeafOf}
use Rattle.fir_reset.specs.working.DeclaredLeaves.{Declares, IsNoInstance}
use Rattle.fir_reset.proofs.LeafSpots.{Spot, spot_at, item_number, item_path}
use Rattle.fir_infer_resets.proofs.LeavesAtHome.{AtPorts, AtBody, at_home}

pub record IsDeclaredLeaf (c : CircuitTree) (number : ℕ) (leaf : LeafPath) (e : End) : Type 0 where
  pub inside : ModuleTree
  pub is_module : slice_get c.modules number ≡ Some inside
  pub spot : Spot c number inside e
  pub path_is : leaf ≡ named spot.declared.named.name ∷ spot.leaf.path
  pub declares : Declares c number leaf spot.declared

pub declared_leaf : (c : CircuitTree) → HasNames c → (number : ℕ) (leaf : LeafPath) (e : End) → e.item ≡ leaf_item number leaf → IsLeafOf c e → IsDeclaredLeaf c number leaf e
declared_leaf c names number leaf e item l =
    let n = item_number c e l number leaf item in
    let there : slice_get c.modules number ≡ Some l.inside = subst (λ k. slice_get c.modules k ≡ Some l.inside) n l.is_module in
    let s = spot_at c names e l number l.inside n there in
    let path = item_path c number l.inside e s number leaf item in
    record {
      inside = l.inside;
      is_module = there;
      spot = s;
      path_is = path;
      declares = record {
        inside = l.inside;
        is_module = there;
        name = s.declared.named.name;
        rest = s.leaf.path;
        path_is = path;
        found = once_found (declarations l.inside) s.sound.once s.declared (get_in (declarations l.inside) s.stands.place s.declared s.stands.declared);
      };
    }

-- a leaf of no instance is at home
pub leaf_at_home : (c : CircuitTree) → HasNames c → (number : ℕ) (leaf : LeafPath) (e : End) → e.item ≡ leaf_item number leaf → IsLeafOf c e → IsNoInstance c number leaf → AtPorts c e ⊎ AtBody c e
leaf_at_home c names number leaf e item l own =
    let d = declared_leaf c names number leaf e item l in at_home c names number d.inside e d.spot (λ name is. own d.spot.declared name d.declares is)
