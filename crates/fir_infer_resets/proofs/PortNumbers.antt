-- A Reset of an instance, joined to that of its module's port, with the premises as the code has them.
use Rattle.std.proofs.Common.{◌≡◌, ℕ, List, [], ◌∷◌, refl, sym, ap, ◌∙◌, subst, drop, inl}
use Rattle.fir_ast.specs.declared.place.Place.{Place}
use Rattle.fir_ast.specs.Circuits.{CircuitTree}
use Rattle.fir_meaning.specs.LeafPaths.{LeafPath, named}
use Rattle.fir_meaning.specs.Components.{Declaration}
use Rattle.fir_meaning.specs.working.NameGroups.{HasNames}
use Rattle.fir_infer_resets.specs.declared.item.Step.{Step}
use Rattle.fir_meaning.specs.ResetItems.{leaf_item}
use Rattle.fir_meaning.specs.ResetWalks.{IsLeafOf, Joined as AreJoined}
use Rattle.fir_reset.specs.working.LeafClasses.{class_of}
use Rattle.fir_reset.specs.working.DeclaredLeaves.{Declares, IsNoInstance}
use Rattle.fir_infer_resets.specs.working.Holding.{path_of, reset_end}
use Rattle.fir_infer_resets.proofs.InstanceLeaves.{HasPort}
use Rattle.fir_infer_resets.proofs.LeafDeclarations.{declared_leaf}

behind_path : (steps : List Step) (x : List ℕ) (rest : LeafPath) → path_of steps ≡ named x ∷ rest → path_of (drop 1 steps) ≡ rest
behind_path [] x rest h = absurd (cc)
behind_path (s ∷ steps) x rest h = cc

-- where the first name of a leaf is declared is the leaf's place
pub place_is : (c : CircuitTree) → HasNames c → (number : ℕ) (leaf : LeafPath) (p found : Place) → IsLeafOf c (reset_end number leaf p)
    → ((d : Declaration) → Declares c number leaf d → found ≡ d.named.place) → found ≡ p
place_is c names number leaf p found l h =
    let d = declared_leaf c names number leaf (reset_end number leaf p) refl l in
    h d.spot.declared d.declares ∙ sym d.spot.place

-- the port's leaf, by the path behind the first step and the place that was found for it
pub record IsPort (c : CircuitTree) (number : ℕ) (leaf : LeafPath) (p : Place) (child : ℕ) (rest : LeafPath) (place : Place) : Type 0 where
  pub is_leaf : IsLeafOf c (reset_end child rest place)
  pub no_instance : IsNoInstance c child rest
  pub class : class_of c (leaf_item number leaf) ≡ class_of c (leaf_item child rest)
  pub joined : AreJoined c (reset_end number leaf p) (reset_end child rest place)

pub is_port : (c : CircuitTree) → HasNames c → (number : ℕ) (steps behind : List Step) (p : Place) (child : ℕ) (place : Place) → HasPort c number (path_of steps) p child → behind ≡ drop 1 steps
    → ((d : Declaration) → Declares c child (path_of behind) d → place ≡ d.named.place) → IsPort c number (path_of steps) p child (path_of behind) place
is_port c names number steps behind p child place h is found =
    let rest : h.rest ≡ path_of behind = sym (ap path_of is ∙ behind_path steps h.name h.rest h.leaf_is) in
    let at : (IsLeafOf c (reset_end child (path_of behind) h.place)) = subst (λ q. IsLeafOf c (reset_end child q h.place)) rest h.is_leaf in
    let same : h.place ≡ place = sym (place_is c names child (path_of behind) h.place place at found) in
    record {
      is_leaf = subst (λ q. IsLeafOf c (reset_end child (path_of behind) q)) same at;
      no_instance = subst (IsNoInstance c child) rest h.no_instance;
      class = h.class ∙ ap (λ q. class_of c (leaf_item child q)) rest;
      joined =
          subst (λ q. AreJoined c (reset_end number (path_of steps) p) (reset_end child (path_of behind) q)) same
          (subst (λ q. AreJoined c (reset_end number (path_of steps) p) (reset_end child q h.place)) rest (inl h.joined));
    }
