-- E28 in a circuit (FIRRTL spec, "Connects", "Last Connect Semantics"): a leaf of the design that depends on itself within a tick.
-- The walk has one step at least, and no leaf stands on it twice but its first, with which it ends. It stands at the declaration of that leaf. Any such walk may
-- be told.
use Rattle.std.specs.Prelude.{◌≡◌, ℕ, List, [], ◌∷◌, ◌++◌, codes, map}
use Rattle.fir_base.specs.Lists.{Distinct, In}
use Rattle.fir_ast.specs.declared.place.Place.{Place}
use Rattle.fir_ast.specs.Circuits.{CircuitTree}
use Rattle.fir_ast.specs.Texts.{separated}
use Rattle.fir_ast.specs.Faults.{E28, Fault}
use Rattle.fir_pass.specs.Groups.{Group, any_of}
use Rattle.fir_meaning.specs.Elaborated.{IsSourceOf}
use Rattle.fir_meaning.specs.LeafPaths.{LeafPath, path_text}
use Rattle.fir_meaning.specs.SourceCircuits.{PlacedLeaf, all_leaves, leaf_path}
use Rattle.fir_meaning.specs.SourceDependence.{IsDependenceWalk, PlacedModule, all_modules}
use Rattle.fir_meaning.specs.SourceDesigns.{SourceDesign}
use Rattle.fir_meaning.specs.SourceFacts.{source_place}

abbrev pub loop_fault : Place → List (List ℕ) → Fault
loop_fault p walk = record { code = E28; place = p; evidence = codes "loop " ++ separated (codes " <- ") walk }

module _ (t : SourceDesign) where
  -- the leaf at a path is declared at a place
  pub record StandsAt (x : LeafPath) (place : Place) : Type 0 where
    pub leaf : PlacedLeaf
    pub among : In (all_leaves t) leaf
    pub is_leaf : leaf_path leaf ≡ x
    pub holder : PlacedModule
    pub is_holder : In (all_modules t) holder
    pub within : holder.at ≡ leaf.at
    pub is : source_place holder.scene leaf.leaf.path ≡ place

  pub record ShowsLoop (f : Fault) : Type 0 where
    pub first : LeafPath
    pub between : List LeafPath
    pub walk : IsDependenceWalk t first (between ++ first ∷ []) first
    pub distinct : Distinct (first ∷ between)
    pub place : Place
    pub stands : StandsAt first place
    pub is : f ≡ loop_fault place (map path_text (first ∷ between ++ first ∷ []))

pub record IsLoopOf (c : CircuitTree) (f : Fault) : Type 0 where
  pub source : SourceDesign
  pub is_source : IsSourceOf c source
  pub shows : ShowsLoop source f

abbrev pub loop_group : CircuitTree → Group
loop_group c = any_of (IsLoopOf c)
