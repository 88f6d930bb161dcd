-- E24 in a circuit (FIRRTL spec, "Initialization of Components"): a leaf that statements must drive and that some choice leaves undriven.
-- It stands at the leaf's declaration. Told is the first of these leaves in the order of the modules and of their leaves, with the first such choice.
use Rattle.std.specs.Prelude.{◌≡◌, ℕ, ◌<◌, List, ◌++◌, codes, flat_map, Some, slice_get, IsTrue}
use Rattle.fir_ast.specs.declared.fault.Outcome.{Outcome}
use Rattle.fir_ast.specs.declared.place.Place.{Place}
use Rattle.fir_ast.specs.Texts.{outcome_text}
use Rattle.fir_ast.specs.Circuits.{CircuitTree}
use Rattle.fir_ast.specs.Faults.{E24, Fault}
use Rattle.fir_pass.specs.Groups.{Group}
use Rattle.fir_meaning.specs.LeafPaths.{path_text}
use Rattle.fir_meaning.specs.ModuleScenes.{Scene}
use Rattle.fir_meaning.specs.Scenes.{IsSceneOf}
use Rattle.fir_meaning.specs.SourceChoices.{Choice}
use Rattle.fir_meaning.specs.SourceCircuits.{is_sink_role}
use Rattle.fir_meaning.specs.SourceFacts.{source_depth, source_place}
use Rattle.fir_meaning.specs.SourceRoles.{SourceLeaf, source_leaves}
use Rattle.fir_meaning.specs.SourceUndriven.{IsFirstUndriven, IsUndriven}
use Rattle.fir_meaning.specs.Visits.{module_visits}

abbrev pub undriven_fault : Place → List ℕ → List Outcome → Fault
undriven_fault p leaf outcomes = record { code = E24; place = p; evidence = codes "undriven " ++ leaf ++ flat_map outcome_text outcomes }

-- in the module of a scene
module _ (s : Scene) where
  pub record ShowsUndriven (l : SourceLeaf) (f : Fault) : Type 0 where
    pub outcomes : List Outcome
    pub is_sink : IsTrue (is_sink_role l.role)
    pub first : IsFirstUndriven s (source_depth s l.path) l.path (module_visits s.own.inside) outcomes
    pub is : f ≡ undriven_fault (source_place s l.path) (path_text l.path) outcomes

  -- no choice leaves a leaf undriven that statements must drive
  abbrev pub IsDriven : SourceLeaf → Type 0
  IsDriven l = IsTrue (is_sink_role l.role) → (f : Choice) → IsUndriven s (source_depth s l.path) l.path (module_visits s.own.inside) f → ⊥

  -- so it is for the leaves before the one of a number
  abbrev pub AreDrivenBefore : ℕ → Type 0
  AreDrivenBefore n = (k : ℕ) (l : SourceLeaf) → k < n → slice_get (source_leaves s) k ≡ Some l → IsDriven l

  abbrev pub AreDriven : Type 0
  AreDriven = (k : ℕ) (l : SourceLeaf) → slice_get (source_leaves s) k ≡ Some l → IsDriven l

-- the fault of the leaf of a number of the module of a number
pub record IsFaultOf (c : CircuitTree) (module_number number : ℕ) (f : Fault) : Type 0 where
  pub scene : Scene
  pub is_scene : IsSceneOf c module_number scene
  pub leaf : SourceLeaf
  pub is_leaf : slice_get (source_leaves scene) number ≡ Some leaf
  pub shows : ShowsUndriven scene leaf f

pub record IsShown (c : CircuitTree) (f : Fault) : Type 0 where
  pub module_number : ℕ
  pub number : ℕ
  pub stands : IsFaultOf c module_number number f

-- no module of a lower number has such a leaf, nor has the module one of a lower number
pub record IsTold (c : CircuitTree) (f : Fault) : Type 0 where
  pub module_number : ℕ
  pub number : ℕ
  pub stands : IsFaultOf c module_number number f
  pub before : (s : Scene) → IsSceneOf c module_number s → AreDrivenBefore s number
  pub modules_before : (other : ℕ) (s : Scene) → other < module_number → IsSceneOf c other s → AreDriven s

abbrev pub undriven_group : CircuitTree → Group
undriven_group c = record { shows = IsShown c; tells = IsTold c }
