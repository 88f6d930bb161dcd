-- The code's frame of a module, and a declaration within it.
use Rattle.std.specs.Prelude.{◌≡◌, ℕ, map, length, Some, slice_get}
use Rattle.fir_ast.specs.Circuits.{CircuitTree}
use Rattle.fir_ast.specs.Statements.{PlacedName}
use Rattle.fir_ast.specs.working.Views.{circuit_of}
use Rattle.fir_meaning.specs.Components.{Component}
use Rattle.fir_meaning.specs.ComponentTypes.{typed_scope}
use Rattle.fir_meaning.specs.working.NameGroups.{HasNames}
use Rattle.fir_meaning.specs.Visibility.{Before, declarations, with_declaration}
use Rattle.fir_type_table.specs.working.Saturated.{saturated}
use Rattle.fir_type_table.specs.working.Tables.{types_of}
use Rattle.fir_types.specs.working.LeafNumbers.{first_leaves}
use Rattle.fir_types.specs.working.Seen.{seen}
use Rattle.fir_types.specs.working.TypedModules.{IsTyped}
use Rattle.fir_types.specs.working.Walked.{Begins, IsOfModule}
use Rattle.fir_meaning.specs.ModuleScenes.{Scene}
use Rattle.fir_leaf_table.specs.declared.frame.Frame.{Frame}
use Rattle.fir_leaf_table.specs.working.ModulePlaces.{ArePlacesOf}
use Rattle.fir_meaning.specs.Scenes.{IsSceneOf}

-- the frame is that of the scene's module
pub record Frames (frame : Frame) (c : CircuitTree) (s : Scene) : Type 0 where
  pub circuit : circuit_of frame.fitted.now ≡ c
  pub named : HasNames c
  pub typed : IsTyped c frame.findings.now
  pub scene : IsSceneOf c frame.number s
  pub is_module : slice_get c.modules frame.number ≡ Some s.own.inside
  pub modules : s.own.modules ≡ c.modules
  pub names : IsOfModule c.modules frame.names.now (declarations s.own.inside)
  pub types : map (seen (types_of frame.findings.now.table)) frame.declared.now ≡ map (λ k. k.data_type) (typed_scope c.modules (declarations s.own.inside))
  pub port_places : ArePlacesOf c.modules frame.port_places.now
  pub first_leaves : slice_get (map (map saturated) (first_leaves c)) frame.number ≡ Some frame.first_leaves.now

-- a component is declared at the place, behind so many declarations of the module
pub record IsDeclaredAt (s : Scene) (before : Before) (n : PlacedName) (component : Component) (position : ℕ) : Type 0 where
  pub begins : Begins (with_declaration before n component).declared (declarations s.own.inside)
  pub counted : position ≡ length before.declared
