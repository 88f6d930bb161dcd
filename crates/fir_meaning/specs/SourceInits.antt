-- E27 in a circuit (FIRRTL spec, "Registers"): what gives a register with an asynchronous reset its init reaches an input or state. That it must not is a
-- choice of this project.
-- It stands at the register's declaration. The walk of dependence begins with a leaf that the init reads, and ends with an input of the main module or a leaf
-- that shows state: a register, or what a memory gives. No leaf stands on it twice. Any such walk may be told.
use Rattle.std.specs.Prelude.{◌≡◌, ℕ, List, ◌∷◌, ◌++◌, codes, map, Bool, true, false, Some, IsTrue}
use Rattle.fir_base.specs.Lists.{Distinct, In}
use Rattle.fir_ast.specs.declared.place.Place.{Place}
use Rattle.fir_ast.specs.Circuits.{CircuitTree}
use Rattle.fir_ast.specs.Expressions.{Expression}
use Rattle.fir_ast.specs.Texts.{separated}
use Rattle.fir_ast.specs.Faults.{E27, Fault}
use Rattle.fir_pass.specs.Groups.{Group, any_of}
use Rattle.fir_meaning.specs.LeafPaths.{LeafPath, path_text}
use Rattle.fir_meaning.specs.SourceCircuits.{PlacedLeaf, all_leaves, leaf_path}
use Rattle.fir_meaning.specs.SourceClocks.{IsOfSource}
use Rattle.fir_meaning.specs.SourceDependence.{IsDependenceWalk, from_main}
use Rattle.fir_meaning.specs.SourceDesigns.{SourceDesign}
use Rattle.fir_meaning.specs.SourceLoops.{StandsAt}
use Rattle.fir_meaning.specs.SourceReads.{reads}
use Rattle.fir_meaning.specs.SourceRoles.{SourceReset, SourceRole, computed, register, sink}
use Rattle.fir_meaning.specs.TypedScopes.{TypedScope}

abbrev pub is_input_or_state : SourceRole → Bool
is_input_or_state sink = false
is_input_or_state (computed scope e q) = false
is_input_or_state _ = true

abbrev pub init_fault : Place → List (List ℕ) → Fault
init_fault p walk = record { code = E27; place = p; evidence = codes "async init " ++ separated (codes " <- ") walk }

module _ (t : SourceDesign) where
  pub record ShowsAsyncInit (f : Fault) : Type 0 where
    pub leaf : PlacedLeaf
    pub among : In (all_leaves t) leaf
    pub scope : TypedScope
    pub clock : Expression
    pub reset : SourceReset
    pub within : LeafPath
    pub is_register : leaf.leaf.role ≡ register scope clock (Some reset) within
    pub is_async : IsTrue reset.is_async
    pub first : LeafPath
    pub read : In (from_main leaf.at (reads reset.scope reset.init within)) first
    pub rest : List LeafPath
    pub final : PlacedLeaf
    pub walk : IsDependenceWalk t first rest (leaf_path final)
    pub is_final : In (all_leaves t) final
    pub ends : IsTrue (is_input_or_state final.leaf.role)
    pub distinct : Distinct (first ∷ rest)
    pub place : Place
    pub stands : StandsAt t (leaf_path leaf) place
    pub is : f ≡ init_fault place (map path_text (first ∷ rest))

abbrev pub init_group : CircuitTree → Group
init_group c = any_of (IsOfSource ShowsAsyncInit c)
