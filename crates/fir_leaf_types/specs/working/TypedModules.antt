-- The types of a module over its leaves (FIRRTL spec, "Nodes", "Registers"), and the law that the modules of a circuit without faults have them.
use Rattle.std.specs.Prelude.{◌≡◌, ℕ, ◌<◌, [], length, Option, Some, None}
use Rattle.fir_bits.specs.declared.types.NumTy.{NumTy}
use Rattle.fir_ast.specs.Circuits.{CircuitTree}
use Rattle.fir_meaning.specs.working.NameGroups.{HasNames}
use Rattle.fir_meaning.specs.TypeGroup.{type_faults}
use Rattle.fir_meaning.specs.OverFaults.{over_faults}
use Rattle.fir_meaning.specs.LegalFaults.{legal_faults}
use Rattle.fir_meaning.specs.working.LeafModules.{LeafModule, LeafReset, Role, computed, leaf_at, pipe, reading, register, role_at, sink, source}
use Rattle.fir_meaning.specs.LeafTypes.{LeafType, a_clock, number}
use Rattle.fir_meaning.specs.ModuleScenes.{Scene}
use Rattle.fir_meaning.specs.working.LeafedModules.{leafed_module}
use Rattle.fir_meaning.specs.Scenes.{IsSceneOf}
use Rattle.fir_meaning.specs.working.Terms.{zeros}
use Rattle.fir_leaf_types.specs.working.TypedTerms.{HasType, IsNarrow, one_bit}
use Rattle.fir_leaf_types.specs.working.TypedBlocks.{AreTyped, MayGive}

abbrev pub held_in : LeafModule → ℕ → LeafType
held_in m x = (leaf_at m.leaves x).holds

-- an init is not what `is invalid` drives
abbrev pub IsResetTyped : (ℕ → LeafType) → LeafType → Option LeafReset → Type 0
IsResetTyped held t None = Unit {0}
IsResetTyped held t (Some r) = HasType held r.condition one_bit × MayGive held r.init t × (r.init ≡ zeros → ⊥)

-- a node holds just what its expression gives, and a register a number
abbrev pub IsRoleTyped : (ℕ → LeafType) → LeafType → Role → Type 0
IsRoleTyped held t source = Unit {0}
IsRoleTyped held t sink = Unit {0}
IsRoleTyped held t (computed e) = HasType held e t
IsRoleTyped held t (register clock reset) = ((u : NumTy) × (t ≡ number u)) × HasType held clock a_clock × IsResetTyped held t reset
IsRoleTyped held t (reading r) = Unit {0}
IsRoleTyped held t (pipe r clock under) = Unit {0}

pub record IsModuleTyped (m : LeafModule) : Type 0 where
  pub body : AreTyped (held_in m) m.body
  pub narrow : (x : ℕ) → x < length m.leaves → IsNarrow (held_in m x)
  pub roles : (x : ℕ) → x < length m.leaves → IsRoleTyped (held_in m) (held_in m x) (role_at m x)

-- where no fault of names, types or widths stands in a circuit, each of its modules has types
abbrev pub LeafedModulesAreTyped : Type 0
LeafedModulesAreTyped =
    (c : CircuitTree) (module_number : ℕ) (s : Scene) → HasNames c → type_faults c ≡ [] → IsSceneOf c module_number s
    → over_faults c s.widths ≡ [] → legal_faults c s.widths ≡ [] → IsModuleTyped (leafed_module s)
