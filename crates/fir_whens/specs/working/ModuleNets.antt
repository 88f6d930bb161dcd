-- The net of a module: its nodes, and what gives each of its leaves its value.
use Rattle.std.specs.Prelude.{◌≡◌, ℕ, List, length, map, Bool, Some, slice_get}
use Rattle.fir_bits.specs.declared.types.NumTy.{NumTy}
use Rattle.fir_ast.specs.Circuits.{CircuitTree}
use Rattle.fir_meaning.specs.working.LeafModules.{LeafModule}
use Rattle.fir_meaning.specs.LeafTypes.{number_type}
use Rattle.fir_meaning.specs.ModuleScenes.{Scene}
use Rattle.fir_meaning.specs.working.LeafedModules.{leafed_module}
use Rattle.fir_meaning.specs.Scenes.{IsSceneOf}
use Rattle.fir_leaf_types.specs.working.TypedModules.{IsModuleTyped}
use Rattle.fir_leaf_circuit.specs.declared.leaf.Leaf.{Leaf}
use Rattle.fir_leaf_circuit.specs.declared.leaf_module.LeafModule.{LeafModule as ModuleOfCode}
use Rattle.fir_leaf_circuit.specs.working.Seen.{type_seen}
use Rattle.fir_connect.specs.working.NetRoles.{net_role_at, net_types}
use Rattle.fir_whens.specs.declared.module_net.ModuleNet.{ModuleNet}
use Rattle.fir_whens.specs.declared.net_role.NetRole.{NetRole}
use Rattle.fir_whens.specs.working.StandingRoles.{RoleStands, is_register}

abbrev pub types_of_leaves : ModuleOfCode → List NumTy
types_of_leaves m = map (λ (l : Leaf). number_type (type_seen l.holds)) m.leaves.items

abbrev pub registers_of : ModuleOfCode → List Bool
registers_of m = map (λ (l : Leaf). is_register l.role) m.leaves.items

-- each leaf has the role that its module's net gives it: one driver for all statements that drive it
pub record IsNetOf (m : LeafModule) (net : ModuleNet) : Type 0 where
  pub count : length net.roles.items ≡ length m.leaves
  pub each : (x : ℕ) (r : NetRole) → slice_get net.roles.items x ≡ Some r → RoleStands (net_types m) net.nodes r (net_role_at m x)

-- each module of a circuit has types
abbrev pub AreAllTyped : CircuitTree → Type 0
AreAllTyped c = (module_number : ℕ) (s : Scene) → IsSceneOf c module_number s → IsModuleTyped (leafed_module s)
