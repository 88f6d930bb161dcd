-- The nets of the modules of a circuit, and what they give its leaves.
use Rattle.std.specs.Prelude.{◌≡◌, ℕ, ◌^◌, ◌<◌, List, length, Option, Some, slice_get}
use Rattle.fir_ast.specs.Circuits.{CircuitTree}
use Rattle.fir_meaning.specs.working.LeafModules.{role_at}
use Rattle.fir_meaning.specs.ModuleScenes.{Scene}
use Rattle.fir_meaning.specs.working.LeafedModules.{leafed_module}
use Rattle.fir_meaning.specs.Scenes.{IsSceneOf}
use Rattle.fir_connect.specs.working.NetRoles.{net_role_at, net_types}
use Rattle.fir_connect.specs.working.RoleLaws.{ReadsTheSame, RolesGive}
use Rattle.fir_whens.specs.declared.module_net.ModuleNet.{ModuleNet}
use Rattle.fir_whens.specs.working.ModuleNets.{IsNetOf}

-- each is the net of the module of its number
pub record AreNets (c : CircuitTree) (nets : List ModuleNet) : Type 0 where
  pub count : length nets ≡ length c.modules
  pub each : (number : ℕ) (net : ModuleNet) (s : Scene) → slice_get nets number ≡ Some net → IsSceneOf c number s → IsNetOf (leafed_module s) net

-- what stands for roles gives each leaf what its module gives it, for all values within the widths of the leaves, and reads what that reads
pub record NetsGive (c : CircuitTree) (nets : List ModuleNet) : Type 0 where
  pub values : (number : ℕ) (net : ModuleNet) (s : Scene) (numbers : ℕ → ℕ) (clocks : ℕ → Option ℕ) → slice_get nets number ≡ Some net → IsSceneOf c number s
      → ((x : ℕ) → numbers x < 2 ^ (net_types (leafed_module s) x).width) → IsNetOf (leafed_module s) net × RolesGive (leafed_module s) numbers clocks
  pub reads : (number : ℕ) (s : Scene) (x : ℕ) → IsSceneOf c number s
      → ReadsTheSame (leafed_module s) x (role_at (leafed_module s) x) (net_role_at (leafed_module s) x)
