-- The walk that makes the nodes and the statements of a module: what it needs, and what it makes.
use Rattle.std.specs.Prelude.{◌≡◌, ◌≤◌, List}
use Rattle.fir_base.specs.Lists.{In}
use Rattle.fir_ast.specs.Circuits.{CircuitTree, ModuleTree}
use Rattle.fir_meaning.specs.ComponentTypes.{typed_scope}
use Rattle.fir_meaning.specs.CostGroup.{cost_limit}
use Rattle.fir_meaning.specs.Costs.{ModuleCosts, cost_of_block}
use Rattle.fir_meaning.specs.Visibility.{declarations}
use Rattle.fir_ground.specs.working.DeclarationDrivers.{drivers_in_block, drivers_seen}
use Rattle.fir_meaning.specs.ModuleScenes.{Scene, behind_all_ports}
use Rattle.fir_meaning.specs.working.LeafedModules.{leafed_module}
use Rattle.fir_leaf.specs.working.NodeBlocks.{block_in}
use Rattle.fir_meaning.specs.working.Targets.{leaves_so_far}
use Rattle.fir_leaf_table.specs.declared.ground_body.GroundBody.{GroundBody}

-- the module has no more leaves than a circuit may cost, and its statements cost no more
pub record IsWithinLimit (modules : List ModuleTree) (m : ModuleTree) : Type 0 where
  pub leaves : leaves_so_far (typed_scope modules (declarations m)) ≤ cost_limit
  pub costs : ModuleCosts
  pub statements : cost_of_block modules costs (behind_all_ports m) m.body ≤ cost_limit

-- each module is
abbrev pub AreWithinLimit : CircuitTree → Type 0
AreWithinLimit c = (m : ModuleTree) → In c.modules m → IsWithinLimit c.modules m

-- the statements are those of the scene's module, and so are the drivers of what it declares
pub record IsGroundOf (s : Scene) (g : GroundBody) : Type 0 where
  pub body : block_in g.nodes.items g.body.items ≡ (leafed_module s).body
  pub drivers : drivers_seen g.nodes.items g.drivers.items ≡ drivers_in_block s.own.modules (behind_all_ports s.own.inside) s.own.inside.body
