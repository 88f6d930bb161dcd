-- The modules of a circuit without a fault of names or types are in order.
use Rattle.std.proofs.Common.{ℕ, length, arith}
use Rattle.std.proofs.lemmas.List.{length-map}
use Rattle.fir_base.specs.Lists.{In}
use Rattle.fir_meaning.specs.Components.{Declaration}
use Rattle.fir_meaning.specs.ModuleScenes.{Scene, behind_all_ports}
use Rattle.fir_meaning.specs.Visibility.{declarations}
use Rattle.fir_meaning.specs.working.LeafBlocks.{HeldInstance}
use Rattle.fir_meaning.specs.working.LeafedModules.{leafed_module, module_leaves}
use Rattle.fir_leaf.specs.working.DesignStates.{array_at, no_array}
use Rattle.fir_leaf.proofs.OncePaths.{at_in}
use Rattle.fir_leaf.proofs.DeclaredLeaves.{own_module}
use Rattle.fir_design.proofs.FineScenes.{fine_scene}
use Rattle.fir_design.proofs.OwnNames.{own_names}
use Rattle.fir_design.proofs.PortLeaves.{ports_in}
use Rattle.fir_elaborate.specs.working.Laws.{ModulesAreOrdered}
use Rattle.fir_elaborate.specs.working.OrderedModules.{StandsInOrder, instances_of}
use Rattle.fir_elaborate.proofs.InstancesInTurn.{AreInTurn, arrays_of, instances_in_turn, lower}
use Rattle.fir_elaborate.proofs.RisingLeaves.{arrays_in_order, leaves_in_order}

module _ (s : Scene) (from : ℕ)
    (turn : AreInTurn (module_leaves s) (arrays_of s) from (length (declarations s.own.inside)) (instances_of (leafed_module s).body)) where
  stands_in_order : (i : HeldInstance) → In (instances_of (leafed_module s).body) i → StandsInOrder (leafed_module s) i
  stands_in_order i among =
      let placed = turn.each i among in
      let lt = turn.high i among in
      record {
        declared = omega (arith, lt, length-map (declarations s.own.inside) (λ (d : Declaration). d.named));
        within = placed.within;
        before = placed.before;
        behind = placed.behind;
        no_state = placed.no_state;
        no_array = λ x inside e. turn.apart i among (array_at (arrays_of s) x) (at_in (arrays_of s) no_array x inside) e;
      }

pub modules_ordered : ModulesAreOrdered
modules_ordered c s names types i =
    let turn = instances_in_turn s (own_module c s.own i).start in
    record {
      ports = ports_in s;
      rise = leaves_in_order s;
      declared = (own_names s (fine_scene c s names types i)).declared;
      arrays_rise = arrays_in_order s;
      arrays_declared = (own_names s (fine_scene c s names types i)).arrays;
      instances = stands_in_order s (length (behind_all_ports s.own.inside).declared) turn;
      in_turn = lower 0 (length (behind_all_ports s.own.inside).declared) (instances_of (leafed_module s).body) (omega arith) turn.turn;
    }
