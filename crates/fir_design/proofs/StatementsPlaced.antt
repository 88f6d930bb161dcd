-- All leaves of a module's statements stand behind those of its ports, and among those of all trees.
use Rattle.std.proofs.Common.{◌≡◌, ℕ, ◌+◌, ◌-◌, List, [], ◌++◌, length, map, refl, sym, ap, subst, arith, append-nil}
use Rattle.fir_meaning.specs.LeafPaths.{LeafPath}
use Rattle.fir_meaning.specs.Visibility.{at_head, declarations}
use Rattle.fir_meaning.specs.working.LeafModules.{LeafDeclared}
use Rattle.fir_meaning.specs.ModuleScenes.{Scene, behind_all_ports}
use Rattle.fir_meaning.specs.working.LeafedModules.{leafed_module, leaves_in_block, leaves_of_ports}
use Rattle.fir_leaf.proofs.FlatPlaces.{At, at_left}
use Rattle.fir_design.specs.working.SameRoles.{SameLeaves}
use Rattle.fir_meaning.specs.SourceCircuits.{PlacedLeaf, leaves_of_design, leaves_of_instances, placed, port_leaves, within}
use Rattle.fir_meaning.specs.SourceDesigns.{Instances}
use Rattle.fir_meaning.specs.SourceDesigns as source
use Rattle.fir_meaning.specs.SourceRoles.{SourceLeaf, source_leaves, sources_in_block}
use Rattle.fir_design.proofs.LeafRuns.{ports_run}
use Rattle.fir_design.proofs.LeavesBeside.{ports_beside, same_parts}
use Rattle.fir_design.proofs.PlacedRuns.{IsPlaced}

module _ (s : Scene) where
  abbrev pub ports : List LeafDeclared
  ports = leaves_of_ports s at_head s.own.inside.ports

  abbrev pub others : List LeafDeclared
  others = leaves_in_block s (behind_all_ports s.own.inside) s.own.inside.body

  abbrev pub inner : List SourceLeaf
  inner = sources_in_block s (behind_all_ports s.own.inside) s.own.inside.body

  pub statements_placed : (all : List PlacedLeaf) (path : LeafPath) (free : ℕ) (trees : Instances)
      → SameLeaves (leafed_module s).leaves (leafed_module s).arrays (leafed_module s).leaves (source_leaves s)
      → At all free (leaves_of_design path (source.made_of s trees))
      → IsPlaced (leafed_module s) all path free (length (behind_all_ports s.own.inside).declared) (length (declarations s.own.inside))
      (length ports) others inner
  statements_placed all path free trees same at = record {
    alone = record {
      front = ports;
      after = [];
      is = ap (λ ls. ports ++ ls) (sym (append-nil others));
      long = refl;
      low = (ports_run s s.own.inside.ports at_head).high;
      high = λ x j. absurd j;
    };
    same =
        (same_parts (leafed_module s).leaves (leafed_module s).arrays ports others (port_leaves s) inner
        (ports_beside s s.own.inside.ports at_head) same).1;
    inner = omega arith;
    there =
        let here : free ≡ free + (length ports - (leafed_module s).port_leaves) = omega arith in
        subst (λ z. At all z (placed path (map within inner))) here
        (at_left all (placed path (map within inner)) (leaves_of_instances path trees) free at);
  }
