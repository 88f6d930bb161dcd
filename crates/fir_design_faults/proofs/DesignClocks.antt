-- Each sound design of a circuit without a fault of names or types shows over numbered leaves the faults of clocks that its tree shows by paths.
use Rattle.std.proofs.Common.{sym, subst}
use Rattle.fir_ast.specs.Circuits.{CircuitTree}
use Rattle.fir_meaning.specs.ModuleScenes.{Scene}
use Rattle.fir_meaning.specs.SourceDesigns as source
use Rattle.fir_meaning.specs.SourceDesigns.{Instances, SourceDesign}
use Rattle.fir_meaning.specs.working.Designs.{Design, Items, made_of}
use Rattle.fir_meaning.specs.working.Flattened.{flattened}
use Rattle.fir_meaning.specs.working.LeafModules.{LeafModule, leaf_at}
use Rattle.fir_meaning.specs.working.LeafCircuits.{role_of}
use Rattle.fir_meaning.specs.working.LeafedModules.{leafed_module, module_leaves}
use Rattle.fir_design.specs.working.MeaningLaws.{AreDesigns}
use Rattle.fir_design.proofs.FlatInStep.{each_leaf, many_leaves}
use Rattle.fir_design.proofs.ViewRoles.{views_same}
use Rattle.fir_design_faults.specs.working.SameClockFaults.{SameClockFaults}
use Rattle.fir_design_faults.proofs.ClockFaults.{SameClockLeaves, clocks_same}
use Rattle.fir_design_faults.proofs.ClockRoles.{places_same}
use Rattle.fir_design_faults.proofs.DrivenLives.{to_module, to_whole}
use Rattle.fir_design_faults.proofs.LeafNumbers.{leaf_numbered}
use Rattle.fir_design_faults.proofs.LeafPlaces.{one_place, stands}
use Rattle.fir_design_faults.proofs.WholeDesigns.{design_below, module_fine}

same_leaves : (c : CircuitTree) (s : Scene) (is : Items) (trees : Instances) → AreDesigns c (made_of (leafed_module s) is) (source.made_of s trees)
    → SameClockLeaves (flattened (made_of (leafed_module s) is)) (source.made_of s trees)
same_leaves c s is trees a =
    let m = leafed_module s in
    let g = flattened (made_of m is) in
    let t = source.made_of s trees in
    let below = design_below c m is t a in
    let fine = module_fine c m is t a in
    record {
      many = many_leaves c views_same (made_of m is) t a;
      each = λ x p e.
          let same = each_leaf c views_same (made_of m is) t a x p e in
          let n = leaf_numbered c s is trees a x p e in
          record {
            path = sym same.path;
            holds = same.holds;
            role = same.role;
            places =
                places_same g p.at n.holder.scene (leaf_at (module_leaves n.holder.scene) n.leaf).role (role_of g x) p.leaf.role n.role same.role n.gives;
            instances = n.instances;
          };
      stands = stands c s is trees a;
      one_place = one_place c s is trees a;
      to_module = to_module g t m 0 m.port_leaves _ below a.design.sound.once fine;
      to_whole = to_whole g t m 0 m.port_leaves _ below a.design.sound.once fine;
    }

-- at the module and the tree that the design has
abbrev Same : (m : LeafModule) (is : Items) (s : Scene) (trees : Instances) → CircuitTree → Type 0
Same m is s trees c = AreDesigns c (made_of m is) (source.made_of s trees) → SameClockLeaves (flattened (made_of m is)) (source.made_of s trees)

pub clock_leaves : (c : CircuitTree) (d : Design) (t : SourceDesign) → AreDesigns c d t → SameClockLeaves (flattened d) t
clock_leaves c (made_of m is) (source.made_of u trees) a =
    let s = a.main in
    subst (λ (v : LeafModule). Same v is u trees c) (sym a.design.is.0)
    (subst (λ (z : Scene). Same (leafed_module s) is z trees c) (sym a.tree.0) (λ own. same_leaves c s is trees own)) a

pub clock_faults : SameClockFaults
clock_faults c d t f a = clocks_same (flattened d) t (clock_leaves c d t a) f
