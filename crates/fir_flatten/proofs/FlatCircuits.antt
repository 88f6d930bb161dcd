-- A circuit means what the flat net of its design means, whose inits are constants, and closed walks stand in both alike.
use Rattle.std.proofs.Common.{◌≡◌, ℕ, List, refl}
use Rattle.fir_ast.specs.Circuits.{CircuitTree}
use Rattle.fir_ast.specs.working.CodeFaults.{fault_of}
use Rattle.fir_pass.specs.Groups.{IsClear}
use Rattle.fir_meaning.specs.Elaborated.{IsSourceOf}
use Rattle.fir_meaning.specs.ModuleScenes.{Scene}
use Rattle.fir_meaning.specs.SourceDesigns.{SourceDesign}
use Rattle.fir_meaning.specs.SourceLoops.{loop_group}
use Rattle.fir_meaning.specs.SourceMeaning.{source_counts}
use Rattle.fir_meaning.specs.working.Designs.{Design}
use Rattle.fir_meaning.specs.working.Flattened.{flattened}
use Rattle.fir_meaning.specs.working.LeafModules.{leaf_at}
use Rattle.fir_meaning.specs.working.LeafedModules.{leafed_module}
use Rattle.fir_net.specs.declared.net.FlatNet.{FlatNet}
use Rattle.fir_net.specs.working.IsWritable.{HasConstantInits, HasOneClocks, IsWritable}
use Rattle.fir_loop.specs.working.IsLoop.{IsLoop}
use Rattle.fir_flatten.specs.working.FlattensTo.{FlattensTo, net_counts}
use Rattle.fir_flatten.specs.working.Laws.{DesignsFlatten}
use Rattle.fir_flatten.proofs.DesignMeanings.{IsGiven, LawsBelow, counts, means, net_is}
use Rattle.fir_flatten.proofs.DesignedNets.{source_is}
use Rattle.fir_flatten.proofs.DesignsOfCircuits.{designs_beside, tree_of}
use Rattle.fir_flatten.proofs.FlatWords.{flat_words}
use Rattle.fir_flatten.proofs.LeafRoles.{shaped_writable}

module _ (laws : LawsBelow) (c : CircuitTree) (scenes : List Scene) (main : Scene) (d : Design) (net : FlatNet) (given : IsGiven c scenes main d net) where
  writable : HasConstantInits net → HasOneClocks net → IsWritable net
  writable inits clocks = record {
    leaves = λ k l at.
        shaped_writable l.role (leaf_at (flattened d).leaves k).holds (leaf_at (flattened d).leaves k).role
        ((net_is laws c scenes main d net given).each k l at).shaped;
    inits = inits;
    clocks = clocks;
  }

  -- where the net has no closed walk, no tree below the main module has one
  no_loop : ((walk : List ℕ) → IsLoop net walk → ⊥) → IsClear (loop_group c)
  no_loop none f shown =
      let t = shown.source in
      let both = designs_beside c scenes main d given.designed t (source_is c scenes main d given.designed t shown.is_source) in
      laws.hidden (flattened d) net given.flat.whole (net_is laws c scenes main d net given).flat none f ((laws.loops c d t f both).1 shown.shows)

  flattens : net.name ≡ c.named.name → HasConstantInits net → HasOneClocks net → FlattensTo c net
  flattens named inits clocks =
      let own = given.designed in
      let tree = tree_of c scenes main d own laws.trees in
      let both = designs_beside c scenes main d own tree.0 tree.1 in
      let is = net_is laws c scenes main d net given in
      let source : IsSourceOf c tree.0 = record { scenes = scenes; main = main; has = own.has; is = tree.1 } in
      record {
        whole = given.flat.whole;
        words = λ words. flat_words laws.follow c d tree.0 both (leafed_module main).port_leaves net is words named;
        writable = writable inits clocks;
        named = named;
        source = tree.0;
        is_source = source;
        each = λ t src. means laws c scenes main d net given t (source_is c scenes main d own t src);
        loops = λ f shown. record {
          source = tree.0;
          is_source = source;
          shows =
              (laws.loops c d tree.0 (fault_of f) both).0
              ((laws.net_loops (flattened d) net (fault_of f) given.flat.whole is.flat is.named).0 (f, shown, refl));
        };
        no_loop = no_loop;
      }

  counted : (t : SourceDesign) → IsSourceOf c t → source_counts t ≡ net_counts net
  counted t src = counts laws c scenes main d net given t (source_is c scenes main d given.designed t src)

pub designs_flatten : LawsBelow → DesignsFlatten
designs_flatten laws c scenes main d net designed taken flat named inits clocks =
    let given : IsGiven c scenes main d net = record { designed = designed; taken = taken; flat = flat } in
    record { flattens = flattens laws c scenes main d net given named inits clocks; counted = counted laws c scenes main d net given }
