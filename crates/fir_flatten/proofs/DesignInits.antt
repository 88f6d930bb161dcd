-- An init that is no constant stands in the flat net of a design exactly where it stands in the circuit, by the same faults.
use Rattle.std.proofs.Common.{List, refl}
use Rattle.fir_ast.specs.Circuits.{CircuitTree}
use Rattle.fir_ast.specs.declared.fault.FirFault.{FirFault}
use Rattle.fir_ast.specs.working.CodeFaults.{fault_of}
use Rattle.fir_pass.specs.Groups.{IsClear}
use Rattle.fir_meaning.specs.ModuleScenes.{Scene}
use Rattle.fir_meaning.specs.SourceInits.{init_group}
use Rattle.fir_meaning.specs.working.Designs.{Design}
use Rattle.fir_meaning.specs.working.Flattened.{flattened}
use Rattle.fir_meaning.specs.working.LeafedModules.{leafed_module}
use Rattle.fir_design.specs.working.SourceLaws.{HasOneTree}
use Rattle.fir_design_loops.specs.working.SameInits.{SameInits}
use Rattle.fir_net.specs.declared.net.FlatNet.{FlatNet}
use Rattle.fir_net.specs.working.IsWritable.{HasConstantInits}
use Rattle.fir_inits.specs.working.ShowsInit.{ShowsInit}
use Rattle.fir_flat.specs.working.FlatInits.{HidesNoInit, ShowsTheSameInits}
use Rattle.fir_flatten.specs.working.FlatDesigns.{IsFlatDesign}
use Rattle.fir_flatten.specs.working.Laws.{DesignsArePlain, DesignsTellInits, IsDesigned, IsClearDesign}
use Rattle.fir_flatten.proofs.DesignedNets.{net_of_design, source_is}
use Rattle.fir_flatten.proofs.DesignsOfCircuits.{designs_beside, tree_of}
use Rattle.fir_flatten.proofs.PlainNets.{IsPlainNet}

-- the laws that it rests on
pub record LawsOfInits : Type 0 where
  pub plain : DesignsArePlain
  pub trees : HasOneTree
  pub inits : SameInits
  pub net_inits : ShowsTheSameInits
  pub hidden : HidesNoInit

module _
    (laws : LawsOfInits) (c : CircuitTree) (scenes : List Scene) (main : Scene) (d : Design) (net : FlatNet) (designed : IsDesigned c scenes main d)
    (taken : IsClearDesign scenes d) (flat : IsFlatDesign (flattened d) (leafed_module main).port_leaves net) where
  is : IsPlainNet (flattened d) (leafed_module main).port_leaves net
  is = net_of_design c scenes main d designed laws.plain taken net flat

  shows : (f : FirFault) → ShowsInit net f → (init_group c).shows (fault_of f)
  shows f shown =
      let tree = tree_of c scenes main d designed laws.trees in
      record {
        source = tree.0;
        is_source = record { scenes = scenes; main = main; has = designed.has; is = tree.1 };
        holds =
            (laws.inits c d tree.0 (fault_of f) (designs_beside c scenes main d designed tree.0 tree.1)).0
            ((laws.net_inits (flattened d) net (fault_of f) flat.whole is.flat is.named).0 (f, shown, refl));
      }

  clear : HasConstantInits net → IsClear (init_group c)
  clear constant f shown =
      let t = shown.source in
      let both = designs_beside c scenes main d designed t (source_is c scenes main d designed t shown.is_source) in
      laws.hidden (flattened d) net flat.whole is.flat constant f ((laws.inits c d t f both).1 shown.holds)

pub designs_tell_inits : LawsOfInits → DesignsTellInits
designs_tell_inits laws c scenes main d net designed taken flat = record {
  shows = shows laws c scenes main d net designed taken flat;
  clear = clear laws c scenes main d net designed taken flat;
}
