-- The flat net of a design is that of its circuit, and each source of a circuit is the tree below the main module of its design.
use Rattle.std.proofs.Common.{◌≤◌, List, length, subst, arith, length-append}
use Rattle.fir_ast.specs.Circuits.{CircuitTree}
use Rattle.fir_meaning.specs.Elaborated.{IsSourceOf}
use Rattle.fir_meaning.specs.ModuleScenes.{Scene, behind_all_ports}
use Rattle.fir_meaning.specs.SourceDesigns.{IsSourceDesignOf, SourceDesign}
use Rattle.fir_meaning.specs.Visibility.{at_head}
use Rattle.fir_meaning.specs.working.Designs.{Design}
use Rattle.fir_meaning.specs.working.Elaborated.{views}
use Rattle.fir_meaning.specs.working.Flattened.{flattened}
use Rattle.fir_meaning.specs.working.LeafedModules.{leafed_module, leaves_in_block, leaves_of_ports}
use Rattle.fir_net.specs.declared.net.FlatNet.{FlatNet}
use Rattle.fir_flat.specs.working.FlatLaws.{IsFaithful}
use Rattle.fir_flatten.specs.working.FlatDesigns.{IsFlatDesign, IsPlainDesign}
use Rattle.fir_flatten.specs.working.Laws.{DesignsArePlain, IsDesigned, IsClearDesign}
use Rattle.fir_flatten.proofs.DesignPorts.{HasPorts, has_ports}
use Rattle.fir_flatten.proofs.OneScene.{one_list, one_main}
use Rattle.fir_flatten.proofs.PlainNets.{IsPlainNet, faithful, plain_net}

ports_within : (s : Scene) → (leafed_module s).port_leaves ≤ length (leafed_module s).leaves
ports_within s =
    let long =
    length-append (leaves_of_ports s at_head s.own.inside.ports) (leaves_in_block s (behind_all_ports s.own.inside) s.own.inside.body) in
    omega (arith, long)

module _ (c : CircuitTree) (scenes : List Scene) (main : Scene) (d : Design) (designed : IsDesigned c scenes main d) where
  module _ (law : DesignsArePlain) (taken : IsClearDesign scenes d) (net : FlatNet) (flat : IsFlatDesign (flattened d) (leafed_module main).port_leaves net)
    where
      plain : IsPlainDesign (flattened d) (leafed_module main).port_leaves
      plain = law c scenes main d designed taken

      ports : HasPorts (leafed_module main) (flattened d)
      ports = has_ports (views scenes) (leafed_module main) d designed.sound.is (ports_within main)

      pub net_of_design : IsPlainNet (flattened d) (leafed_module main).port_leaves net
      net_of_design = plain_net (flattened d) (leafed_module main) net plain ports flat

      pub faithful_to_design : IsFaithful (flattened d) net
      faithful_to_design = faithful (flattened d) (leafed_module main) net plain ports flat

  pub source_is : (t : SourceDesign) → IsSourceOf c t → IsSourceDesignOf scenes main t
  source_is t source =
      subst (λ (ss : List Scene). IsSourceDesignOf ss main t) (one_list c source.scenes scenes source.main main source.has designed.has)
      (subst (λ (s : Scene). IsSourceDesignOf source.scenes s t) (one_main c source.scenes scenes source.main main source.has designed.has) source.is)
