-- The leaves of the main module's ports go in step with those of its text.
use Rattle.std.proofs.Common.{◌≡◌, ℕ, suc, List, [], ◌∷◌, ◌++◌, length, Bool, true, false, if◌then◌else◌, refl, sym, ap, ◌∙◌, subst}
use Rattle.std.proofs.lemmas.List.{length-map}
use Rattle.std.proofs.Math.Seq.{take-append_seam}
use Rattle.fir_base.specs.declared.direction.Direction.{Direction}
use Rattle.fir_ast.specs.declared.place.Place.{Place}
use Rattle.fir_ast.specs.Circuits.{PortTree}
use Rattle.fir_meaning.specs.Components as component
use Rattle.fir_meaning.specs.Flows.{flow_under, is_source, port_flow}
use Rattle.fir_meaning.specs.TypeLeaves.{TypeLeaf}
use Rattle.fir_meaning.specs.Visibility.{Before, at_head, with_declaration}
use Rattle.fir_meaning.specs.working.Flattened as flat_circuit
use Rattle.fir_meaning.specs.working.LeafCircuits.{LeafCircuit}
use Rattle.fir_meaning.specs.FoundTypes.{leaves_of_data}
use Rattle.fir_meaning.specs.working.LeafModules as over
use Rattle.fir_meaning.specs.working.LeafModules.{LeafArray, LeafDeclared, LeafModule, Writing}
use Rattle.fir_meaning.specs.LeafTypes.{LeafType}
use Rattle.fir_meaning.specs.ModuleScenes.{Declared, Scene, behind_all_ports, held_by_declared, type_of_declared}
use Rattle.fir_meaning.specs.working.LeafedModules.{leafed_module, leaves_from, leaves_in_block, leaves_of_ports, port_role}
use Rattle.fir_meaning.specs.SourceCircuits.{PlacedLeaf, leaf_path, placed, port_leaves}
use Rattle.fir_meaning.specs.SourceRoles as tree
use Rattle.fir_meaning.specs.SourceRoles.{SourceArray, SourceLeaf, source_arrays, source_leaves, source_leaves_of, source_port_role, sources_in_block, sources_of_ports}
use Rattle.fir_design.proofs.InStep.{SameRoleBelow}
use Rattle.fir_design.proofs.ListsInStep.{AreInStep, step_joined, step_long}
use Rattle.fir_design.proofs.NamedPaths.{HasName}

pub record LeafInStep (c : LeafCircuit) (l : LeafDeclared) (p : PlacedLeaf) : Type 0 where
  pub path : l.path ≡ leaf_path p
  pub holds : l.holds ≡ p.leaf.holds
  pub role : SameRoleBelow c p.at l.role p.leaf.role
  pub named : HasName l.path

-- the main module's ports
module _ (c : LeafCircuit) (s : Scene) where
  port_in_step : (dir : Direction) (d : Declared) (place : TypeLeaf → Place) (k : ℕ) (ls : List TypeLeaf) (hs : List LeafType)
      → AreInStep (LeafInStep c) (leaves_from d place (λ x l. port_role dir l) k ls hs)
      (placed [] (source_leaves_of d.named.name (source_port_role s dir) ls hs))
  port_in_step dir d place k [] hs = tt
  port_in_step dir d place k (l ∷ ls) [] = tt
  port_in_step dir d place k (l ∷ ls) (h ∷ hs) = (
    record {
      path = refl;
      holds = refl;
      role = by (is_source (flow_under l.flip (port_flow dir)));
      named = record { some = λ e. cc };
    },
    port_in_step dir d place (suc k) ls hs,
  )
    where
      by : (b : Bool) → SameRoleBelow c [] (if b then over.source else over.sink) (if b then tree.source else tree.sink)
      by true = tt
      by false = tt

  placed_joined : (xs ys : List SourceLeaf) → placed [] (xs ++ ys) ≡ placed [] xs ++ placed [] ys
  placed_joined [] ys = refl
  placed_joined (x ∷ xs) ys = ap (λ ps. record { at = []; leaf = x } ∷ ps) (placed_joined xs ys)

  all_ports_in_step : (ps : List PortTree) (before : Before)
      → AreInStep (LeafInStep c) (leaves_of_ports s before ps) (placed [] (sources_of_ports s before ps))
  all_ports_in_step [] before = tt
  all_ports_in_step (p ∷ ps) before =
      let x = component.port p.direction p.data_type in
      let next = with_declaration before p.named x in
      let d : Declared = record { named = p.named; component = x; before = before } in
      let place : TypeLeaf → Place = λ l. p.named.place in
      let ls = leaves_of_data (type_of_declared s d) in
      let hs = held_by_declared s d in
      let these = source_leaves_of p.named.name (source_port_role s p.direction) ls hs in
      subst (AreInStep (LeafInStep c) (leaves_from d place (λ k l. port_role p.direction l) 0 ls hs ++ leaves_of_ports s next ps))
      (sym (placed_joined these (sources_of_ports s next ps)))
      (step_joined (LeafInStep c) (leaves_from d place (λ k l. port_role p.direction l) 0 ls hs) (leaves_of_ports s next ps) (placed [] these)
      (placed [] (sources_of_ports s next ps)) (port_in_step p.direction d place 0 ls hs) (all_ports_in_step ps next))

  pub ports_in_step : AreInStep (LeafInStep c) (flat_circuit.port_leaves (leafed_module s)) (placed [] (port_leaves s))
  ports_in_step =
      let ports = leaves_of_ports s at_head s.own.inside.ports in
      let others = leaves_in_block s (behind_all_ports s.own.inside) s.own.inside.body in
      rw (take-append_seam ports others) (all_ports_in_step s.own.inside.ports at_head)

  pub ports_long : length (leaves_of_ports s at_head s.own.inside.ports) ≡ length (port_leaves s)
  ports_long =
      step_long (LeafInStep c) (leaves_of_ports s at_head s.own.inside.ports) (placed [] (port_leaves s))
      (all_ports_in_step s.own.inside.ports at_head)
      ∙ length-map (port_leaves s) (λ l. record { at = []; leaf = l })
