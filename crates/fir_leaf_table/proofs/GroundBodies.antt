-- The walk over the statements of a module makes its statements over leaves, and what gives its declarations their values.
use Rattle.std.proofs.Common.{◌≡◌, ℕ, ◌+◌, ◌≤◌, List, [], ◌∷◌, ◌++◌, append-nil, length, Vec, Global, sym, ap, ◌∙◌, arith}
use Rattle.fir_base.proofs.Elements.{get_in}
use Rattle.fir_ast.specs.Circuits.{CircuitTree, ModuleTree, PortTree}
use Rattle.fir_ast.specs.Statements.{Block}
use Rattle.fir_meaning.specs.Components as component
use Rattle.fir_meaning.specs.ComponentTypes.{typed_scope}
use Rattle.fir_meaning.specs.working.WellTyped.{AreLegal, IsWellTyped}
use Rattle.fir_meaning.specs.Visibility.{Before, at_head, behind_block, behind_ports, declaration_at, declarations, with_declaration}
use Rattle.fir_types.specs.working.Walked.{Begins}
use Rattle.fir_meaning.specs.CostGroup.{cost_limit}
use Rattle.fir_meaning.specs.Costs.{cost_of_block}
use Rattle.fir_types.specs.working.ModuleNotes.{block_notes}
use Rattle.std.proofs.lemmas.List.{length_push}
use Rattle.fir_width.proofs.FoundModules.{FoundOf, found_of}
use Rattle.fir_leaf.specs.declared.statement.LeafStmt.{LeafStmt}
use Rattle.fir_meaning.specs.working.LeafedBlocks.{leafed_all}
use Rattle.fir_meaning.specs.ModuleScenes.{Scene, behind_all_ports}
use Rattle.fir_meaning.specs.working.LeafedModules.{driven_leaves}
use Rattle.fir_ground.specs.declared.frame.Frame.{Frame as GroundFrame}
use Rattle.fir_ground.specs.declared.walk.Walk.{Walk as GroundWalk}
use Rattle.fir_ground.specs.working.DeclarationDrivers.{drivers_in_block, drivers_seen}
use Rattle.fir_leaf_pairs.specs.working.Drives.{sinks_in}
use Rattle.fir_ground.specs.working.Statements.{ComesBehind, EntersAt, firsts_from}
use Rattle.fir_leaf_pairs.proofs.Emitting.{emitted_whole}
use Rattle.fir_leaf_pairs.proofs.Entries.{grows_none}
use Rattle.fir_leaf_table.specs.declared.frame.Frame.{Frame}
use Rattle.fir_leaf_table.specs.working.DrivenLeaves.{driven_in}
use Rattle.fir_leaf_table.specs.working.Frames.{Frames}
use Rattle.fir_leaf_table.specs.working.ModuleWalks.{IsGroundOf, IsWithinLimit}
use Rattle.fir_leaf_table.proofs.ModuleViews.{body_begins}
use Rattle.fir_leaf_table.proofs.SameBodies.{body_is_same}

-- the ports of a module are declared in front
ports_long : (before : Before) (ps : List PortTree) → length (behind_ports before ps).declared ≡ length before.declared + length ps
ports_long before [] = omega arith
ports_long before (p ∷ ps) =
    let after = with_declaration before p.named (component.port p.direction p.data_type) in
    let d = declaration_at before p.named (component.port p.direction p.data_type) in
    omega (arith, ports_long after ps, length_push before.declared d)

module _ (frame : Frame) (c : CircuitTree) (s : Scene) (frames : Frames frame c s) where
  abbrev inside : ModuleTree
  inside = s.own.inside

  abbrev before : Before
  before = behind_all_ports inside

  abbrev pub found : FoundOf c frame.findings.now frame.number inside
  found = found_of c frame.findings.now frames.typed frame.number inside frames.is_module

  -- a block that is the module's
  module _ (b : Block) (body : b ≡ s.own.inside.body) where
    pub ground_enters : (around : GroundFrame) (walk : GroundWalk) (count : ℕ) → IsWithinLimit c.modules inside
        → around.ground.table.now ≡ frame.findings.now.table
        → around.ground.firsts.now ≡ firsts_from 0 (typed_scope c.modules (declarations inside)) → around.names.now ≡ frame.names.now
        → walk.notes.now ≡ found.notes.items → count ≡ length inside.ports
        → EntersAt around c.modules (declarations inside) before (block_notes c.modules before b ++ []) count walk
    ground_enters around walk count within table firsts names notes counted = record {
      frames = record { firsts = firsts; small = within.leaves; names = rw names frames.names };
      ahead = rw (table, notes, append-nil (block_notes c.modules before b), body) found.noted;
      counted = omega (arith, counted, ports_long at_head inside.ports);
    }

    pub ground_begins : Begins (behind_block before b).declared (declarations inside)
    ground_begins = rw body (body_begins inside)

    pub ground_legal : IsWellTyped c → AreLegal c.modules before b
    ground_legal well = rw body (well inside (get_in c.modules frame.number inside frames.is_module))

    pub ground_cost : (within : IsWithinLimit c.modules inside) → cost_of_block c.modules within.costs before b ≤ cost_limit
    ground_cost within = rw body within.statements

    pub ground_made : (around : GroundFrame) (old new : GroundWalk) (count : ℕ) (front : List LeafStmt) (out : Vec LeafStmt Global)
        → around.sinks.now ≡ driven_in (typed_scope c.modules (declarations inside)) → old.drivers.items ≡ [] → front ≡ []
        → ComesBehind around (behind_block before b) [] (leafed_all c.modules (sinks_in around.sinks.now) before b)
        (drivers_in_block c.modules before b) old new count front out.items
        → IsGroundOf s (record { nodes = new.nodes; drivers = new.drivers; body = out })
    ground_made around old new count front out sinks none empty h =
        let nodes = new.nodes.items in
        record {
          body =
              emitted_whole nodes nodes front out.items (leafed_all c.modules (sinks_in around.sinks.now) before b) empty (grows_none nodes) h.emitted
              ∙ ap (leafed_all c.modules (sinks_in around.sinks.now) before) body
              ∙ ap (λ l. leafed_all c.modules (sinks_in l) before inside.body) sinks ∙ body_is_same frame c s before inside.body frames
              ∙ ap (λ ms. leafed_all ms (driven_leaves s) before inside.body) (sym frames.modules);
          drivers =
              ap (drivers_seen nodes) (h.driven.is ∙ ap (λ l. l ++ h.driven.added) none) ∙ h.driven.seen nodes (grows_none nodes)
              ∙ ap (drivers_in_block c.modules before) body ∙ ap (λ ms. drivers_in_block ms before inside.body) (sym frames.modules);
        }
