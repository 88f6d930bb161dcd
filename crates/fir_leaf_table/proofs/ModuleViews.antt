-- The walk over the ports and statements of a module makes the leaves of its view.
use Rattle.std.proofs.Common.{◌≡◌, ℕ, List, [], ◌∷◌, ◌++◌, append-nil, map, length, refl, sym, ap, subst, ◌∙◌}
use Rattle.std.proofs.lemmas.List.{map-append}
use Rattle.fir_ast.specs.Circuits.{CircuitTree, ModuleTree, PortTree}
use Rattle.fir_ast.specs.Statements.{Block}
use Rattle.fir_meaning.specs.Components as component
use Rattle.fir_meaning.specs.Components.{Declarations}
use Rattle.fir_meaning.specs.Visibility.{Before, at_head, behind_block, behind_ports, declarations, with_declaration}
use Rattle.fir_names.proofs.BehindStatements.{adds_block}
use Rattle.fir_types.specs.working.Walked.{Begins}
use Rattle.fir_types.proofs.InstanceWalks.{length_of_map}
use Rattle.fir_leaf.specs.declared.node.Node.{Node}
use Rattle.fir_meaning.specs.ModuleScenes.{Scene, behind_all_ports}
use Rattle.fir_meaning.specs.working.LeafedModules.{arrays_in_block, leafed_module, leaves_in_block, leaves_of_ports, memories_in_block}
use Rattle.fir_ground.specs.working.DeclarationDrivers.{DriverMeant, drivers_in_block, drivers_seen}
use Rattle.fir_leaf_table.specs.declared.frame.Frame.{Frame}
use Rattle.fir_leaf_table.specs.declared.ground_body.GroundBody.{GroundBody}
use Rattle.fir_leaf_table.specs.declared.walk.Walk.{Walk}
use Rattle.fir_leaf_table.specs.working.Frames.{Frames}
use Rattle.fir_leaf_table.specs.working.ModuleWalks.{IsGroundOf}
use Rattle.fir_leaf_circuit.specs.working.Seen.{HasView, array_seen, leaf_seen, leaves_seen, memory_seen, unnamed, unnamed_array}
use Rattle.fir_leaf_table.specs.working.Walks.{ComesBehind, EntersAt}

ports_depth : (before : Before) (ps : List PortTree) → (behind_ports before ps).depth ≡ before.depth
ports_depth before [] = refl
ports_depth before (p ∷ ps) = ports_depth (with_declaration before p.named (component.port p.direction p.data_type)) ps

pub body_begins : (m : ModuleTree) → Begins (behind_block (behind_all_ports m) m.body).declared (declarations m)
body_begins m = ([], sym (append-nil (declarations m)))

-- nothing has come yet
pub record IsFresh (g : GroundBody) (walk : Walk) : Type 0 where
  pub declared : walk.declared ≡ 0
  pub drivers : walk.drivers.now ≡ g.drivers.items
  pub no_node : walk.no_node ≡ length g.nodes.items
  pub leaves : walk.leaves.items ≡ []
  pub arrays : walk.arrays.items ≡ []
  pub memories : walk.memories.items ≡ []

-- ports and a block that are the module's
module _ (frame : Frame) (c : CircuitTree) (s : Scene) (frames : Frames frame c s) (g : GroundBody) (made : IsGroundOf s g) (ps : List PortTree)
    (ports : ps ≡ s.own.inside.ports) (b : Block) (body : b ≡ s.own.inside.body) (old mid new : Walk) (fresh : IsFresh g old) where
  abbrev inside : ModuleTree
  inside = s.own.inside

  abbrev before : Before
  before = behind_all_ports inside

  abbrev nodes : List Node
  nodes = g.nodes.items

  -- the drivers of all that the statements declare
  abbrev pub rest : List DriverMeant
  rest = drivers_in_block c.modules before b ++ []

  pub ports_enter : EntersAt frame c s at_head nodes rest 0 old
  ports_enter = record {
    frames = frames;
    counts = record { declared = fresh.declared; leaves = ap length fresh.leaves; arrays = ap length fresh.arrays };
    deep = refl;
    no_node = fresh.no_node;
    drivers =
        ap (drivers_seen nodes) fresh.drivers ∙ made.drivers ∙ ap (λ ms. drivers_in_block ms before inside.body) frames.modules
        ∙ ap (drivers_in_block c.modules before) (sym body) ∙ sym (append-nil (drivers_in_block c.modules before b));
  }

  pub ports_begin : Begins (behind_ports at_head ps).declared (declarations inside)
  ports_begin = rw ports (let a = adds_block before inside.body in (a.added, a.declared))

  pub block_begins : Begins (behind_block before b).declared (declarations inside)
  block_begins = rw body (body_begins inside)

  module _ (of_ports : ComesBehind s (behind_ports at_head ps) nodes rest (leaves_of_ports s at_head ps) [] [] old mid) where
    come : ComesBehind s before nodes rest (leaves_of_ports s at_head inside.ports) [] [] old mid
    come = subst (λ l. ComesBehind s (behind_ports at_head l) nodes rest (leaves_of_ports s at_head l) [] [] old mid) ports of_ports

    pub block_enters : EntersAt frame c s before nodes rest 0 mid
    block_enters = record {
      frames = frames;
      counts = come.counts;
      deep = sym (ports_depth at_head inside.ports);
      no_node = come.no_node ∙ fresh.no_node;
      drivers = come.drivers;
    }

    port_leaves_are : leaves_seen nodes mid.leaves.items ≡ map unnamed (leaves_of_ports s at_head inside.ports)
    port_leaves_are = come.leaves ∙ ap (λ l. leaves_seen nodes l ++ map unnamed (leaves_of_ports s at_head inside.ports)) fresh.leaves

    pub viewed : (port_leaves : ℕ) → port_leaves ≡ length mid.leaves.items
        → ComesBehind s (behind_block before b) nodes [] (leaves_in_block s before b) (arrays_in_block s before b) (memories_in_block s before b)
        mid new
        → HasView
        (record { port_leaves = port_leaves; leaves = new.leaves; arrays = new.arrays; memories = new.memories; nodes = g.nodes; body = g.body })
        (leafed_module s)
    viewed port_leaves count h =
        let first = leaves_of_ports s at_head inside.ports in
        let of_block = leaves_in_block s before b in
        record {
          port_leaves =
              count ∙ sym (length_of_map (leaf_seen nodes) mid.leaves.items) ∙ ap length port_leaves_are ∙ length_of_map unnamed first;
          leaves =
              h.leaves ∙ ap (λ l. l ++ map unnamed of_block) port_leaves_are ∙ sym (map-append unnamed first of_block)
              ∙ ap (λ x. map unnamed (first ++ leaves_in_block s before x)) body;
          arrays =
              h.arrays
              ∙ ap (λ l. l ++ map unnamed_array (arrays_in_block s before b))
              (come.arrays ∙ append-nil (map array_seen old.arrays.items) ∙ ap (map array_seen) fresh.arrays)
              ∙ ap (λ x. map unnamed_array (arrays_in_block s before x)) body;
          memories =
              h.memories
              ∙ ap (λ l. l ++ memories_in_block s before b)
              (come.memories ∙ append-nil (map memory_seen old.memories.items) ∙ ap (map memory_seen) fresh.memories)
              ∙ ap (memories_in_block s before) body;
          body = made.body;
        }
