-- The walk over the ports of a module, one behind the other.
use Rattle.std.proofs.Common.{◌≡◌, List, [], ◌∷◌, ◌++◌, append-nil, map, refl, sym, ap, ◌∙◌, subst, append_assoc}
use Rattle.fir_ast.specs.Circuits.{CircuitTree, PortTree}
use Rattle.fir_meaning.specs.Components as component
use Rattle.fir_meaning.specs.Components.{Declaration, Declarations}
use Rattle.fir_meaning.specs.Visibility.{Before, behind_ports, declaration_at, with_declaration}
use Rattle.fir_types.specs.working.Walked.{Begins}
use Rattle.fir_types.proofs.KnownScopes.{begins_before}
use Rattle.fir_ground.specs.working.DeclarationDrivers.{DriverMeant}
use Rattle.fir_leaf.specs.declared.node.Node.{Node}
use Rattle.fir_meaning.specs.ModuleScenes.{Scene}
use Rattle.fir_meaning.specs.working.LeafedModules.{leaves_of_ports, own_leaves, port_role}
use Rattle.fir_meaning.specs.working.LeafModules.{LeafDeclared}
use Rattle.fir_leaf_table.specs.declared.frame.Frame.{Frame}
use Rattle.fir_leaf_table.specs.declared.walk.Walk.{Walk}
use Rattle.fir_leaf_circuit.specs.working.Seen.{leaves_seen, unnamed}
use Rattle.fir_leaf_table.specs.working.Walks.{ComesBehind, EntersAt}
use Rattle.fir_leaf_table.proofs.BlockWalks.{comes_none, comes_then, counts_as, enters_behind}

-- behind one port
abbrev pub behind_port : Before → PortTree → Before
behind_port before p = with_declaration before p.named (component.port p.direction p.data_type)

-- ports declare behind what was declared before
adds_ports : (ps : List PortTree) (before : Before) → (more : Declarations) × ((behind_ports before ps).declared ≡ before.declared ++ more)
adds_ports [] before = ([], sym (append-nil before.declared))
adds_ports (p ∷ ps) before =
    let d : Declaration = declaration_at before p.named (component.port p.direction p.data_type) in
    let r = adds_ports ps (behind_port before p) in
    (d ∷ r.0, r.1 ∙ append_assoc before.declared (d ∷ []) r.0)

-- how far a walk has come
pub record AtPorts (s : Scene) (before : Before) (nodes : List Node) (rest : List DriverMeant) (ports left : List PortTree) (old walk : Walk) : Type 0 where
  pub now : Before
  pub leaves : List LeafDeclared
  pub comes : ComesBehind s now nodes rest leaves [] [] old walk
  pub all : leaves_of_ports s before ports ≡ leaves ++ leaves_of_ports s now left
  pub reached : behind_ports now left ≡ behind_ports before ports
  pub deep : 0 ≡ now.depth

module _ (frame : Frame) (c : CircuitTree) (s : Scene) (before : Before) (nodes : List Node) (rest : List DriverMeant) (ports : List PortTree) (old : Walk)
    (enters : EntersAt frame c s before nodes rest 0 old) where
  pub ports_begun : AtPorts s before nodes rest ports ports old old
  ports_begun = record {
    now = before;
    leaves = [];
    comes = comes_none s before nodes rest old enters.counts enters.drivers;
    all = refl;
    reached = refl;
    deep = enters.deep;
  }

  pub ports_passed : (walk : Walk) → AtPorts s before nodes rest ports [] old walk
      → ComesBehind s (behind_ports before ports) nodes rest (leaves_of_ports s before ports) [] [] old walk
  ports_passed walk a = record {
    counts = counts_as s a.now (behind_ports before ports) walk (ap (λ (b : Before). b.declared) a.reached) a.comes.counts;
    no_node = a.comes.no_node;
    drivers = a.comes.drivers;
    leaves = a.comes.leaves ∙ ap (λ ls. leaves_seen nodes old.leaves.items ++ map unnamed ls) (sym (a.all ∙ append-nil a.leaves));
    arrays = a.comes.arrays;
    memories = a.comes.memories;
  }

  module _ (walk : Walk) (p : PortTree) (left : List PortTree) (a : AtPorts s before nodes rest ports (p ∷ left) old walk) where
    pub port_enters : EntersAt frame c s a.now nodes rest 0 walk
    port_enters = enters_behind frame c s before a.now a.now nodes rest rest rest 0 0 a.leaves [] [] old walk enters a.comes refl a.deep refl

    pub port_begins : (whole : Declarations) → Begins (behind_ports before ports).declared whole → Begins (behind_ports a.now (p ∷ [])).declared whole
    port_begins whole b =
        let more = adds_ports left (behind_port a.now p) in
        let all : Begins (behind_ports (behind_port a.now p) left).declared whole = subst (λ (y : Before). Begins y.declared whole) (sym a.reached) b in
        begins_before whole (behind_port a.now p).declared more.0 (subst (λ ds. Begins ds whole) more.1 all)

    pub port_next : (new : Walk) → ComesBehind s (behind_ports a.now (p ∷ [])) nodes rest (leaves_of_ports s a.now (p ∷ [])) [] [] walk new
        → AtPorts s before nodes rest ports left old new
    port_next new k =
        let own = leaves_of_ports s a.now (p ∷ []) in
        let first : List LeafDeclared =
        own_leaves s a.now p.named (component.port p.direction p.data_type) (λ k l. port_role p.direction l) in
        record {
          now = behind_port a.now p;
          leaves = a.leaves ++ own;
          comes = comes_then s a.now (behind_port a.now p) nodes rest rest a.leaves own [] [] [] [] old walk new a.comes k;
          all =
              a.all
              ∙ ap (λ ls. a.leaves ++ (ls ++ leaves_of_ports s (behind_port a.now p) left)) (sym (append-nil first))
              ∙ sym (append_assoc a.leaves own (leaves_of_ports s (behind_port a.now p) left));
          reached = a.reached;
          deep = a.deep;
        }
