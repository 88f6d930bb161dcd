-- What the leaves, arrays and memories of the code stand for, where the nodes of their module are known. Paths are left out: the code has none, as the
-- declaration of a leaf and its place among the leaves of that declaration tell its path.
use Rattle.std.specs.Prelude.{◌≡◌, ℕ, List, [], ◌∷◌, map, Bool, true, false, Option, Some, None, option_map}
use Rattle.fir_leaf.specs.declared.node.Node.{Node}
use Rattle.fir_meaning.specs.working.LeafModules as view
use Rattle.fir_meaning.specs.working.LeafModules.{LeafReset, MemoryDeclared, Need, Role, computed, pipe, reading, register, sink, source}
use Rattle.fir_meaning.specs.LeafTypes.{LeafType, a_clock, number}
use Rattle.fir_leaf.specs.working.NodeBlocks.{block_in}
use Rattle.fir_leaf.specs.working.Nodes.{node_term}
use Rattle.fir_leaf_circuit.specs.declared.array.LeafArray.{LeafArray}
use Rattle.fir_leaf_circuit.specs.declared.array.Writing.{Writing}
use Rattle.fir_leaf_circuit.specs.declared.leaf.Leaf.{Leaf}
use Rattle.fir_leaf_circuit.specs.declared.leaf.LeafRole.{LeafRole}
use Rattle.fir_leaf_circuit.specs.declared.leaf.LeafRole.TheVariants as role
use Rattle.fir_leaf_circuit.specs.declared.leaf.LeafType.{LeafType as TypeOfCode}
use Rattle.fir_leaf_circuit.specs.declared.leaf.LeafType.TheVariants.{Number, Clock}
use Rattle.fir_leaf_circuit.specs.declared.leaf.ReadingRole.{ReadingRole}
use Rattle.fir_leaf_circuit.specs.declared.leaf.ResetRole.{ResetRole}
use Rattle.fir_leaf_circuit.specs.declared.leaf_module.LeafModule.{LeafModule}
use Rattle.fir_leaf_circuit.specs.declared.leaf_module.MemoryClocks.{MemoryClocks}

abbrev pub type_seen : TypeOfCode → LeafType
type_seen (Number t) = number t
type_seen Clock = a_clock

abbrev pub high : ℕ → Need
high x = record { leaf = x; high = true }

-- where a port has a mode, it is 1 for writes and 0 for reads
abbrev pub mode_need : Bool → Option ℕ → List Need
mode_need writes None = []
mode_need writes (Some x) = record { leaf = x; high = writes } ∷ []

abbrev pub reading_seen : ReadingRole → view.Reading
reading_seen r = record { array = r.array; address = r.address; needs = high r.enable ∷ mode_need false r.mode }

abbrev pub reset_seen : List Node → ResetRole → LeafReset
reset_seen nodes r = record { is_async = r.is_async; condition = node_term nodes r.condition; init = node_term nodes r.init }

abbrev pub role_seen : List Node → LeafRole → Role
role_seen nodes role.Source = source
role_seen nodes role.Sink = sink
role_seen nodes (role.Computed id) = computed (node_term nodes id)
role_seen nodes (role.Register clock reset) = register (node_term nodes clock) (option_map (reset_seen nodes) reset)
role_seen nodes (role.Reading r) = reading (reading_seen r)
role_seen nodes (role.Pipe r clock under) = pipe (reading_seen r) clock under

abbrev pub leaf_seen : List Node → Leaf → view.LeafDeclared
leaf_seen nodes l = record {
  place = l.place;
  declaration = l.declaration;
  instances = 0;
  path = [];
  holds = type_seen l.holds;
  depth = l.depth;
  role = role_seen nodes l.role;
}

abbrev pub unnamed : view.LeafDeclared → view.LeafDeclared
unnamed l = record l { path = [] }

abbrev pub leaves_seen : List Node → List Leaf → List view.LeafDeclared
leaves_seen nodes ls = map (leaf_seen nodes) ls

abbrev pub writing_needs : Writing → List Need
writing_needs w = high w.enable ∷ needs_behind w.mode
  where
    needs_behind : Option ℕ → List Need
    needs_behind None = high w.mask ∷ []
    needs_behind (Some x) = high x ∷ high w.mask ∷ []

abbrev pub writing_seen : Writing → view.Writing
writing_seen w = record { address = w.address; needs = writing_needs w; clock = w.clock; given = w.given }

abbrev pub array_seen : LeafArray → view.LeafArray
array_seen a = record { declaration = a.declaration; path = []; holds = type_seen a.holds; words = a.words; writings = map writing_seen a.writings.items }

abbrev pub unnamed_array : view.LeafArray → view.LeafArray
unnamed_array a = record a { path = [] }

abbrev pub memory_seen : MemoryClocks → MemoryDeclared
memory_seen m = record { declaration = m.declaration; port_clocks = m.port_clocks.items }

-- the code's module is that of the definitions, but for the names and paths
pub record HasView (m : LeafModule) (meant : view.LeafModule) : Type 0 where
  pub port_leaves : m.port_leaves ≡ meant.port_leaves
  pub leaves : leaves_seen m.nodes.items m.leaves.items ≡ map unnamed meant.leaves
  pub arrays : map array_seen m.arrays.items ≡ map unnamed_array meant.arrays
  pub memories : map memory_seen m.memories.items ≡ meant.memories
  pub body : block_in m.nodes.items m.body.items ≡ meant.body
