-- The Verilog tree of a net, as a function of the net, its names, where its values are, and an order.
-- The registers come first and then the arrays, in the order of the state, then the wires of the inner nets and their assigns, those of nodes and of what is read
-- of arrays in the order, and those of resets and then of writes in the order of the state, the assigns of the outputs in port order, those of the clock outputs
-- in port order, and the blocks of registers and then of arrays in the order of the state.
use Rattle.std.specs.Prelude.{ℕ, ◌+◌, true, false, List, [], ◌∷◌, ◌++◌, map, flat_map, slice_get, slice_index, Option, Some, None, unwrap_or}
use Rattle.fir_base.specs.declared.direction.Direction.TheVariants as direction
use Rattle.fir_net.specs.declared.reads.Read.{Read}
use Rattle.fir_net.specs.declared.reads.Read.TheVariants as read
use Rattle.fir_net.specs.declared.leaf.Role.{Role}
use Rattle.fir_net.specs.declared.leaf.Role.TheVariants as role
use Rattle.fir_net.specs.declared.leaf.Leaf.{Leaf}
use Rattle.fir_net.specs.declared.node.Node.{Node}
use Rattle.fir_net.specs.declared.node.Node.TheVariants as node
use Rattle.fir_net.specs.declared.net.FlatNet.{FlatNet}
use Rattle.fir_net.specs.declared.array.ArrayRead.{ArrayRead}
use Rattle.fir_net.specs.working.Arrays.{words_of}
use Rattle.fir_net_names.specs.declared.name_table.NameTable.{NameTable}
use Rattle.ver_ast.specs.declared.tree.Verilog.{Verilog}
use Rattle.ver_ast.specs.declared.tree.Port.{Port}
use Rattle.ver_ast.specs.declared.tree.Net.{Net}
use Rattle.ver_ast.specs.declared.tree.Array.{Array as TreeArray}
use Rattle.ver_ast.specs.declared.tree.Assign.{Assign}
use Rattle.ver_ast.specs.Nets.{AlwaysBlock}
use Rattle.ver_ast.specs.declared.tree.Item.{Item}
use Rattle.ver_ast.specs.declared.tree.Item.TheVariants as item
use Rattle.ver_ast.specs.Atoms as tree
use Rattle.ver_ast.specs.declared.tree.Rhs.{Rhs}
use Rattle.ver_ast.specs.declared.tree.Rhs.TheVariants as rhs
use Rattle.ver_build.specs.declared.held.Source.{Source}
use Rattle.ver_build.specs.declared.held.Source.TheVariants as source
use Rattle.ver_build.specs.declared.places.NodePlace.{NodePlace}
use Rattle.ver_build.specs.declared.places.Places.{Places}
use Rattle.ver_build.specs.working.Operands.{atom_at}
use Rattle.ver_build.specs.declared.right_sides.Inner.{Inner}
use Rattle.ver_build.specs.working.Texts.{operation_inners, first_held, second_held, mux_rhs}
use Rattle.fir_net_names.specs.working.LeafNamed.{name_at}
use Rattle.ver_build.specs.working.Places.{held_of, node_at, driven_clock_in, read_width}
use Rattle.ver_build.specs.working.ArrayTexts.{reading_inners}
use Rattle.ver_build.specs.working.ArrayBlocks.{tree_arrays, write_inners, array_blocks}
use Rattle.ver_build.specs.working.Blocks.{leaf_net, leaf_block}
use Rattle.ver_build.specs.Arranged.{block_item}

-- the nets of an operation or a mux that has the place
abbrev pub node_inners : Places → Node → List (List ℕ) → List ℕ → List Inner
node_inners p (node.Literal v) helpers name = []
node_inners p (node.Operation o) helpers name =
    let hs = map (held_of p) o.reads in
    operation_inners o.op o.width (first_held hs) (second_held hs) (slice_index o.integers 0) (slice_index o.integers 1) helpers name
node_inners p (node.Mux m) helpers name =
    record { name = name; width = m.width; rhs = mux_rhs m.width (map (held_of p) m.reads) } ∷ []

abbrev pub placed_inners : Places → Node → List (List ℕ) → Source → List Inner
placed_inners p n helpers (source.Number k) = []
placed_inners p n helpers (source.Net part) = node_inners p n helpers part.name

abbrev pub inners_at : Places → Option Node → NodePlace → List Inner
inners_at p None at = []
inners_at p (Some n) at = placed_inners p n at.helpers at.held.source

-- the nets of what is read of an array
abbrev pub array_inners : FlatNet → NameTable → Places → ℕ → ArrayRead → List (List ℕ) → Source → List Inner
array_inners net t p width r helpers (source.Number k) = []
array_inners net t p width r helpers (source.Net part) =
    reading_inners (unwrap_or (name_at t.arrays r.array) []) (words_of net.arrays r.array) width (read_width net r.address) (held_of p r.address)
    (held_of p r.enable) helpers part.name

abbrev pub role_inners : FlatNet → NameTable → Places → ℕ → Role → NodePlace → List Inner
role_inners net t p width (role.Reading r) at = array_inners net t p width r at.helpers at.held.source
role_inners net t p width _ at = []

abbrev pub leaf_inners : FlatNet → NameTable → Places → Option Leaf → NodePlace → List Inner
leaf_inners net t p None at = []
leaf_inners net t p (Some l) at = role_inners net t p l.width l.role at

abbrev pub read_inners : FlatNet → NameTable → Places → Read → List Inner
read_inners net t p (read.Leaf k) = leaf_inners net t p (slice_get net.leaves k) (node_at p.readings k)
read_inners net t p (read.Node k) = inners_at p (slice_get net.nodes k) (node_at p.nodes k)

abbrev pub port_of : Role → ℕ → List ℕ → List Port
port_of role.Input width name = record { is_clock = false; direction = direction.Input; width = width; name = name } ∷ []
port_of role.Clock width name = record { is_clock = true; direction = direction.Input; width = 1; name = name } ∷ []
port_of (role.Output r) width name = record { is_clock = false; direction = direction.Output; width = width; name = name } ∷ []
port_of (role.ClockOutput c) width name = record { is_clock = true; direction = direction.Output; width = 1; name = name } ∷ []
port_of _ width name = []

abbrev pub leaf_port : Leaf → Option (List ℕ) → List Port
leaf_port l None = []
leaf_port l (Some name) = port_of l.role l.width name

abbrev pub role_reg : Role → ℕ → Option (List ℕ) → List Net
role_reg (role.Register r) width (Some name) = record { width = width; name = name } ∷ []
role_reg _ width _ = []

abbrev pub leaf_reg : Leaf → Option (List ℕ) → List Net
leaf_reg l name = role_reg l.role l.width name

abbrev pub inner_wire : Inner → Net
inner_wire i = record { width = i.width; name = i.name }

abbrev pub inner_assign : Inner → Assign
inner_assign i = record { target = i.name; rhs = i.rhs }

abbrev pub role_assign : Places → Role → ℕ → Option (List ℕ) → List Assign
role_assign p (role.Output r) width (Some name) = record { target = name; rhs = rhs.Atom (atom_at width (held_of p r)) } ∷ []
role_assign p _ width _ = []

abbrev pub leaf_assign : Places → Leaf → Option (List ℕ) → List Assign
leaf_assign p l name = role_assign p l.role l.width name

-- what a clock output shows: a clock input, or no clock
abbrev pub clock_rhs : NameTable → Option ℕ → Rhs
clock_rhs t None = rhs.Atom (tree.constant 1 0)
clock_rhs t (Some k) = rhs.Atom (tree.net (unwrap_or (name_at t.leaves k) []))

abbrev pub role_clock_assign : NameTable → Places → Role → Option (List ℕ) → List Assign
role_clock_assign t p (role.ClockOutput c) (Some name) = record { target = name; rhs = clock_rhs t (driven_clock_in p.leaves c) } ∷ []
role_clock_assign t p _ name = []

abbrev pub leaf_clock_assign : NameTable → Places → Leaf → Option (List ℕ) → List Assign
leaf_clock_assign t p l name = role_clock_assign t p l.role name

-- each leaf with its name, where they are numbered from k on
abbrev pub along : {A B : Type 0} → (A → Option (List ℕ) → List B) → List (Option (List ℕ)) → ℕ → List A → List B
along f names k [] = []
along f names k (x ∷ xs) = f x (name_at names k) ++ along f names (k + 1) xs

-- what is made of a leaf with its name, where there is a leaf
abbrev pub of_leaf : {B : Type 0} → (Leaf → Option (List ℕ) → List B) → Option Leaf → Option (List ℕ) → List B
of_leaf f None name = []
of_leaf f (Some l) name = f l name

-- of the leaf of that number
abbrev pub at_number : {B : Type 0} → (Leaf → Option (List ℕ) → List B) → List (Option (List ℕ)) → List Leaf → ℕ → List B
at_number f names leaves k = of_leaf f (slice_get leaves k) (name_at names k)

-- of the leaves of these numbers, in the order of the numbers
abbrev pub at_numbers : {B : Type 0} → (Leaf → Option (List ℕ) → List B) → List (Option (List ℕ)) → List Leaf → List ℕ → List B
at_numbers f names leaves ks = flat_map (at_number f names leaves) ks

-- the items of one kind that leaves give
abbrev pub given : {B : Type 0} → (B → Item) → (Leaf → Option (List ℕ) → List B) → Leaf → Option (List ℕ) → List Item
given c f l name = map c (f l name)

-- the inner nets of nodes and of what is read of arrays, in the order of the reads
abbrev pub order_inners : FlatNet → NameTable → Places → List Read → List Inner
order_inners net t p order = flat_map (read_inners net t p) order

-- those of resets, in the order of the state
abbrev pub reset_inners : FlatNet → Places → List Inner
reset_inners net p = at_numbers (leaf_net p) p.resets net.leaves net.state

-- those of resets, and then those of writes
abbrev pub late_inners : FlatNet → Places → List Inner
late_inners net p = reset_inners net p ++ write_inners net p

abbrev pub inners : FlatNet → NameTable → Places → List Read → List Inner
inners net t p order = order_inners net t p order ++ late_inners net p

-- the block of a word of the state
abbrev pub word_block : FlatNet → NameTable → Places → ℕ → List AlwaysBlock
word_block net t p k = at_number (leaf_block t p k) t.leaves net.leaves k

abbrev pub word_blocks : FlatNet → NameTable → Places → List AlwaysBlock
word_blocks net t p = flat_map (word_block net t p) net.state

-- registers, then arrays, then wires, then assigns, then those of clock outputs, then blocks
abbrev pub items : List Net → List TreeArray → List Net → List Assign → List Assign → List AlwaysBlock → List Item
items rs ks ws xs cs bs =
    map item.Reg rs ++ (map item.Array ks ++ (map item.Wire ws ++ (map item.Assign xs ++ (map item.Assign cs ++ map block_item bs))))

unfoldable pub built : FlatNet → NameTable → Places → List Read → Verilog
built net t p order =
    record {
      name = t.circuit;
      ports = along leaf_port t.leaves 0 net.leaves;
      items =
          items (at_numbers leaf_reg t.leaves net.leaves net.state) (tree_arrays net t) (map inner_wire (inners net t p order))
          (map inner_assign (inners net t p order) ++ along (leaf_assign p) t.leaves 0 net.leaves)
          (along (leaf_clock_assign t p) t.leaves 0 net.leaves)
          (word_blocks net t p ++ array_blocks net t p);
      places = [];
    }
