-- What is kept of a net: what is marked, in its order, with new numbers in all that is read.
use Rattle.std.specs.Prelude.{ℕ, List, map, option_map}
use Rattle.fir_net.specs.declared.array.Array.{Array}
use Rattle.fir_net.specs.declared.array.ArrayRead.{ArrayRead}
use Rattle.fir_net.specs.declared.array.ArrayWrite.{ArrayWrite}
use Rattle.fir_net.specs.declared.array.Pipe.{Pipe}
use Rattle.fir_net.specs.declared.leaf.Leaf.{Leaf}
use Rattle.fir_net.specs.declared.leaf.Register.{Register}
use Rattle.fir_net.specs.declared.leaf.Reset.{Reset}
use Rattle.fir_net.specs.declared.leaf.Role.{Role}
use Rattle.fir_net.specs.declared.leaf.Role.TheVariants as role
use Rattle.fir_net.specs.declared.net.FlatNet.{FlatNet}
use Rattle.fir_net.specs.declared.node.Node.{Node}
use Rattle.fir_net.specs.declared.node.Node.TheVariants as node
use Rattle.fir_net.specs.declared.reads.Read.{Read}
use Rattle.fir_net.specs.declared.reads.Read.TheVariants as read
use Rattle.fir_drop_dead.specs.working.Marks.{Marked, has}
use Rattle.fir_drop_dead.specs.working.Numbers.{kept_of, place}

module _ (m : Marked) where
  abbrev pub moved_leaf_number : ℕ → ℕ
  moved_leaf_number k = place m.leaves k

  abbrev pub moved_read : Read → Read
  moved_read (read.Leaf k) = read.Leaf (place m.leaves k)
  moved_read (read.Node k) = read.Node (place m.nodes k)

  abbrev pub moved_node : Node → Node
  moved_node (node.Literal v) = node.Literal v
  moved_node (node.Operation o) = node.Operation (record o { reads = map moved_read o.reads })
  moved_node (node.Mux x) = node.Mux (record x { reads = map moved_read x.reads })

  abbrev pub moved_reset : Reset → Reset
  moved_reset r = record r { condition = moved_read r.condition; init = moved_read r.init }

  abbrev pub moved_register : Register → Register
  moved_register r = record { clock = place m.leaves r.clock; reset = option_map moved_reset r.reset; next = option_map moved_read r.next }

  abbrev pub moved_array_read : ArrayRead → ArrayRead
  moved_array_read r = record r { address = moved_read r.address; enable = moved_read r.enable }

  abbrev pub moved_pipe : Pipe → Pipe
  moved_pipe p = record p { clock = place m.leaves p.clock; read = moved_array_read p.read }

  abbrev pub moved_role : Role → Role
  moved_role role.Input = role.Input
  moved_role role.Clock = role.Clock
  moved_role (role.Output r) = role.Output (moved_read r)
  moved_role (role.Wire r) = role.Wire (moved_read r)
  moved_role (role.Register r) = role.Register (moved_register r)
  moved_role (role.Reading r) = role.Reading (moved_array_read r)
  moved_role (role.Pipe p) = role.Pipe (moved_pipe p)
  moved_role (role.ClockOutput c) = role.ClockOutput (option_map moved_leaf_number c)
  moved_role (role.ClockWire c) = role.ClockWire (option_map moved_leaf_number c)

  abbrev pub moved_leaf : Leaf → Leaf
  moved_leaf l = record l { role = moved_role l.role }

  abbrev pub moved_write : ArrayWrite → ArrayWrite
  moved_write w = record { clock = place m.leaves w.clock; condition = moved_read w.condition; address = moved_read w.address; given = moved_read w.given }

  abbrev pub moved_array : Array → Array
  moved_array a = record a { writes = map moved_write a.writes }

  abbrev pub kept_net : FlatNet → FlatNet
  kept_net net = record net {
    leaves = map moved_leaf (kept_of m.leaves net.leaves);
    nodes = map moved_node (kept_of m.nodes net.nodes);
    state = map moved_leaf_number net.state;
    arrays = map moved_array net.arrays;
  }

  abbrev pub kept_order : List Read → List Read
  kept_order order = map moved_read (kept_of (map (has m) order) order)
