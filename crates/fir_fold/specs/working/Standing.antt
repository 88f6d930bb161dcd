-- What is read in the place of the leaves and nodes of a net, and what reads them written anew.
use Rattle.std.specs.Prelude.{List, map, slice_get, option_map, unwrap_or}
use Rattle.fir_net.specs.declared.array.Array.{Array}
use Rattle.fir_net.specs.declared.array.ArrayRead.{ArrayRead}
use Rattle.fir_net.specs.declared.array.ArrayWrite.{ArrayWrite}
use Rattle.fir_net.specs.declared.leaf.Leaf.{Leaf}
use Rattle.fir_net.specs.declared.leaf.Reset.{Reset}
use Rattle.fir_net.specs.declared.leaf.Role.{Role}
use Rattle.fir_net.specs.declared.leaf.Role.TheVariants as role
use Rattle.fir_net.specs.declared.node.Node.{Node}
use Rattle.fir_net.specs.declared.node.Node.TheVariants as node
use Rattle.fir_net.specs.declared.reads.Read.{Read}
use Rattle.fir_net.specs.declared.reads.Read.TheVariants as read

-- by the numbers of leaves and nodes
pub record Standing : Type 0 where
  pub leaves : List Read
  pub nodes : List Read

abbrev pub stands_for : Standing → Read → Read
stands_for s (read.Leaf k) = unwrap_or (slice_get s.leaves k) (read.Leaf k)
stands_for s (read.Node k) = unwrap_or (slice_get s.nodes k) (read.Node k)

-- with reads written anew
module _ (f : Read → Read) where
  abbrev pub node_read : Node → Node
  node_read (node.Literal v) = node.Literal v
  node_read (node.Operation o) = node.Operation (record o { reads = map f o.reads })
  node_read (node.Mux m) = node.Mux (record m { reads = map f m.reads })

  abbrev pub array_read : ArrayRead → ArrayRead
  array_read r = record { array = r.array; address = f r.address; enable = f r.enable }

  abbrev pub reset_read : Reset → Reset
  reset_read r = record { kind = r.kind; condition = f r.condition; init = f r.init }

  abbrev pub role_read : Role → Role
  role_read role.Input = role.Input
  role_read role.Clock = role.Clock
  role_read (role.Output r) = role.Output (f r)
  role_read (role.Wire r) = role.Wire (f r)
  role_read (role.Register r) = role.Register (record { clock = r.clock; reset = option_map reset_read r.reset; next = option_map f r.next })
  role_read (role.Reading r) = role.Reading (array_read r)
  role_read (role.Pipe p) = role.Pipe (record { clock = p.clock; read = array_read p.read; is_new = p.is_new })
  role_read (role.ClockOutput c) = role.ClockOutput c
  role_read (role.ClockWire c) = role.ClockWire c

  abbrev pub leaf_read : Leaf → Leaf
  leaf_read l = record { path = l.path; place = l.place; signed = l.signed; width = l.width; role = role_read l.role }

  abbrev pub write_read : ArrayWrite → ArrayWrite
  write_read w = record { clock = w.clock; condition = f w.condition; address = f w.address; given = f w.given }

  abbrev pub written_array : Array → Array
  written_array a = record { path = a.path; signed = a.signed; width = a.width; words = a.words; writes = map write_read a.writes }
