-- The nodes, the roles and the arrays of a module's net over the numbers of the whole design.
use Rattle.std.specs.Prelude.{ℕ, ◌+◌, ◌-◌, ◌^◌, List, map, min, option_map}
use Rattle.fir_meaning.specs.working.Numberings.{Numbering, number}
use Rattle.fir_elaborate.specs.declared.elaborated.ModuleCopy.{ModuleCopy}
use Rattle.fir_leaf_circuit.specs.declared.array.Writing.{Writing}
use Rattle.fir_leaf_circuit.specs.declared.leaf.ReadingRole.{ReadingRole}
use Rattle.fir_merge.specs.declared.bound.Bound.{Bound}
use Rattle.fir_net.specs.declared.node.Node.{Node}
use Rattle.fir_net.specs.declared.node.Node.TheVariants as node
use Rattle.fir_net.specs.declared.reads.Read.{Read}
use Rattle.fir_net.specs.declared.reads.Read.TheVariants as read
use Rattle.fir_whens.specs.declared.net_role.NetReset.{NetReset}
use Rattle.fir_whens.specs.declared.net_role.NetRole.{NetRole}
use Rattle.fir_whens.specs.declared.net_role.NetRole.TheVariants as role
use Rattle.fir_flatten.specs.declared.offsets.Offsets.{Offsets}

abbrev pub offsets_of : ModuleCopy → ℕ → ℕ → Offsets
offsets_of k ports nodes = record { ports = ports; first = k.first; own = k.own; nodes = nodes; arrays = k.array }

-- where the leaves stand
abbrev pub numbering_of : Offsets → Numbering
numbering_of at = record { ports = at.ports; first = at.first; own = at.own }

-- the code has no greater numbers
unfoldable pub saturated : ℕ → ℕ
saturated x = min x (2 ^ 64 - 1)

abbrev pub leaf_moved : Offsets → ℕ → ℕ
leaf_moved at x = saturated (number (numbering_of at) x)

abbrev pub array_moved : Offsets → ℕ → ℕ
array_moved at x = saturated (at.arrays + x)

abbrev pub read_moved : Offsets → Read → Read
read_moved at (read.Leaf x) = read.Leaf (leaf_moved at x)
read_moved at (read.Node k) = read.Node (saturated (at.nodes + k))

abbrev pub reads_moved : Offsets → List Read → List Read
reads_moved at rs = map (read_moved at) rs

abbrev pub node_moved : Offsets → Node → Node
node_moved at (node.Literal v) = node.Literal v
node_moved at (node.Operation o) = node.Operation (record o { reads = reads_moved at o.reads })
node_moved at (node.Mux m) = node.Mux (record m { reads = reads_moved at m.reads })

abbrev pub bound_moved : Offsets → Bound → Bound
bound_moved at b = record { read = read_moved at b.read; ty = b.ty }

abbrev pub reset_moved : Offsets → NetReset → NetReset
reset_moved at r = record { is_async = r.is_async; condition = bound_moved at r.condition; init = bound_moved at r.init }

abbrev pub reading_moved : Offsets → ReadingRole → ReadingRole
reading_moved at r = record {
  array = array_moved at r.array;
  address = leaf_moved at r.address;
  enable = leaf_moved at r.enable;
  mode = option_map (leaf_moved at) r.mode;
}

abbrev pub writing_moved : Offsets → Writing → Writing
writing_moved at w = record {
  address = leaf_moved at w.address;
  enable = leaf_moved at w.enable;
  mode = option_map (leaf_moved at) w.mode;
  mask = leaf_moved at w.mask;
  clock = leaf_moved at w.clock;
  given = leaf_moved at w.given;
}

abbrev pub role_moved : Offsets → NetRole → NetRole
role_moved at role.Source = role.Source
role_moved at (role.Driven b) = role.Driven (bound_moved at b)
role_moved at (role.Computed b) = role.Computed (bound_moved at b)
role_moved at (role.Register clock reset next) =
    role.Register (bound_moved at clock) (option_map (reset_moved at) reset) (bound_moved at next)
role_moved at (role.Reading r) = role.Reading (reading_moved at r)
role_moved at (role.Pipe r clock under) = role.Pipe (reading_moved at r) (leaf_moved at clock) under
