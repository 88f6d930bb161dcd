-- What becomes of the leaves and roles of a design in its flat net: reads are those of the kept nodes, behind which the choices of synchronous resets are put, and
-- what enables the ports of memories (FIRRTL spec, "Registers", "Memories"); what gives a clock leaf its clock is a leaf, or no clock.
use Rattle.std.specs.Prelude.{ℕ, suc, ◌+◌, List, [], ◌∷◌, ◌++◌, length, max, Bool, false, nat_lt, if◌then◌else◌, Option, Some, None}
use Rattle.fir_bits.specs.declared.types.NumTy.{NumTy}
use Rattle.fir_leaf_circuit.specs.declared.leaf.LeafType.{LeafType}
use Rattle.fir_leaf_circuit.specs.declared.leaf.LeafType.TheVariants.{Clock, Number}
use Rattle.fir_merge.specs.declared.bound.Bound.{Bound}
use Rattle.fir_flat.specs.working.FlatCircuits.{is_new}
use Rattle.fir_net.specs.declared.leaf.Leaf.{Leaf}
use Rattle.fir_net.specs.declared.leaf.Reset.{Reset}
use Rattle.fir_net.specs.declared.leaf.ResetKind.TheVariants.{Asynchronous}
use Rattle.fir_net.specs.declared.leaf.Role.{Role}
use Rattle.fir_net.specs.declared.leaf.Role.TheVariants as flat
use Rattle.fir_net.specs.declared.node.Node.{Node}
use Rattle.fir_net.specs.declared.node.Node.TheVariants as node
use Rattle.fir_net.specs.declared.reads.Read.{Read}
use Rattle.fir_net.specs.declared.reads.Read.TheVariants as read
use Rattle.fir_whens.specs.declared.net_role.NetReset.{NetReset}
use Rattle.fir_whens.specs.declared.net_role.NetRole.{NetRole}
use Rattle.fir_whens.specs.declared.net_role.NetRole.TheVariants as role
use Rattle.fir_flatten.specs.declared.design_net.DesignLeaf.{DesignLeaf}
use Rattle.fir_flatten.specs.working.ArrayPorts.{array_read, reading_nodes}
use Rattle.fir_flatten.specs.working.KeptNodes.{moved}

abbrev pub source_role : LeafType → Role
source_role (Number t) = flat.Input
source_role Clock = flat.Clock

-- a clock is one bit wide
abbrev pub width_of : LeafType → NumTy
width_of (Number t) = t
width_of Clock = record { signed = false; width = 1 }

-- the leaf of a clock
abbrev pub clock_of : Read → ℕ
clock_of (read.Leaf x) = x
clock_of (read.Node k) = 0

-- the clock leaf that is read; an invalid gives no clock
abbrev pub clock_named : Read → Option ℕ
clock_named (read.Leaf x) = Some x
clock_named (read.Node k) = None

-- by the places of nodes among the kept ones
module _ (places : List ℕ) where
  abbrev pub driven_role : Bool → LeafType → Read → Role
  driven_role is_port (Number t) r = if is_port then flat.Output (moved places r) else flat.Wire (moved places r)
  driven_role is_port Clock r = if is_port then flat.ClockOutput (clock_named r) else flat.ClockWire (clock_named r)

  abbrev pub async_reset : NetReset → Reset
  async_reset r = record { kind = Asynchronous; condition = moved places r.condition.read; init = moved places r.init.read }

  -- an asynchronous reset stays one
  abbrev pub reset_of : Option NetReset → Option Reset
  reset_of None = None
  reset_of (Some r) = if r.is_async then Some (async_reset r) else None

  abbrev pub choice_node : NetReset → Bound → Node
  choice_node r next = node.Mux (record {
    reads = moved places r.condition.read ∷ moved places r.init.read ∷ moved places next.read ∷ [];
    signed = r.init.ty.signed;
    width = max r.init.ty.width next.ty.width;
  })

  -- the choice of a synchronous reset
  abbrev pub choices_of_reset : Option NetReset → Bound → List Node
  choices_of_reset None next = []
  choices_of_reset (Some r) next = if r.is_async then [] else (choice_node r next ∷ [])

  -- the nodes that a role adds, where so many stand before them
  abbrev pub added_by : NetRole → ℕ → List Node
  added_by (role.Register clock reset next) count = choices_of_reset reset next
  added_by (role.Reading r) count = reading_nodes r count
  added_by (role.Pipe r clock under) count = reading_nodes r count
  added_by _ count = []

  -- what a register takes that no reset holds, if a statement drives it
  abbrev pub driven_next : Bool → Bound → Option Read
  driven_next is_driven next = if is_driven then Some (moved places next.read) else None

  -- what a register takes, where so many nodes stand before its choice
  abbrev pub next_read : Bool → ℕ → Option NetReset → Bound → Option Read
  next_read is_driven count None next = driven_next is_driven next
  next_read is_driven count (Some r) next = if r.is_async then driven_next is_driven next else Some (read.Node count)

  abbrev pub flat_role_of : Bool → Bool → LeafType → NetRole → ℕ → Role
  flat_role_of is_port is_driven holds role.Source count = source_role holds
  flat_role_of is_port is_driven holds (role.Driven b) count = driven_role is_port holds b.read
  flat_role_of is_port is_driven holds (role.Computed b) count = driven_role is_port holds b.read
  flat_role_of is_port is_driven holds (role.Register clock reset next) count =
      flat.Register (record { clock = clock_of clock.read; reset = reset_of reset; next = next_read is_driven count reset next })
  flat_role_of is_port is_driven holds (role.Reading r) count = flat.Reading (array_read r count)
  flat_role_of is_port is_driven holds (role.Pipe r clock under) count =
      flat.Pipe (record { clock = clock; read = array_read r count; is_new = is_new under })

  abbrev pub flat_leaf_of : DesignLeaf → Bool → NetRole → ℕ → Leaf
  flat_leaf_of l is_port r count = record {
    path = l.path;
    place = l.place;
    signed = (width_of l.holds).signed;
    width = (width_of l.holds).width;
    role = flat_role_of is_port l.is_driven l.holds r count;
  }

  -- one by one, from the one of a number on, where the leaves below another number are those of ports
  abbrev pub flat_leaves_of : ℕ → ℕ → List DesignLeaf → List NetRole → ℕ → List Leaf
  flat_leaves_of ports x (l ∷ ls) (r ∷ rs) count =
      flat_leaf_of l (nat_lt x ports) r count ∷ flat_leaves_of ports (suc x) ls rs (count + length (added_by r count))
  flat_leaves_of ports x _ _ count = []

  abbrev pub added_behind : List DesignLeaf → List NetRole → ℕ → List Node
  added_behind (l ∷ ls) (r ∷ rs) count = added_by r count ++ added_behind ls rs (count + length (added_by r count))
  added_behind _ _ count = []
