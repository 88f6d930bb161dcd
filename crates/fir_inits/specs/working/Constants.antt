-- The numbers of a net's constants.
-- A node and a driven leaf have what they make of the numbers of what they read; all else counts as 0.
use Rattle.std.specs.Prelude.{◌≡◌, ℕ, ◌<◌, List, slice_get, Option, Some, None}
use Rattle.fir_base.specs.Ticks.{Tick}
use Rattle.fir_net.specs.declared.leaf.Leaf.{Leaf}
use Rattle.fir_net.specs.declared.leaf.Role.{Role}
use Rattle.fir_net.specs.declared.leaf.Role.TheVariants as role
use Rattle.fir_net.specs.declared.net.FlatNet.{FlatNet}
use Rattle.fir_net.specs.declared.node.Node.{Node}
use Rattle.fir_net.specs.declared.reads.Read.{Read}
use Rattle.fir_net.specs.declared.reads.Read.TheVariants as read
use Rattle.fir_net.specs.working.IsNet.{CanRead}
use Rattle.fir_net.specs.working.IsOrder.{IsOrder}
use Rattle.fir_net.specs.working.IsWritable.{IsConstant}
use Rattle.fir_net.specs.working.Settled.{Settled, value_at}
use Rattle.fir_net.specs.working.Values.{at_width}
use Rattle.fir_work.specs.working.Held.{IsHeld}
use Rattle.fir_work.specs.working.NodeValues.{held_node}
use Rattle.fir_work.specs.working.Numbers.{value_in}
use Rattle.fir_inits.specs.working.AsyncInits.{async_init}

abbrev pub role_number : FlatNet → List ℕ → ℕ → Role → Option ℕ
role_number net ns width (role.Output r) = Some (at_width (value_in net ns r) width)
role_number net ns width (role.Wire r) = Some (at_width (value_in net ns r) width)
role_number net ns width _ = None

abbrev pub leaf_number : FlatNet → List ℕ → Option Leaf → Option ℕ
leaf_number net ns None = None
leaf_number net ns (Some l) = role_number net ns l.width l.role

abbrev pub node_number : FlatNet → List ℕ → Option Node → Option ℕ
node_number net ns None = None
node_number net ns (Some n) = Some (held_node (value_in net ns) n).value.number

-- what a node or a driven leaf makes of these numbers
abbrev pub number_of : FlatNet → List ℕ → Read → Option ℕ
number_of net ns (read.Leaf k) = leaf_number net ns (slice_get net.leaves k)
number_of net ns (read.Node k) = node_number net ns (slice_get net.nodes k)

-- among the first n of an order the constants have the values that they have in all settled choices
pub record AreConstants (net : FlatNet) (order : List Read) (n : ℕ) (ns : List ℕ) : Type 0 where
  pub each :
      (i : ℕ) (v : Read) → i < n → slice_get order i ≡ Some v → CanRead net.leaves net.nodes v → IsConstant net v → (state : List ℕ) (tick : Tick)
      (env : ℕ → ℕ) (clock : ℕ → Option ℕ) → Settled net state tick env clock → value_in net ns v ≡ value_at net env v

-- each has its width; and where these are an order of the net, the constants among the first n have their values
pub record AreNumbers (net : FlatNet) (order : List Read) (n : ℕ) (ns : List ℕ) : Type 0 where
  pub held : IsHeld net ns
  pub known : IsOrder net order → AreConstants net order n ns

abbrev pub fitted_init : FlatNet → List ℕ → ℕ → Option Read → ℕ
fitted_init net ns width None = 0
fitted_init net ns width (Some r) = at_width (value_in net ns r) width

-- the init of a leaf by these numbers, fitted to its width
abbrev pub init_number : FlatNet → List ℕ → Leaf → ℕ
init_number net ns l = fitted_init net ns l.width (async_init l.role)
