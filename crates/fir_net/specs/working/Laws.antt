-- Laws about the definitions.
use Rattle.std.specs.Prelude.{◌≡◌, ℕ, ◌^◌, ◌<◌, List, slice_get, Some, false}
use Rattle.fir_net.specs.declared.reads.Read.{Read}
use Rattle.fir_net.specs.declared.leaf.Leaf.{Leaf}
use Rattle.fir_net.specs.declared.node.Node.{Node}
use Rattle.fir_net.specs.declared.net.FlatNet.{FlatNet}
use Rattle.fir_net.specs.working.Values.{IsOfType, node_value, values}
use Rattle.fir_net.specs.working.Settled.{value_at, is_clock}
use Rattle.fir_net.specs.working.IsNet.{read_type, CanRead, IsNet}
use Rattle.fir_net.specs.working.IsOrder.{IsOrder}
use Rattle.fir_net.specs.working.One.{One}

-- in a whole net the value of each node is what it makes of the values of all leaves and nodes
abbrev pub NodesHaveTheirValues : Type 0
NodesHaveTheirValues =
    (net : FlatNet) (env : ℕ → ℕ) (k : ℕ) (n : Node) → IsNet net → slice_get net.nodes k ≡ Some n
    → slice_get (values net env) k ≡ Some (node_value net.leaves env (values net env) n)

-- each leaf that is no clock has a value of its width
pub record LeavesFit (leaves : List Leaf) (env : ℕ → ℕ) : Type 0 where
  pub each : (k : ℕ) (l : Leaf) → slice_get leaves k ≡ Some l → is_clock l.role ≡ false → env k < 2 ^ l.width

-- where the leaves of a whole net have values of their widths, what can be read has a value of its type
abbrev pub NodesHaveTheirTypes : Type 0
NodesHaveTheirTypes =
    (net : FlatNet) (env : ℕ → ℕ) (r : Read) → IsNet net → LeavesFit net.leaves env → CanRead net.leaves net.nodes r
    → IsOfType (read_type net.leaves net.nodes r) (value_at net env r)

-- a net whose leaves and nodes have an order has one choice of values
abbrev pub OrderedHasOne : Type 0
OrderedHasOne = (net : FlatNet) (order : List Read) → IsNet net → IsOrder net order → One net
