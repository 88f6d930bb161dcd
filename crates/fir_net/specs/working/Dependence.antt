-- On which leaves and nodes the value of a leaf or a node hangs within one tick.
-- A node hangs on what it reads; a driven leaf on what drives it; a register with an asynchronous reset on the reset's condition and init; what is read of an
-- array on the address and on what enables it. An input, a pipe and every other register hang on nothing.
use Rattle.std.specs.Prelude.{◌≡◌, ℕ, ◌<◌, List, [], ◌∷◌, length, slice_get, Option, Some, None}
use Rattle.fir_net.specs.declared.reads.Read.{Read}
use Rattle.fir_net.specs.declared.reads.Read.TheVariants as read
use Rattle.fir_net.specs.declared.leaf.ResetKind.{ResetKind}
use Rattle.fir_net.specs.declared.leaf.ResetKind.TheVariants.{Synchronous, Asynchronous}
use Rattle.fir_net.specs.declared.leaf.Reset.{Reset}
use Rattle.fir_net.specs.declared.leaf.Role.{Role}
use Rattle.fir_net.specs.declared.leaf.Role.TheVariants as role
use Rattle.fir_net.specs.declared.leaf.Leaf.{Leaf}
use Rattle.fir_net.specs.declared.node.Node.{Node}
use Rattle.fir_net.specs.declared.node.Node.TheVariants as node
use Rattle.fir_net.specs.declared.net.FlatNet.{FlatNet}

-- what a node reads
abbrev pub support_of : Node → List Read
support_of (node.Literal v) = []
support_of (node.Operation o) = o.reads
support_of (node.Mux m) = m.reads

abbrev pub kind_reads : ResetKind → Read → Read → List Read
kind_reads Synchronous condition init = []
kind_reads Asynchronous condition init = condition ∷ init ∷ []

abbrev pub reset_reads : Option Reset → List Read
reset_reads None = []
reset_reads (Some r) = kind_reads r.kind r.condition r.init

abbrev pub clock_reads : Option ℕ → List Read
clock_reads None = []
clock_reads (Some k) = read.Leaf k ∷ []

abbrev pub role_reads : Role → List Read
role_reads role.Input = []
role_reads role.Clock = []
role_reads (role.Output r) = r ∷ []
role_reads (role.Wire r) = r ∷ []
role_reads (role.Register r) = reset_reads r.reset
role_reads (role.Reading r) = r.address ∷ r.enable ∷ []
role_reads (role.Pipe p) = []
role_reads (role.ClockOutput c) = clock_reads c
role_reads (role.ClockWire c) = clock_reads c

abbrev pub leaf_reads : Option Leaf → List Read
leaf_reads None = []
leaf_reads (Some l) = role_reads l.role

abbrev pub node_reads : Option Node → List Read
node_reads None = []
node_reads (Some n) = support_of n

-- what a leaf or a node hangs on at once
abbrev pub reads_of : FlatNet → Read → List Read
reads_of net (read.Leaf k) = leaf_reads (slice_get net.leaves k)
reads_of net (read.Node k) = node_reads (slice_get net.nodes k)

-- a leaf or a node of the net
abbrev pub IsOf : FlatNet → Read → Type 0
IsOf net (read.Leaf k) = k < length net.leaves
IsOf net (read.Node k) = k < length net.nodes

-- v hangs on w at once
pub record Reads (net : FlatNet) (v w : Read) : Type 0 where
  pub place : ℕ
  pub is : slice_get (reads_of net v) place ≡ Some w
