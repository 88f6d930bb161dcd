-- A net's nodes and leaves as the vertices of a graph.
-- The nodes come first, in the order of their numbers, and then the leaves.
use Rattle.std.specs.Prelude.{ℕ, ◌+◌, ◌-◌, nat_lt, if◌then◌else◌, List, length, map}
use Rattle.fir_net.specs.declared.reads.Read.{Read}
use Rattle.fir_net.specs.declared.reads.Read.TheVariants as read
use Rattle.fir_net.specs.declared.net.FlatNet.{FlatNet}
use Rattle.fir_net.specs.working.Dependence.{reads_of}

abbrev pub vertex_of : FlatNet → Read → ℕ
vertex_of net (read.Leaf k) = length net.nodes + k
vertex_of net (read.Node k) = k

abbrev pub read_of : FlatNet → ℕ → Read
read_of net v = if nat_lt v (length net.nodes) then read.Node v else read.Leaf (v - length net.nodes)

abbrev pub size_of : FlatNet → ℕ
size_of net = length net.nodes + length net.leaves

abbrev pub targets_of : FlatNet → ℕ → List ℕ
targets_of net v = map (vertex_of net) (reads_of net (read_of net v))
