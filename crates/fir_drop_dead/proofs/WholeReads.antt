-- What leaves, nodes and writes of a whole net read is of that net.
use Rattle.std.proofs.Common.{◌≡◌, ℕ, List, [], ◌∷◌, Some, None, Bool, refl}
use Rattle.std.specs.Prelude.{slice_get, Option}
use Rattle.std.specs.List.{AllByRecursion}
use Rattle.std.proofs.lemmas.Option.{slice_get_within}
use Rattle.fir_base.specs.Lists.{In}
use Rattle.fir_base.proofs.Each.{all_at, all_joined}
use Rattle.fir_base.proofs.Elements.{all_there}
use Rattle.fir_net.specs.declared.array.Array.{Array}
use Rattle.fir_net.specs.declared.array.ArrayWrite.{ArrayWrite}
use Rattle.fir_net.specs.declared.leaf.Leaf.{Leaf}
use Rattle.fir_net.specs.declared.leaf.Reset.{Reset}
use Rattle.fir_net.specs.declared.leaf.Role.{Role}
use Rattle.fir_net.specs.declared.leaf.Role.TheVariants as role
use Rattle.fir_net.specs.declared.net.FlatNet.{FlatNet}
use Rattle.fir_net.specs.declared.node.Node.{Node}
use Rattle.fir_net.specs.declared.node.Node.TheVariants as node
use Rattle.fir_net.specs.declared.reads.Read.{Read}
use Rattle.fir_net.specs.declared.reads.Read.TheVariants as read
use Rattle.fir_net.specs.working.Dependence.{IsOf, clock_reads, node_reads, support_of}
use Rattle.fir_net.specs.working.IsNet.{CanBeClock, CanBeDriven, CanBeReset, CanRead, IsArray, IsArrayWrite, IsClock, IsLeaf, IsNet, IsNode, IsRole}
use Rattle.fir_net.proofs.WholeNodes.{all_nodes}
use Rattle.fir_drop_dead.specs.working.IsLive.{optional_read, whole_leaf_reads, whole_reads, whole_reset_reads, whole_role_reads, write_reads}

module _ (net : FlatNet) where
  abbrev AreOf : List Read → Type 0
  AreOf = AllByRecursion (IsOf net)

  of_can : (r : Read) → CanRead net.leaves net.nodes r → IsOf net r
  of_can (read.Leaf k) can = slice_get_within net.leaves k can.0 can.1
  of_can (read.Node k) can = can

  of_clock : (k : ℕ) → IsClock net.leaves k → IsOf net (read.Leaf k)
  of_clock k is = slice_get_within net.leaves k is.0 is.1

  of_clocks : (c : Option ℕ) → CanBeClock net.leaves c → AreOf (clock_reads c)
  of_clocks None can = tt
  of_clocks (Some k) can = (of_clock k can, tt)

  of_reset : (signed : Bool) (r : Option Reset) → CanBeReset net.leaves net.nodes signed r → AreOf (whole_reset_reads r)
  of_reset signed None can = tt
  of_reset signed (Some r) can = (of_can r.condition can.condition, (of_can r.init can.init.can, tt))

  of_next : (signed : Bool) (r : Option Read) → CanBeDriven net.leaves net.nodes signed r → AreOf (optional_read r)
  of_next signed None can = tt
  of_next signed (Some r) can = (of_can r can.can, tt)

  of_role : (signed : Bool) (width : ℕ) (r : Role) → IsRole net.leaves net.nodes signed width r → AreOf (whole_role_reads r)
  of_role signed width role.Input is = tt
  of_role signed width role.Clock is = tt
  of_role signed width (role.Output r) is = (of_can r is.can, tt)
  of_role signed width (role.Wire r) is = (of_can r is.can, tt)
  of_role signed width (role.Register r) is =
      all_joined (IsOf net) (read.Leaf r.clock ∷ whole_reset_reads r.reset) (optional_read r.next) (of_clock r.clock is.0, of_reset signed r.reset is.1)
      (of_next signed r.next is.2)
  of_role signed width (role.Reading r) is = (of_can r.address is.address, (of_can r.enable is.enable, tt))
  of_role signed width (role.Pipe p) is = (of_clock p.clock is.0, (of_can p.read.address is.1.address, (of_can p.read.enable is.1.enable, tt)))
  of_role signed width (role.ClockOutput c) is = of_clocks c is.1
  of_role signed width (role.ClockWire c) is = of_clocks c is.1

  of_reads : (rs : List Read) → AllByRecursion (CanRead net.leaves net.nodes) rs → AreOf rs
  of_reads [] can = tt
  of_reads (r ∷ rs) can = (of_can r can.0, of_reads rs can.1)

  of_node : (n : Node) → IsNode net.leaves net.nodes n → AreOf (support_of n)
  of_node (node.Literal v) is = tt
  of_node (node.Operation o) is = of_reads o.reads is.reads
  of_node (node.Mux m) is = of_reads m.reads is.reads

  module _ (whole : IsNet net) where
    of_leaf : (k : ℕ) (o : Option Leaf) → slice_get net.leaves k ≡ o → AreOf (whole_leaf_reads o)
    of_leaf k None e = tt
    of_leaf k (Some l) e = of_role l.signed l.width l.role (all_there (IsLeaf net.leaves net.nodes) net.leaves whole.leaves k l e).driven

    of_nodes : (k : ℕ) (o : Option Node) → slice_get net.nodes k ≡ o → AreOf (node_reads o)
    of_nodes k None e = tt
    of_nodes k (Some n) e = of_node n (all_there (IsNode net.leaves net.nodes) net.nodes (all_nodes net.leaves net.nodes whole.nodes) k n e)

    of_all : (v : Read) → AreOf (whole_reads net v)
    of_all (read.Leaf k) = of_leaf k (slice_get net.leaves k) refl
    of_all (read.Node k) = of_nodes k (slice_get net.nodes k) refl

    pub whole_reads_of : (v r : Read) → In (whole_reads net v) r → IsOf net r
    whole_reads_of v r n = all_at (IsOf net) (whole_reads net v) (of_all v) r n

    pub write_reads_of : (a : Array) (w : ArrayWrite) (r : Read) → In net.arrays a → In a.writes w → In (write_reads w) r → IsOf net r
    write_reads_of a w r at among n =
        let is = all_at (IsArrayWrite net.leaves net.nodes a.signed a.width) a.writes (all_at (IsArray net.leaves net.nodes) net.arrays whole.arrays a at).writes w among in
        all_at (IsOf net) (write_reads w)
        (of_clock w.clock is.clock, (of_can w.condition is.addressed.enable, (of_can w.address is.addressed.address, (of_can w.given is.given, tt)))) r n
