-- Nodes that are equal are one.
use Rattle.std.proofs.Common.{◌≡◌, ℕ, List, Bool, true, ◌&&◌, ◌==◌, nat_eq, ap}
use Rattle.std.specs.Bool.{beq, Decides}
use Rattle.std.specs.Cmp.{unsigned_Decides, booleans_Decides}
use Rattle.std.specs.Cmp.Lexicographic.{pointwise, pointwise_decides}
use denote.Enum.Bare.{same_true, true_same}
use Rattle.fir_base.proofs.Tests.{both}
use Rattle.fir_bits.specs.declared.operators.PrimOp.{PrimOp}
use Rattle.fir_bits.specs.declared.values.Num.{Num}
use Rattle.fir_bits.specs.contracts.operators.PrimOp.{the_type}
use Rattle.fir_bits.specs.contracts.operators.PrimOpPartialEq.TheImpl as prim_eq
use Rattle.fir_net.specs.declared.reads.Read.{Read}
use Rattle.fir_net.specs.declared.reads.Read.TheVariants as read
use Rattle.fir_net.specs.declared.node.Operation.{Operation}
use Rattle.fir_net.specs.declared.node.Mux.{Mux}
use Rattle.fir_net.specs.declared.node.Node.{Node}
use Rattle.fir_net.specs.declared.node.Node.TheVariants as node
use Rattle.fir_net.specs.contracts.reads.ReadPartialEq.TheImpl as read_eq
use Rattle.fir_net.specs.contracts.node.NodePartialEq.TheImpl as node_eq
use Rattle.fir_net.specs.contracts.node.NodeEq.TheImpl.Laws.{laws-law as node_laws}
use Rattle.fir_net.specs.working.EqualNodes.{equal_reads, equal_operations}

same_op : (a b : PrimOp) → Decides ((prim_eq.ghosts).eq a b) (a ≡ b)
same_op a b = (same_true the_type tt a b, true_same the_type a b)

same_read : (a b : Read) → Decides ((read_eq.ghosts).eq a b) (a ≡ b)
same_read (read.Leaf j) (read.Leaf k) = (λ e. ap read.Leaf ((unsigned_Decides j k).0 e), λ e. (unsigned_Decides j k).1 (cc))
same_read (read.Node j) (read.Leaf k) = (λ e. cc, λ e. cc)
same_read (read.Leaf j) (read.Node k) = (λ e. cc, λ e. cc)
same_read (read.Node j) (read.Node k) = (λ e. ap read.Node ((unsigned_Decides j k).0 e), λ e. (unsigned_Decides j k).1 (cc))

same_reads : (a b : List Read) → Decides (equal_reads a b) (a ≡ b)
same_reads = pointwise_decides same_read

same_integers : (a b : List ℕ) → Decides (pointwise nat_eq a b) (a ≡ b)
same_integers = pointwise_decides unsigned_Decides

same_numbers : (j k : ℕ) → j == k ≡ true → j ≡ k
same_numbers j k e = (unsigned_Decides j k).0 e

same_signs : (a b : Bool) → beq a b ≡ true → a ≡ b
same_signs a b e = (booleans_Decides a b).0 e

equal_numbers : (v w : Num) → (beq v.signed w.signed && (v.value.width == w.value.width && v.value.number == w.value.number)) ≡ true → v ≡ w
equal_numbers v w e =
    let kinds = both (beq v.signed w.signed) (v.value.width == w.value.width && v.value.number == w.value.number) e in
    let bits = both (v.value.width == w.value.width) (v.value.number == w.value.number) kinds.1 in
    let signed = same_signs v.signed w.signed kinds.0 in
    let width = same_numbers v.value.width w.value.width bits.0 in
    let number = same_numbers v.value.number w.value.number bits.1 in
    λ i. record { signed = signed i; value = record { width = width i; number = number i } }

equal_operation : (a b : Operation) → equal_operations a b ≡ true → a ≡ b
equal_operation a b e =
    let signed = beq a.signed b.signed in
    let width = a.width == b.width in
    let integers = pointwise nat_eq a.integers b.integers in
    let reads = equal_reads a.reads b.reads in
    let first = both ((prim_eq.ghosts).eq a.op b.op) (reads && (integers && (signed && width))) e in
    let second = both reads (integers && (signed && width)) first.1 in
    let third = both integers (signed && width) second.1 in
    let type = both signed width third.1 in
    let same_ops = (same_op a.op b.op).0 first.0 in
    let all_reads = (same_reads a.reads b.reads).0 second.0 in
    let all_integers = (same_integers a.integers b.integers).0 third.0 in
    let same_sign = same_signs a.signed b.signed type.0 in
    let same_width = same_numbers a.width b.width type.1 in
    λ i. record { op = same_ops i; reads = all_reads i; integers = all_integers i; signed = same_sign i; width = same_width i }

equal_mux : (a b : Mux) → (equal_reads a.reads b.reads && (beq a.signed b.signed && a.width == b.width)) ≡ true → a ≡ b
equal_mux a b e =
    let parts = both (equal_reads a.reads b.reads) (beq a.signed b.signed && a.width == b.width) e in
    let type = both (beq a.signed b.signed) (a.width == b.width) parts.1 in
    let all_reads = (same_reads a.reads b.reads).0 parts.0 in
    let same_sign = same_signs a.signed b.signed type.0 in
    let same_width = same_numbers a.width b.width type.1 in
    λ i. record { reads = all_reads i; signed = same_sign i; width = same_width i }

pub equal_node : (a b : Node) → (node_eq.ghosts).eq a b ≡ true → a ≡ b
equal_node (node.Literal v) (node.Literal w) e = ap node.Literal (equal_numbers v w e)
equal_node (node.Literal v) (node.Operation o) e = cc
equal_node (node.Literal v) (node.Mux m) e = cc
equal_node (node.Operation o) (node.Literal v) e = cc
equal_node (node.Operation o) (node.Operation p) e = ap node.Operation (equal_operation o p e)
equal_node (node.Operation o) (node.Mux m) e = cc
equal_node (node.Mux m) (node.Literal v) e = cc
equal_node (node.Mux m) (node.Operation o) e = cc
equal_node (node.Mux m) (node.Mux n) e = ap node.Mux (equal_mux m n e)

-- each node is equal to itself
pub node_itself : (a : Node) → (node_eq.ghosts).eq a a ≡ true
node_itself a = node_laws.refl a
