-- What a node is simplified to: something that may stand in its place, and no node that could be computed at once.
use Rattle.std.specs.Prelude.{◌≡◌, ◌≤◌, List, slice_get, Some}
use Rattle.std.specs.List.{AllByRecursion}
use Rattle.fir_base.specs.Lists.{In}
use Rattle.fir_bits.specs.declared.values.Num.{Num}
use Rattle.fir_net.specs.declared.leaf.Leaf.{Leaf}
use Rattle.fir_net.specs.declared.node.Node.{Node}
use Rattle.fir_net.specs.declared.node.Node.TheVariants as node
use Rattle.fir_net.specs.declared.reads.Read.{Read}
use Rattle.fir_net.specs.declared.reads.Read.TheVariants as read
use Rattle.fir_fold_rules.specs.declared.replacement.Replacement.{Replacement}
use Rattle.fir_fold_rules.specs.declared.replacement.Replacement.TheVariants as by
use Rattle.fir_fold_rules.specs.working.Replaces.{Replaces}

-- leaves of at most 128 bits
abbrev pub AreNarrow : List Leaf → Type 0
AreNarrow = AllByRecursion (λ l. l.width ≤ 128)

-- a node of these that is a literal
abbrev pub IsLiteralNode : List Node → Read → Type 0
IsLiteralNode nodes (read.Leaf k) = ⊥
IsLiteralNode nodes (read.Node k) = (v : Num) × (slice_get nodes k ≡ Some (node.Literal v))

-- an operator whose operands are not all literals, or a mux whose condition is none
abbrev pub IsFoldedNode : List Node → Node → Type 0
IsFoldedNode nodes (node.Literal v) = Unit {0}
IsFoldedNode nodes (node.Operation o) = ((r : Read) → In o.reads r → IsLiteralNode nodes r) → ⊥
IsFoldedNode nodes (node.Mux m) = (c : Read) → slice_get m.reads 0 ≡ Some c → IsLiteralNode nodes c → ⊥

abbrev pub IsFoldedBy : List Node → Replacement → Type 0
IsFoldedBy nodes (by.Read r) = Unit {0}
IsFoldedBy nodes (by.Node m) = IsFoldedNode nodes m

pub record Simplifies (leaves : List Leaf) (nodes : List Node) (n : Node) (by : Replacement) : Type 0 where
  pub replaces : Replaces leaves nodes n by
  pub folded : IsFoldedBy nodes by
