-- What a node computes from the values that it reads.
-- An operation computes with the kinds of its operands; a mux extends the value that it takes by its sign.
use Rattle.std.specs.Prelude.{◌≡◌, ◌≤◌, map, IsOk, Option, Some, None}
use Rattle.fir_bits.specs.working.Types.{typed}
use Rattle.fir_bits.specs.Operators.{no_operand, outcome}
use Rattle.fir_bits.specs.working.Operators.{type_of}
use Rattle.fir_bits.specs.declared.values.Num.{Num}
use Rattle.fir_net.specs.declared.reads.Read.{Read}
use Rattle.fir_net.specs.declared.node.Operation.{Operation}
use Rattle.fir_net.specs.declared.node.Node.{Node}
use Rattle.fir_net.specs.declared.node.Node.TheVariants as node
use Rattle.fir_net.specs.working.IsNet.{node_type}
use Rattle.fir_net.specs.working.Values.{chosen}

abbrev pub held_operation : (Read → Num) → Operation → Num
held_operation value o = outcome o.op (map value o.reads) o.integers

abbrev pub held_node : (Read → Num) → Node → Num
held_node value (node.Literal v) = v
held_node value (node.Operation o) = held_operation value o
held_node value (node.Mux m) = chosen (node_type (node.Mux m)) (map value m.reads)

-- the operation has a type over what it reads, and its result is of the operation's kind
pub record HasType (value : Read → Num) (o : Operation) : Type 0 where
  pub has_type : IsOk (typed o.op (map type_of (map value o.reads)) o.integers)
  pub kind : (held_operation value o).signed ≡ o.signed

abbrev pub NodeHasType : (Read → Num) → Node → Type 0
NodeHasType value (node.Literal v) = Unit {0}
NodeHasType value (node.Operation o) = HasType value o
NodeHasType value (node.Mux m) = m.width ≤ 128

abbrev pub held_node_at : (Read → Num) → Option Node → Num
held_node_at value None = no_operand
held_node_at value (Some n) = held_node value n
