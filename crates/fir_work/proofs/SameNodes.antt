-- What a node computes hangs on what it reads alone, and is its value where these are values.
use Rattle.std.proofs.Common.{◌≡◌, ℕ, List, Some, refl, ap}
use Rattle.std.specs.Prelude.{slice_get}
use Rattle.fir_bits.specs.Operators.{outcome}
use Rattle.fir_bits.specs.declared.values.Num.{Num}
use Rattle.fir_net.specs.declared.net.FlatNet.{FlatNet}
use Rattle.fir_net.specs.declared.node.Node.{Node}
use Rattle.fir_net.specs.declared.node.Node.TheVariants as node
use Rattle.fir_net.specs.declared.reads.Read.{Read}
use Rattle.fir_net.specs.working.Dependence.{support_of}
use Rattle.fir_net.specs.working.IsNet.{node_type}
use Rattle.fir_net.specs.working.Settled.{value_at}
use Rattle.fir_net.specs.working.Values.{chosen, node_value, values}
use Rattle.fir_net.proofs.Places.{map_at}
use Rattle.fir_work.specs.working.NodeValues.{held_node}

pub node_same : (e f : Read → Num) (n : Node) → ((j : ℕ) (r : Read) → slice_get (support_of n) j ≡ Some r → e r ≡ f r) → held_node e n ≡ held_node f n
node_same e f (node.Literal v) h = refl
node_same e f (node.Operation o) h = ap (λ (xs : List Num). outcome o.op xs o.integers) (map_at e f o.reads h)
node_same e f (node.Mux m) h = ap (chosen (node_type (node.Mux m))) (map_at e f m.reads h)

pub held_is_value : (net : FlatNet) (env : ℕ → ℕ) (n : Node) → held_node (value_at net env) n ≡ node_value net.leaves env (values net env) n
held_is_value net env (node.Literal v) = refl
held_is_value net env (node.Operation o) = refl
held_is_value net env (node.Mux m) = refl
