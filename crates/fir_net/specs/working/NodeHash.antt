-- What of a node is hashed: all that it is. The law of `Hash` stands beside it, for the impl that cites it.
use Rattle.std.specs.Prelude.{◌≡◌, true, ◌++◌, ◌&&◌, ◌==◌}
use Rattle.std.specs.Bool.{beq}
use Rattle.std.specs.Cmp.{unsigned_Decides, booleans_Decides}
use Rattle.std.specs.Hash as fed
use Rattle.std.specs.Hash.{HashWrites, Alike, and-Alike, on_Alike, same_Alike}
use mathlib.Core.Path.{sym, ap}
use mathlib.Core.Bool.{true≢false}
use Rattle.fir_bits.specs.declared.values.Num.{Num}
use Rattle.fir_net.specs.declared.node.Node.{Node}
use Rattle.fir_net.specs.declared.node.Node.TheVariants as node
use Rattle.fir_net.specs.contracts.node.MuxHash.TheImpl as mux_hash
use Rattle.fir_net.specs.contracts.node.MuxHash.TheImpl.Laws.{respects_eq-law}
use Rattle.fir_net.specs.contracts.node.NodePartialEq.TheImpl as node_eq
use Rattle.fir_net.specs.working.EqualNodes.{operation_writes, operations_alike}

abbrev pub literal_writes : Num → HashWrites
literal_writes v = fed.bool v.signed ++ (fed.u32 v.value.width ++ fed.u128 v.value.number)

-- the number of its kind, and what it holds
abbrev pub node_writes : Node → HashWrites
node_writes (node.Literal v) = fed.u8 0 ++ literal_writes v
node_writes (node.Operation o) = fed.u8 1 ++ operation_writes o
node_writes (node.Mux m) = fed.u8 2 ++ (mux_hash.ghosts).hash_input m

literals_alike : Alike (λ (v w : Num). beq v.signed w.signed && (v.value.width == w.value.width && v.value.number == w.value.number)) literal_writes
literals_alike =
    and-Alike (on_Alike (λ (v : Num). v.signed) (same_Alike fed.bool booleans_Decides))
    (and-Alike (on_Alike (λ (v : Num). v.value.width) (same_Alike fed.u32 unsigned_Decides)) (on_Alike (λ (v : Num). v.value.number) (same_Alike fed.u128 unsigned_Decides)))

-- what is equal is fed alike
pub nodes_alike : (a b : Node) → (node_eq.ghosts).eq a b ≡ true → node_writes a ≡ node_writes b
nodes_alike (node.Literal v) (node.Literal w) e = ap (λ (ws : HashWrites). fed.u8 0 ++ ws) (literals_alike.fed v w e)
nodes_alike (node.Literal v) (node.Operation o) e = absurd (true≢false (sym e))
nodes_alike (node.Literal v) (node.Mux m) e = absurd (true≢false (sym e))
nodes_alike (node.Operation o) (node.Literal v) e = absurd (true≢false (sym e))
nodes_alike (node.Operation o) (node.Operation p) e = ap (λ (ws : HashWrites). fed.u8 1 ++ ws) (operations_alike.fed o p e)
nodes_alike (node.Operation o) (node.Mux m) e = absurd (true≢false (sym e))
nodes_alike (node.Mux m) (node.Literal v) e = absurd (true≢false (sym e))
nodes_alike (node.Mux m) (node.Operation o) e = absurd (true≢false (sym e))
nodes_alike (node.Mux m) (node.Mux n) e = ap (λ (ws : HashWrites). fed.u8 2 ++ ws) (respects_eq-law m n e)
