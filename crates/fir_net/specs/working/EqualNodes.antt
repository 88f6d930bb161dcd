-- When operations are equal, and what of them is hashed: all that they are.
-- The laws of `Eq` and `Hash` stand beside it, for the impls that cite them.
use Rattle.std.specs.Prelude.{List, Bool, ◌&&◌, ◌==◌, nat_eq, ◌++◌}
use Rattle.std.specs.Bool.{beq}
use Rattle.std.specs.Cmp.{IsEquivalence, and_equiv, on_equiv, nat_eq_equiv, bool_eq_equiv, unsigned_Decides, booleans_Decides}
use Rattle.std.specs.Cmp.Lexicographic.{pointwise, lists_equiv}
use Rattle.std.specs.Hash as fed
use Rattle.std.specs.Hash.{HashWrites, Alike, and-Alike, on_Alike, items_Alike, same_Alike}
use denote.Enum.Bare.{same_true, true_same}
use denote.Enum.Declared.{tag_of}
use Rattle.fir_bits.specs.declared.operators.PrimOp.{PrimOp}
use Rattle.fir_bits.specs.contracts.operators.PrimOp.{the_type}
use Rattle.fir_bits.specs.contracts.operators.PrimOpPartialEq.TheImpl as prim_eq
use Rattle.fir_bits.specs.contracts.operators.PrimOpEq.TheImpl.Laws.{laws-law as prim_laws}
use Rattle.fir_net.specs.declared.reads.Read.{Read}
use Rattle.fir_net.specs.contracts.reads.ReadPartialEq.TheImpl as read_eq
use Rattle.fir_net.specs.contracts.reads.ReadEq.TheImpl.Laws.{laws-law as read_laws}
use Rattle.fir_net.specs.contracts.reads.ReadHash.TheImpl as read_hash
use Rattle.fir_net.specs.contracts.reads.ReadHash.TheImpl.Laws.{respects_eq-law}
use Rattle.fir_net.specs.declared.node.Operation.{Operation}

abbrev pub equal_reads : List Read → List Read → Bool
equal_reads = pointwise (read_eq.ghosts).eq

abbrev pub equal_operations : Operation → Operation → Bool
equal_operations a b =
    (prim_eq.ghosts).eq a.op b.op && (equal_reads a.reads b.reads && (pointwise nat_eq a.integers b.integers && (beq a.signed b.signed && a.width == b.width)))

abbrev pub read_writes : List Read → HashWrites
read_writes = fed.slice (read_hash.ghosts).hash_input

-- the operation's number, the reads, the integers and the type
abbrev pub operation_writes : Operation → HashWrites
operation_writes o = fed.u8 (tag_of the_type o.op) ++ (read_writes o.reads ++ (fed.slice fed.u128 o.integers ++ (fed.bool o.signed ++ fed.u32 o.width)))

-- the laws of these: each part is compared, and fed alike where it is equal
pub operations_equiv : IsEquivalence equal_operations
operations_equiv =
    and_equiv (on_equiv (λ (o : Operation). o.op) prim_laws)
    (and_equiv (on_equiv (λ (o : Operation). o.reads) (lists_equiv read_laws))
    (and_equiv (on_equiv (λ (o : Operation). o.integers) (lists_equiv nat_eq_equiv))
    (and_equiv (on_equiv (λ (o : Operation). o.signed) bool_eq_equiv) (on_equiv (λ (o : Operation). o.width) nat_eq_equiv))))

pub operations_alike : Alike equal_operations operation_writes
operations_alike =
    and-Alike (on_Alike (λ (o : Operation). o.op) (same_Alike (λ (p : PrimOp). fed.u8 (tag_of the_type p)) (λ p q. (same_true the_type tt p q, true_same the_type p q))))
    (and-Alike (on_Alike (λ (o : Operation). o.reads) (items_Alike (record { fed = respects_eq-law })))
    (and-Alike (on_Alike (λ (o : Operation). o.integers) (items_Alike (same_Alike fed.u128 unsigned_Decides)))
    (and-Alike (on_Alike (λ (o : Operation). o.signed) (same_Alike fed.bool booleans_Decides)) (on_Alike (λ (o : Operation). o.width) (same_Alike fed.u32 unsigned_Decides)))))
