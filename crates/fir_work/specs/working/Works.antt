-- What is done with the numbers of operands.
use Rattle.std.specs.Prelude.{◌≡◌, ℕ, ◌+◌, ◌-◌, ◌*◌, ◌/◌, ◌%◌, ◌^◌, ◌<◌, ◌≤◌, ◌==◌, not, nat_lt, nat_le, if◌then◌else◌, bit_and, bit_or, bit_xor, count_ones, List, slice_get, Some}
use Rattle.std.specs.Prelude.{int_lt, int_le}
use Rattle.std.specs.Int.{cast_signed, w128}
use Rattle.std.specs.List.{AllByRecursion}
use Rattle.fir_bits.specs.Values.{IsBitVector, fitted}
use Rattle.fir_bits.specs.Operators.{flag}
use Rattle.fir_net.specs.declared.reads.Read.{Read}
use Rattle.fir_net.specs.declared.node.Node.{Node}
use Rattle.fir_net.specs.declared.net.FlatNet.{FlatNet}
use Rattle.fir_net.specs.working.Dependence.{IsOf, support_of}
use Rattle.fir_work.specs.declared.signed.SignedWork.{SignedWork}
use Rattle.fir_work.specs.declared.signed.SignedWork.TheVariants as signed
use Rattle.fir_work.specs.declared.work.Work.{Work}
use Rattle.fir_work.specs.declared.work.Work.TheVariants as work
use Rattle.fir_work.specs.working.Numbers.{value_in}
use Rattle.fir_work.specs.working.NodeValues.{NodeHasType, held_node_at}

-- what wraps at 128 bits
abbrev pub wrapped : ℕ → ℕ
wrapped n = n % 2 ^ 128

abbrev pub less : ℕ → ℕ → ℕ
less a b = (a + (2 ^ 128 - b)) % 2 ^ 128

abbrev pub quotient_of : ℕ → ℕ → ℕ
quotient_of a b = if b == 0 then 0 else a / b

abbrev pub remainder_of : ℕ → ℕ → ℕ
remainder_of a b = if b == 0 then 0 else a % b

abbrev pub raised : ℕ → ℕ → ℕ
raised a by = if nat_lt by 128 then wrapped (a * 2 ^ by) else 0

abbrev pub lowered : ℕ → ℕ → ℕ
lowered a by = if nat_lt by 128 then a / 2 ^ by else 0

abbrev pub extension : ℕ → ℕ → ℕ → ℕ
extension a top fill = if a / 2 ^ top == 0 then a else wrapped (a + fill)

-- a number of top + 1 bits, filled with its sign up to 128 bits
abbrev pub filled : ℕ → ℕ → ℕ
filled a top = if a / 2 ^ top == 0 then a else less (less a (2 ^ top)) (2 ^ top)

-- what is made of two numbers of 128 bits, as the integers that they stand for
abbrev pub signed_done : SignedWork → ℕ → ℕ → ℕ → ℕ
signed_done signed.Sum a b mask = bit_and (wrapped (a + b)) mask
signed_done signed.Difference a b mask = bit_and (less a b) mask
signed_done signed.Product a b mask = bit_and (wrapped (a * b)) mask
signed_done signed.Negative a b mask = bit_and (less 0 a) mask
signed_done signed.Below a b mask = flag (int_lt (cast_signed w128 a) (cast_signed w128 b))
signed_done signed.AtMost a b mask = flag (int_le (cast_signed w128 a) (cast_signed w128 b))
signed_done signed.Above a b mask = flag (int_lt (cast_signed w128 b) (cast_signed w128 a))
signed_done signed.AtLeast a b mask = flag (int_le (cast_signed w128 b) (cast_signed w128 a))

abbrev pub signed_result : Work → ℕ → ℕ → ℕ
signed_result (work.Signed kind first second mask) a b = signed_done kind (filled a first) (filled b second) mask
signed_result _ a b = 0

abbrev pub CanSign : Work → Type 0
CanSign (work.Signed kind first second mask) = (first < 128) × (second < 128)
CanSign _ = Unit {0}

-- what a task gives from the numbers of its first three operands
abbrev pub done : FlatNet → List ℕ → Work → ℕ → ℕ → ℕ → ℕ
done net ns (work.Literal n) a b c = n
done net ns work.Operand a b c = a
done net ns (work.Field low mask) a b c = bit_and (a / 2 ^ low) mask
done net ns (work.Shift by) a b c = wrapped (a * 2 ^ by)
done net ns (work.Join by) a b c = bit_or (wrapped (a * 2 ^ by)) b
done net ns (work.Turn mask) a b c = less mask a
done net ns work.And a b c = bit_and a b
done net ns work.Or a b c = bit_or a b
done net ns work.Xor a b c = bit_xor a b
done net ns work.Sum a b c = wrapped (a + b)
done net ns (work.Difference mask) a b c = bit_and (less a b) mask
done net ns work.Product a b c = wrapped (a * b)
done net ns work.Quotient a b c = quotient_of a b
done net ns work.Remainder a b c = remainder_of a b
done net ns work.Up a b c = raised a b
done net ns work.Down a b c = lowered a b
done net ns work.Below a b c = flag (nat_lt a b)
done net ns work.AtMost a b c = flag (nat_le a b)
done net ns work.Above a b c = flag (nat_lt b a)
done net ns work.AtLeast a b c = flag (nat_le b a)
done net ns work.Same a b c = flag (a == b)
done net ns work.Differ a b c = flag (not (a == b))
done net ns work.Any a b c = flag (not (a == 0))
done net ns (work.All mask) a b c = flag (a == mask)
done net ns work.Parity a b c = count_ones a % 2
done net ns (work.Extend top fill) a b c = extension a top fill
done net ns (work.Signed kind first second mask) a b c = signed_done kind (filled a first) (filled b second) mask
done net ns work.Choose a b c = if a == 1 then b else c
done net ns (work.Show signed width to) a b c = if a == 1 then fitted signed width b to else c
done net ns (work.Node k) a b c = (held_node_at (value_in net ns) (slice_get net.nodes k)).value.number

-- a leaf or a node whose number is one of its width
pub record IsThere (net : FlatNet) (ns : List ℕ) (r : Read) : Type 0 where
  pub of : IsOf net r
  pub whole : IsBitVector (value_in net ns r).value

-- what the node of that number reads is there, and it has a type over that
pub record CanCompute (net : FlatNet) (ns : List ℕ) (k : ℕ) : Type 0 where
  pub node : Node
  pub is : slice_get net.nodes k ≡ Some node
  pub reads : AllByRecursion (IsThere net ns) (support_of node)
  pub has_type : NodeHasType (value_in net ns) node

-- a number of that many bits, which is to be one of so many
pub record CanFit (width to n : ℕ) : Type 0 where
  pub narrow : width ≤ 128
  pub to_narrow : to ≤ 128
  pub below : n < 2 ^ width

-- it can be done with these numbers
abbrev pub CanDo : FlatNet → List ℕ → Work → ℕ → ℕ → Type 0
CanDo net ns (work.Field low mask) a b = low < 128
CanDo net ns (work.Shift by) a b = by < 128
CanDo net ns (work.Join by) a b = by < 128
CanDo net ns (work.Extend top fill) a b = top < 128
CanDo net ns (work.Signed kind first second mask) a b = (first < 128) × (second < 128)
CanDo net ns (work.Show signed width to) a b = CanFit width to b
CanDo net ns (work.Node k) a b = CanCompute net ns k
CanDo net ns _ a b = Unit {0}
