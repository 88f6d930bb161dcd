-- Which nets are whole.
-- Each node reads leaves and nodes before it and has the type of its operation; what drives a leaf is a value of the net and of the leaf's signedness,
-- and what drives a clock leaf a clock leaf or none; a register is clocked by a clock leaf, and the condition of its reset is one bit; a clock is one bit
-- wide; the ports stand before the other leaves; all widths are at most 128; each register and each pipe that has bits is a word of the state, once; what is
-- read of an array and written into it is of the type of its words, and read or written at an address that is a UInt, under one bit; a pipe is clocked by a clock
-- leaf; and each array that has bits stands in the state, once, all of them with at most 4194304 words.
use Rattle.std.specs.Prelude.{◌≡◌, ℕ, ◌<◌, ◌≤◌, max, List, [], ◌∷◌, ◌++◌, length, map, slice_get, Bool, true, false, not, ◌&&◌, nat_eq, Option, Some, None, unwrap_or, option_map, Ok, MatchBool}
use Rattle.std.specs.List.{AllByRecursion, sum_by}
use Rattle.fir_base.specs.Lists.{Distinct}
use Rattle.fir_bits.specs.Values.{IsBitVector}
use Rattle.fir_bits.specs.Forms.{no_type}
use Rattle.fir_bits.specs.working.Types.{typed}
use Rattle.fir_bits.specs.working.Operators.{type_of}
use Rattle.fir_bits.specs.declared.types.NumTy.{NumTy}
use Rattle.fir_net.specs.declared.array.Array.{Array}
use Rattle.fir_net.specs.declared.array.ArrayRead.{ArrayRead}
use Rattle.fir_net.specs.declared.array.ArrayWrite.{ArrayWrite}
use Rattle.fir_net.specs.declared.array.Pipe.{Pipe}
use Rattle.fir_net.specs.declared.reads.Read.{Read}
use Rattle.fir_net.specs.declared.reads.Read.TheVariants as read
use Rattle.fir_net.specs.declared.leaf.Reset.{Reset}
use Rattle.fir_net.specs.declared.leaf.Role.{Role}
use Rattle.fir_net.specs.declared.leaf.Role.TheVariants as role
use Rattle.fir_net.specs.declared.leaf.Leaf.{Leaf}
use Rattle.fir_net.specs.declared.node.Operation.{Operation}
use Rattle.fir_net.specs.declared.node.Mux.{Mux}
use Rattle.fir_net.specs.declared.node.Node.{Node}
use Rattle.fir_net.specs.declared.node.Node.TheVariants as node
use Rattle.fir_net.specs.declared.net.FlatNet.{FlatNet}
use Rattle.fir_net.specs.working.Arrays.{words_of}
use Rattle.fir_net.specs.working.Values.{leaf_type}
use Rattle.fir_net.specs.working.Settled.{is_clock}

abbrev pub node_type : Node → NumTy
node_type (node.Literal v) = type_of v
node_type (node.Operation o) = record { signed = o.signed; width = o.width }
node_type (node.Mux m) = record { signed = m.signed; width = m.width }

abbrev pub read_type : List Leaf → List Node → Read → NumTy
read_type leaves nodes (read.Leaf k) = leaf_type leaves k
read_type leaves nodes (read.Node k) = unwrap_or (option_map node_type (slice_get nodes k)) no_type

-- a leaf that is no clock, or one of these nodes
abbrev pub CanRead : List Leaf → List Node → Read → Type 0
CanRead leaves nodes (read.Leaf k) = (l : Leaf) × (slice_get leaves k ≡ Some l) × (is_clock l.role ≡ false)
CanRead leaves nodes (read.Node k) = k < length nodes

pub record IsOperation (leaves : List Leaf) (before : List Node) (o : Operation) : Type 0 where
  pub reads : AllByRecursion (CanRead leaves before) o.reads
  pub has_type : typed o.op (map (read_type leaves before) o.reads) o.integers ≡ Ok (node_type (node.Operation o))

-- the type of one bit
abbrev pub one_bit : NumTy
one_bit = record { signed = false; width = 1 }

-- a condition of one bit, and the greater one of the widths of two values of one signedness
abbrev pub IsChoice : NumTy → List NumTy → Type 0
IsChoice t (c ∷ a ∷ b ∷ []) = (c ≡ one_bit) × (a.signed ≡ t.signed) × (b.signed ≡ t.signed) × (t.width ≡ max a.width b.width)
IsChoice t _ = ⊥

pub record IsMux (leaves : List Leaf) (before : List Node) (m : Mux) : Type 0 where
  pub reads : AllByRecursion (CanRead leaves before) m.reads
  pub has_type : IsChoice (node_type (node.Mux m)) (map (read_type leaves before) m.reads)

abbrev pub IsNode : List Leaf → List Node → Node → Type 0
IsNode leaves before (node.Literal v) = IsBitVector v.value
IsNode leaves before (node.Operation o) = IsOperation leaves before o
IsNode leaves before (node.Mux m) = IsMux leaves before m

-- each node over those before it
abbrev pub AreNodes : List Leaf → List Node → List Node → Type 0
AreNodes leaves before [] = Unit {0}
AreNodes leaves before (n ∷ ns) = IsNode leaves before n × AreNodes leaves (before ++ n ∷ []) ns

-- what may drive a leaf that is an SInt or a UInt
pub record CanDrive (leaves : List Leaf) (nodes : List Node) (signed : Bool) (r : Read) : Type 0 where
  pub can : CanRead leaves nodes r
  pub kind : (read_type leaves nodes r).signed ≡ signed

abbrev pub CanBeDriven : List Leaf → List Node → Bool → Option Read → Type 0
CanBeDriven leaves nodes signed None = Unit {0}
CanBeDriven leaves nodes signed (Some r) = CanDrive leaves nodes signed r

abbrev pub IsClock : List Leaf → ℕ → Type 0
IsClock leaves k = (l : Leaf) × (slice_get leaves k ≡ Some l) × (is_clock l.role ≡ true)

abbrev pub CanBeClock : List Leaf → Option ℕ → Type 0
CanBeClock leaves None = Unit {0}
CanBeClock leaves (Some k) = IsClock leaves k

pub record IsReset (leaves : List Leaf) (nodes : List Node) (signed : Bool) (r : Reset) : Type 0 where
  pub condition : CanRead leaves nodes r.condition
  pub has_one_bit : read_type leaves nodes r.condition ≡ one_bit
  pub init : CanDrive leaves nodes signed r.init

abbrev pub CanBeReset : List Leaf → List Node → Bool → Option Reset → Type 0
CanBeReset leaves nodes signed None = Unit {0}
CanBeReset leaves nodes signed (Some r) = IsReset leaves nodes signed r

-- an address, which is a UInt that has bits, and one bit that allows a read or a write there
pub record IsAddressed (leaves : List Leaf) (nodes : List Node) (at under : Read) : Type 0 where
  pub address : CanRead leaves nodes at
  pub unsigned : (read_type leaves nodes at).signed ≡ false
  pub has_bits : 1 ≤ (read_type leaves nodes at).width
  pub enable : CanRead leaves nodes under
  pub has_one_bit : read_type leaves nodes under ≡ one_bit

abbrev pub IsRole : List Leaf → List Node → Bool → ℕ → Role → Type 0
IsRole leaves nodes signed width role.Input = Unit {0}
IsRole leaves nodes signed width role.Clock = width ≡ 1
IsRole leaves nodes signed width (role.Output r) = CanDrive leaves nodes signed r
IsRole leaves nodes signed width (role.Wire r) = CanDrive leaves nodes signed r
IsRole leaves nodes signed width (role.Register r) = IsClock leaves r.clock × CanBeReset leaves nodes signed r.reset × CanBeDriven leaves nodes signed r.next
IsRole leaves nodes signed width (role.Reading r) = IsAddressed leaves nodes r.address r.enable
IsRole leaves nodes signed width (role.Pipe p) = IsClock leaves p.clock × IsAddressed leaves nodes p.read.address p.read.enable
IsRole leaves nodes signed width (role.ClockOutput c) = (width ≡ 1) × CanBeClock leaves c
IsRole leaves nodes signed width (role.ClockWire c) = (width ≡ 1) × CanBeClock leaves c

pub record IsLeaf (leaves : List Leaf) (nodes : List Node) (l : Leaf) : Type 0 where
  pub narrow : l.width ≤ 128
  pub driven : IsRole leaves nodes l.signed l.width l.role

abbrev pub is_port : Role → Bool
is_port (role.Register r) = false
is_port (role.Wire r) = false
is_port (role.Reading r) = false
is_port (role.Pipe p) = false
is_port (role.ClockWire c) = false
is_port _ = true

-- ports, then all others
abbrev pub AreInside : List Leaf → Type 0
AreInside = AllByRecursion (λ l. is_port l.role ≡ false)

abbrev pub ArePortsFirst : List Leaf → Type 0
ArePortsFirst [] = Unit {0}
ArePortsFirst (l ∷ ls) = MatchBool (is_port l.role) (ArePortsFirst ls) (AreInside ls)

-- a register or a pipe
abbrev pub is_state : Role → Bool
is_state (role.Register r) = true
is_state (role.Pipe p) = true
is_state _ = false

-- one that has bits
abbrev pub is_word : Leaf → Bool
is_word l = is_state l.role && not (nat_eq l.width 0)

-- the words of the state
pub record IsState (leaves : List Leaf) (state : List ℕ) : Type 0 where
  pub only : (n k : ℕ) → slice_get state n ≡ Some k → (l : Leaf) × (slice_get leaves k ≡ Some l) × (is_word l ≡ true)
  pub all : (k : ℕ) (l : Leaf) → slice_get leaves k ≡ Some l → is_word l ≡ true → (n : ℕ) × (slice_get state n ≡ Some k)
  pub once : Distinct state

-- into an array of words of that type
pub record IsArrayWrite (leaves : List Leaf) (nodes : List Node) (signed : Bool) (width : ℕ) (w : ArrayWrite) : Type 0 where
  pub clock : IsClock leaves w.clock
  pub addressed : IsAddressed leaves nodes w.address w.condition
  pub given : CanRead leaves nodes w.given
  pub has_type : read_type leaves nodes w.given ≡ record { signed = signed; width = width }

pub record IsArray (leaves : List Leaf) (nodes : List Node) (a : Array) : Type 0 where
  pub narrow : a.width ≤ 128
  pub has_words : 1 ≤ a.words
  pub writes : AllByRecursion (IsArrayWrite leaves nodes a.signed a.width) a.writes

-- the array is there, and has words of the width and the signedness of what is read
abbrev pub IsReadOf : List Array → Leaf → ArrayRead → Type 0
IsReadOf arrays l r = (a : Array) × (slice_get arrays r.array ≡ Some a) × (a.width ≡ l.width) × (a.signed ≡ l.signed)

-- the arrays of the state: those that have bits
pub record IsArrayOrder (arrays : List Array) (order : List ℕ) : Type 0 where
  pub only : (n k : ℕ) → slice_get order n ≡ Some k → (a : Array) × (slice_get arrays k ≡ Some a) × (1 ≤ a.width)
  pub all : (k : ℕ) (a : Array) → slice_get arrays k ≡ Some a → 1 ≤ a.width → (n : ℕ) × (slice_get order n ≡ Some k)
  pub once : Distinct order

pub record IsNet (net : FlatNet) : Type 0 where
  pub leaves : AllByRecursion (IsLeaf net.leaves net.nodes) net.leaves
  pub ports_first : ArePortsFirst net.leaves
  pub nodes : AreNodes net.leaves [] net.nodes
  pub state : IsState net.leaves net.state
  pub arrays : AllByRecursion (IsArray net.leaves net.nodes) net.arrays
  pub readings : (k : ℕ) (l : Leaf) (r : ArrayRead) → slice_get net.leaves k ≡ Some l → l.role ≡ role.Reading r → IsReadOf net.arrays l r
  pub pipes : (k : ℕ) (l : Leaf) (p : Pipe) → slice_get net.leaves k ≡ Some l → l.role ≡ role.Pipe p → IsReadOf net.arrays l p.read
  pub array_state : IsArrayOrder net.arrays net.array_order
  pub few_words : sum_by (words_of net.arrays) net.array_order ≤ 4194304
