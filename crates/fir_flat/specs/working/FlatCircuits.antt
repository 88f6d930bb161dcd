-- A flat net of a circuit over its leaves (FIRRTL spec, "Ports", "Nodes", "Registers", "Connects"). Each leaf has its number and its type, and what gives it
-- its value is a read that stands for the term of its role in a net; a synchronous reset is a choice in what its register takes. What gives a clock leaf its
-- clock is another clock leaf, or no clock. What a memory's port reads at once is a read of an array, what it reads late a pipe; and each array has the writes of
-- its memory's ports. What enables a read or a write is one read, of the leaves that have to be 1 or 0.
use Rattle.std.specs.Prelude.{◌≡◌, ◌⊎◌, ℕ, List, [], ◌∷◌, length, Bool, true, false, if◌then◌else◌, Option, Some, None, slice_get}
use Rattle.fir_bits.specs.declared.operators.PrimOp.TheVariants.{And, Not}
use Rattle.fir_bits.specs.declared.values.Num.{Num}
use Rattle.fir_ast.specs.declared.statements.ReadUnderWrite.{ReadUnderWrite}
use Rattle.fir_ast.specs.declared.statements.ReadUnderWrite.TheVariants.{New, Old, Undefined}
use Rattle.fir_meaning.specs.Values.{number_of}
use Rattle.fir_meaning.specs.working.LeafModules.{LeafArray, Need, Reading, Writing, leaf_at}
use Rattle.fir_meaning.specs.LeafTypes.{LeafType, a_clock, number}
use Rattle.fir_meaning.specs.working.LeafCircuits.{LeafCircuit}
use Rattle.fir_meaning.specs.working.TermValues.{Holds}
use Rattle.fir_net.specs.declared.array.Array.{Array}
use Rattle.fir_net.specs.declared.array.ArrayRead.{ArrayRead}
use Rattle.fir_net.specs.declared.array.ArrayWrite.{ArrayWrite}
use Rattle.fir_net.specs.declared.array.Pipe.{Pipe}
use Rattle.fir_net.specs.declared.leaf.Leaf.{Leaf}
use Rattle.fir_net.specs.declared.leaf.Reset.{Reset}
use Rattle.fir_net.specs.declared.leaf.ResetKind.TheVariants.{Asynchronous}
use Rattle.fir_net.specs.declared.leaf.Role.{Role}
use Rattle.fir_net.specs.declared.leaf.Role.TheVariants as role
use Rattle.fir_net.specs.declared.net.FlatNet.{FlatNet}
use Rattle.fir_net.specs.declared.node.Node.{Node}
use Rattle.fir_net.specs.declared.reads.Read.{Read}
use Rattle.fir_net.specs.declared.reads.Read.TheVariants as read
use Rattle.fir_net.specs.working.Settled.{clock_outputs, clocks, inputs, outputs, registers}
use Rattle.fir_connect.specs.working.Lowered.{one_bit}
use Rattle.fir_connect.specs.working.NetRoles.{NetReset, NetRole, computed, driven, net_role_at, net_types, pipe, reading, register, source}
use Rattle.fir_connect.specs.working.NetTerms.{NetTerm, choice, leaf, no_terms, operation, term, value}
use Rattle.fir_connect.specs.working.CircuitModules.{as_module}
use Rattle.fir_merge.specs.working.NodeTerms.{read_term, terms}

-- what a read stands for, over these nodes
abbrev pub stands_for : List Node → Read → NetTerm
stands_for nodes r = read_term (terms nodes) r

-- what drives an output or another leaf
abbrev pub IsDrivenBy : Role → Read → Type 0
IsDrivenBy x r = (x ≡ role.Output r) ⊎ (x ≡ role.Wire r)

-- so of a clock output or another clock leaf
abbrev pub IsClockedBy : Role → Option ℕ → Type 0
IsClockedBy x c = (x ≡ role.ClockOutput c) ⊎ (x ≡ role.ClockWire c)

-- a term names a clock leaf, or gives no clock, as `is invalid` does
abbrev pub NamesClock : NetTerm → Option ℕ → Type 0
NamesClock t None = (v : Num) × (t ≡ value v)
NamesClock t (Some y) = t ≡ leaf y

-- an asynchronous reset stays; at an edge of its clock a register takes its init while a synchronous one is 1, else what drives it
abbrev pub reset_kept : Option NetReset → Option NetReset
reset_kept None = None
reset_kept (Some r) = if r.is_async then Some r else None

abbrev pub next_of : Holds → Option NetReset → NetTerm → NetTerm
next_of holds None d = d
next_of holds (Some r) d = if r.is_async then d else choice holds r.condition r.init d

-- a reset that stays
abbrev pub IsResetOf : List Node → Option Reset → Option NetReset → Type 0
IsResetOf nodes None None = Unit {0}
IsResetOf nodes (Some r) (Some m) = (r.kind ≡ Asynchronous) × (stands_for nodes r.condition ≡ m.condition) × (stands_for nodes r.init ≡ m.init)
IsResetOf nodes _ _ = ⊥

-- what a register of that number takes: what is read stands for the term; or nothing is read, and the term is what the register shows
abbrev pub IsNextOf : List Node → ℕ → Option Read → NetTerm → Type 0
IsNextOf nodes k None t = t ≡ leaf k
IsNextOf nodes k (Some r) t = stands_for nodes r ≡ t

-- a leaf that has to be 1 or 0, and all of several, as a term of one bit
abbrev pub need_term : Need → NetTerm
need_term n = if n.high then leaf n.leaf else operation Not (term (leaf n.leaf) no_terms) [] one_bit

abbrev pub needs_term : List Need → NetTerm
needs_term [] = value (number_of one_bit 1)
needs_term (n ∷ []) = need_term n
needs_term (n ∷ m ∷ ms) = operation And (term (need_term n) (term (needs_term (m ∷ ms)) no_terms)) [] one_bit

-- what is read of an array of that number
pub record IsReadingOf (nodes : List Node) (r : ArrayRead) (m : Reading) : Type 0 where
  pub array : r.array ≡ m.array
  pub address : r.address ≡ read.Leaf m.address
  pub enable : stands_for nodes r.enable ≡ needs_term m.needs

abbrev pub is_new : ReadUnderWrite → Bool
is_new New = true
is_new Old = false
is_new Undefined = false

pub record IsPipeOf (nodes : List Node) (p : Pipe) (m : Reading) (clock_leaf : ℕ) (under : ReadUnderWrite) : Type 0 where
  pub read : IsReadingOf nodes p.read m
  pub clock : p.clock ≡ clock_leaf
  pub moment : p.is_new ≡ is_new under

-- what is written into an array, one by one in the order of the ports
pub record IsWriteOf (nodes : List Node) (w : ArrayWrite) (m : Writing) : Type 0 where
  pub clock : w.clock ≡ m.clock
  pub condition : stands_for nodes w.condition ≡ needs_term m.needs
  pub address : w.address ≡ read.Leaf m.address
  pub given : w.given ≡ read.Leaf m.given

abbrev pub AreWritesOf : List Node → List ArrayWrite → List Writing → Type 0
AreWritesOf nodes [] [] = Unit {0}
AreWritesOf nodes (w ∷ ws) (m ∷ ms) = IsWriteOf nodes w m × AreWritesOf nodes ws ms
AreWritesOf nodes _ _ = ⊥

-- an array with words of the type of what its memory's words hold there
abbrev pub HasWordsOf : Array → LeafType → Type 0
HasWordsOf a (number t) = (a.signed ≡ t.signed) × (a.width ≡ t.width)
HasWordsOf a a_clock = ⊥

pub record IsArrayOf (nodes : List Node) (a : Array) (m : LeafArray) : Type 0 where
  pub holds : HasWordsOf a m.holds
  pub words : a.words ≡ m.words
  pub writes : AreWritesOf nodes a.writes m.writings

-- by the nodes of the net, the types of all leaves, the number of the leaf, what it holds and its role in a net
abbrev pub IsRoleOf : List Node → Holds → ℕ → Role → LeafType → NetRole → Type 0
IsRoleOf nodes holds k x (number t) source = x ≡ role.Input
IsRoleOf nodes holds k x a_clock source = x ≡ role.Clock
IsRoleOf nodes holds k x a_clock (driven d) = (c : Option ℕ) × IsClockedBy x c × NamesClock d c
IsRoleOf nodes holds k x a_clock (computed d) = (c : Option ℕ) × (x ≡ role.ClockWire c) × NamesClock d c
IsRoleOf nodes holds k x (number t) (driven d) = (r : Read) × IsDrivenBy x r × (stands_for nodes r ≡ d)
IsRoleOf nodes holds k x (number t) (computed d) = (r : Read) × (x ≡ role.Wire r) × (stands_for nodes r ≡ d)
IsRoleOf nodes holds k x (number t) (register c reset d) =
    (clock : ℕ) × (own : Option Reset) × (next : Option Read) × (x ≡ role.Register (record { clock = clock; reset = own; next = next }))
    × (c ≡ leaf clock) × IsResetOf nodes own (reset_kept reset) × IsNextOf nodes k next (next_of holds reset d)
IsRoleOf nodes holds k x (number t) (reading m) = (r : ArrayRead) × (x ≡ role.Reading r) × IsReadingOf nodes r m
IsRoleOf nodes holds k x (number t) (pipe m clock under) = (p : Pipe) × (x ≡ role.Pipe p) × IsPipeOf nodes p m clock under
IsRoleOf nodes holds k x _ _ = ⊥

abbrev pub HasType : Leaf → LeafType → Type 0
HasType l (number t) = (l.signed ≡ t.signed) × (l.width ≡ t.width)
HasType l a_clock = Unit {0}

pub record IsFlatOf (c : LeafCircuit) (net : FlatNet) : Type 0 where
  pub count : length net.leaves ≡ length c.leaves
  pub types : (x : ℕ) (l : Leaf) → slice_get net.leaves x ≡ Some l → HasType l (leaf_at c.leaves x).holds
  pub roles : (x : ℕ) (l : Leaf) → slice_get net.leaves x ≡ Some l
      → IsRoleOf net.nodes (net_types (as_module c)) x l.role (leaf_at c.leaves x).holds (net_role_at (as_module c) x)
  -- each array by its number
  pub array_count : length net.arrays ≡ length c.arrays
  pub arrays : (n : ℕ) (a : Array) (m : LeafArray) → slice_get net.arrays n ≡ Some a → slice_get c.arrays n ≡ Some m → IsArrayOf net.nodes a m
  -- the same ports and state
  pub inputs : inputs net ≡ c.inputs
  pub clock_inputs : clocks net ≡ c.clock_inputs
  pub outputs : outputs net ≡ c.outputs
  pub clock_outputs : clock_outputs net ≡ c.clock_outputs
  pub words : registers net ≡ c.words
  pub array_order : net.array_order ≡ c.array_order
