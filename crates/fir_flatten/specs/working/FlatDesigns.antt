-- The flat net of a design: each leaf of the design's circuit has its path, its place, its type and its role, leaves of ports stand as ports, each array has its
-- path, its words and its writes, the words and the arrays of the state are those of the circuit, and the net is whole. And which designs have one.
use Rattle.std.specs.Prelude.{◌≡◌, ℕ, ◌<◌, ◌≤◌, length, Bool, true, false, ◌||◌, Option, Some, None, slice_get}
use Rattle.fir_base.specs.Lists.{Distinct}
use Rattle.fir_meaning.specs.LeafTypes.{LeafType, a_clock, has_bits, number}
use Rattle.fir_meaning.specs.working.LeafCircuits.{LeafCircuit, role_of}
use Rattle.fir_meaning.specs.LeafPaths.{path_text}
use Rattle.fir_meaning.specs.working.LeafModules.{LeafArray, Role, leaf_at, sink, source}
use Rattle.fir_leaf.specs.working.StateLaws.{IsArrayOf}
use Rattle.fir_meaning.specs.working.LeafNames.{path_of_leaf, place_of_leaf}
use Rattle.fir_meaning.specs.working.StateWalks.{is_state}
use Rattle.fir_meaning.specs.working.UndrivenLeaves.{AreDriven}
use Rattle.fir_leaf_types.specs.working.TypedModules.{IsModuleTyped, held_in}
use Rattle.fir_memory_types.specs.working.TypedMemories.{AreMemoriesTyped}
use Rattle.fir_source_faults.specs.working.NumberedTaking.{takes}
use Rattle.fir_connect.specs.working.CircuitModules.{as_module}
use Rattle.fir_connect.specs.working.NetRoles.{NetRole, computed, driven, net_role_at, net_types, register}
use Rattle.fir_connect.specs.working.NetTerms.{NetTerm, leaf}
use Rattle.fir_net.specs.declared.array.Array.{Array}
use Rattle.fir_net.specs.declared.leaf.Leaf.{Leaf}
use Rattle.fir_net.specs.declared.leaf.Role.{Role as FlatRole}
use Rattle.fir_net.specs.declared.leaf.Role.TheVariants as role
use Rattle.fir_net.specs.declared.net.FlatNet.{FlatNet}
use Rattle.fir_net.specs.working.IsNet.{IsNet, is_port}
use Rattle.fir_flat.specs.working.FlatCircuits.{IsArrayOf as IsArrayOfCircuit, IsRoleOf, NamesClock}
use Rattle.fir_flat.specs.working.WholeRoles.{IsModuleWithin}

-- a term names a leaf that holds a clock, or gives no clock
abbrev pub IsClockLeaf : LeafCircuit → Option ℕ → Type 0
IsClockLeaf c None = Unit {0}
IsClockLeaf c (Some y) = (y < length c.leaves) × (held_in (as_module c) y ≡ a_clock)

abbrev pub IsClockTerm : LeafCircuit → NetTerm → Type 0
IsClockTerm c t = (y : Option ℕ) × NamesClock t y × IsClockLeaf c y

-- what gives a leaf its clock is one leaf, or no clock; and the clock of a register is a leaf
abbrev pub IsClear : LeafCircuit → LeafType → NetRole → Type 0
IsClear c a_clock (driven t) = IsClockTerm c t
IsClear c a_clock (computed t) = IsClockTerm c t
IsClear c (number u) (register clock reset t) = (y : ℕ) × (clock ≡ leaf y) × IsClockLeaf c (Some y)
IsClear c _ _ = Unit {0}

abbrev pub IsPortRole : Role → Type 0
IsPortRole source = Unit {0}
IsPortRole sink = Unit {0}
IsPortRole _ = ⊥

-- a register that has bits
abbrev pub IsWord : LeafCircuit → ℕ → Type 0
IsWord c x = (is_state (role_of c x) ≡ true) × (has_bits (leaf_at c.leaves x).holds ≡ true)

-- a circuit of whose leaves so many are those of ports: it has types, also of its memories, and is driven, and its clocks are clear
pub record IsPlainDesign (c : LeafCircuit) (ports : ℕ) : Type 0 where
  pub typed : IsModuleTyped (as_module c)
  pub within : IsModuleWithin (as_module c)
  pub driven : AreDriven (as_module c)
  pub memories : AreMemoriesTyped c.leaves c.arrays
  pub clear : (x : ℕ) → x < length c.leaves → IsClear c (held_in (as_module c) x) (net_role_at (as_module c) x)
  pub room : ports ≤ length c.leaves
  pub port : (x : ℕ) → x < ports → IsPortRole (role_of c x)
  -- what is no port is driven in the design
  pub inner : (x : ℕ) → ports ≤ x → x < length c.leaves → role_of c x ≡ source → ⊥
  pub words : (n x : ℕ) → slice_get c.words n ≡ Some x → (x < length c.leaves) × IsWord c x
  pub all_words : (x : ℕ) → x < length c.leaves → IsWord c x → (n : ℕ) × (slice_get c.words n ≡ Some x)
  pub once : Distinct c.words
  -- the arrays of the state
  pub arrays : (n x : ℕ) → slice_get c.array_order n ≡ Some x → IsArrayOf c x
  pub all_arrays : (x : ℕ) → IsArrayOf c x → (n : ℕ) × (slice_get c.array_order n ≡ Some x)
  pub arrays_once : Distinct c.array_order

-- a clock is one bit wide
abbrev pub HasWidth : Leaf → LeafType → Type 0
HasWidth l (number t) = (l.signed ≡ t.signed) × (l.width ≡ t.width)
HasWidth l a_clock = (l.signed ≡ false) × (l.width ≡ 1)

-- whether it is a register that something drives or that has a reset
abbrev pub is_some : {A : Type 0} → Option A → Bool
is_some None = false
is_some (Some x) = true

abbrev pub takes_value : FlatRole → Bool
takes_value (role.Register r) = is_some r.reset || is_some r.next
takes_value _ = false

pub record IsFlatLeaf (c : LeafCircuit) (ports : ℕ) (net : FlatNet) (x : ℕ) (l : Leaf) : Type 0 where
  pub path : l.path ≡ path_of_leaf c x
  pub place : l.place ≡ place_of_leaf c x
  pub has_width : HasWidth l (held_in (as_module c) x)
  pub role : IsRoleOf net.nodes (net_types (as_module c)) x l.role (held_in (as_module c) x) (net_role_at (as_module c) x)
  pub takes : takes_value l.role ≡ takes (as_module c) x
  pub port : x < ports → is_port l.role ≡ true
  pub inner : ports ≤ x → is_port l.role ≡ false

pub record IsFlatArray (net : FlatNet) (a : Array) (m : LeafArray) : Type 0 where
  pub path : a.path ≡ path_text m.path
  pub is : IsArrayOfCircuit net.nodes a m

pub record IsFlatDesign (c : LeafCircuit) (ports : ℕ) (net : FlatNet) : Type 0 where
  pub count : length net.leaves ≡ length c.leaves
  pub each : (x : ℕ) (l : Leaf) → slice_get net.leaves x ≡ Some l → IsFlatLeaf c ports net x l
  pub state : net.state ≡ c.words
  pub array_count : length net.arrays ≡ length c.arrays
  pub arrays : (n : ℕ) (a : Array) (m : LeafArray) → slice_get net.arrays n ≡ Some a → slice_get c.arrays n ≡ Some m → IsFlatArray net a m
  pub array_order : net.array_order ≡ c.array_order
  pub whole : IsNet net
