-- The types of memories over their leaves (FIRRTL spec, "Memories"): what reads their arrays and what writes them, in a module or in a whole circuit; and which
-- memory of a module its arrays are of.
use Rattle.std.specs.Prelude.{◌≡◌, ℕ, ◌<◌, ◌≤◌, List, length, false, Some, slice_get}
use Rattle.std.specs.List.{AllByRecursion}
use Rattle.fir_base.specs.Lists.{In}
use Rattle.fir_bits.specs.declared.types.NumTy.{NumTy}
use Rattle.fir_ast.specs.declared.statements.ReadUnderWrite.{ReadUnderWrite}
use Rattle.fir_meaning.specs.LeafTypes.{LeafType, a_clock, number}
use Rattle.fir_meaning.specs.working.LeafModules.{LeafArray, LeafDeclared, LeafModule, MemoryDeclared, Need, Reading, Role, Writing, leaf_at, pipe, reading, role_at}
use Rattle.fir_leaf_types.specs.working.TypedTerms.{one_bit}

-- of leaves, by their numbers
module _ (leaves : List LeafDeclared) where
  abbrev pub held : ℕ → LeafType
  held x = (leaf_at leaves x).holds

  -- an address is a UInt that has bits
  pub record IsAddressTyped (x : ℕ) : Type 0 where
    pub within : x < length leaves
    pub width : ℕ
    pub is : held x ≡ number (record { signed = false; width = width })
    pub has_bits : 1 ≤ width

  pub record IsNeedTyped (n : Need) : Type 0 where
    pub within : n.leaf < length leaves
    pub is : held n.leaf ≡ one_bit

  abbrev pub AreNeedsTyped : List Need → Type 0
  AreNeedsTyped = AllByRecursion IsNeedTyped

  pub record IsClockTyped (x : ℕ) : Type 0 where
    pub within : x < length leaves
    pub is : held x ≡ a_clock

  -- into an array whose words are of a type
  pub record IsWritingTyped (h : LeafType) (w : Writing) : Type 0 where
    pub address : IsAddressTyped w.address
    pub needs : AreNeedsTyped w.needs
    pub clock : IsClockTyped w.clock
    pub given_within : w.given < length leaves
    pub given : held w.given ≡ h

  pub record IsArrayTyped (a : LeafArray) : Type 0 where
    pub data_type : NumTy
    pub is : a.holds ≡ number data_type
    pub narrow : data_type.width ≤ 128
    pub words : 1 ≤ a.words
    pub writings : AllByRecursion (IsWritingTyped a.holds) a.writings

  module _ (arrays : List LeafArray) where
    -- from an array whose words are of a type
    pub record IsReadingTyped (h : LeafType) (r : Reading) : Type 0 where
      pub array : LeafArray
      pub is_there : slice_get arrays r.array ≡ Some array
      pub holds : array.holds ≡ h
      pub address : IsAddressTyped r.address
      pub needs : AreNeedsTyped r.needs

    abbrev pub IsMemoryRoleTyped : LeafType → Role → Type 0
    IsMemoryRoleTyped h (reading r) = IsReadingTyped h r
    IsMemoryRoleTyped h (pipe r clock under) = IsReadingTyped h r × IsClockTyped clock
    IsMemoryRoleTyped h _ = Unit {0}

    pub record AreMemoriesTyped : Type 0 where
      pub roles : (x : ℕ) → x < length leaves → IsMemoryRoleTyped (held x) (leaf_at leaves x).role
      pub arrays_typed : (k : ℕ) (a : LeafArray) → slice_get arrays k ≡ Some a → IsArrayTyped a

-- a memory of a module: the clocks of all that reads the array of a number at edges, and of all that writes it, are those of the memory's ports
pub record IsOfMemory (m : LeafModule) (k : ℕ) (a : LeafArray) : Type 0 where
  pub memory : MemoryDeclared
  pub among : In m.memories memory
  pub declared : memory.declaration ≡ a.declaration
  pub of_writings : (w : Writing) → In a.writings w → In memory.port_clocks w.clock
  pub of_pipes :
      (x : ℕ) (r : Reading) (clock : ℕ) (under : ReadUnderWrite) → role_at m x ≡ pipe r clock under → r.array ≡ k → In memory.port_clocks clock

pub record ClocksAreOfMemories (m : LeafModule) : Type 0 where
  pub each : (k : ℕ) (a : LeafArray) → slice_get m.arrays k ≡ Some a → IsOfMemory m k a

-- arrays stand in the order of the declarations of their memories
pub record AreArraysInOrder (m : LeafModule) : Type 0 where
  pub rising : (i j : ℕ) (a b : LeafArray) → i ≤ j → slice_get m.arrays i ≡ Some a → slice_get m.arrays j ≡ Some b → a.declaration ≤ b.declaration
  pub within : (k : ℕ) (a : LeafArray) → slice_get m.arrays k ≡ Some a → a.declaration < length m.declared
