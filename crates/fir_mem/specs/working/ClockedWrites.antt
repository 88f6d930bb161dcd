-- The writes of arrays that have a clock: the drivers of their clocks end at a clock input.
use Rattle.std.specs.Prelude.{◌≡◌, ℕ, ◌≤◌, List, [], ◌∷◌, false}
use Rattle.fir_bits.specs.Values.{IsBitVector}
use Rattle.fir_bits.specs.declared.values.Num.{Num}
use Rattle.fir_net.specs.declared.array.Array.{Array}
use Rattle.fir_net.specs.declared.array.ArrayWrite.{ArrayWrite}
use Rattle.fir_net.specs.declared.net.FlatNet.{FlatNet}
use Rattle.fir_clock_root.specs.working.ClockRoots.{HasRoot}
use Rattle.fir_mem.specs.declared.clocked_writes.PortWrite.{PortWrite}
use Rattle.fir_mem.specs.declared.clocked_writes.PortWrites.{PortWrites}

-- what a write does at an edge of its clock
abbrev pub port_write : ArrayWrite → PortWrite
port_write w = record { condition = w.condition; address = w.address; given = w.given }

-- of these writes those that have a clock, in their order
pub data AreClocked (net : FlatNet) : List ArrayWrite → List PortWrite → Type 0 where
  none : AreClocked net [] []
  passed : (w : ArrayWrite) (ws : List ArrayWrite) (ps : List PortWrite) → ((n : ℕ) → HasRoot net w.clock n → ⊥) → AreClocked net ws ps → AreClocked net (w ∷ ws) ps
  kept : (n : ℕ) (w : ArrayWrite) (ws : List ArrayWrite) (ps : List PortWrite) → HasRoot net w.clock n → AreClocked net ws ps → AreClocked net (w ∷ ws) (port_write w ∷ ps)

-- a number of words as a UInt
pub record IsEnd (words : ℕ) (v : Num) : Type 0 where
  pub unsigned : v.signed ≡ false
  pub number : v.value.number ≡ words
  pub has_bits : 1 ≤ v.value.width
  pub whole : IsBitVector v.value

-- of an array, with its number of words
pub record IsClockedArray (net : FlatNet) (a : Array) (p : PortWrites) : Type 0 where
  pub end : IsEnd a.words p.end
  pub writes : AreClocked net a.writes p.writes

-- of all arrays
abbrev pub AreClockedArrays : FlatNet → List Array → List PortWrites → Type 0
AreClockedArrays net [] [] = Unit {0}
AreClockedArrays net (a ∷ more) (p ∷ ps) = IsClockedArray net a p × AreClockedArrays net more ps
AreClockedArrays net _ _ = ⊥
