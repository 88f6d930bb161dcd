-- Which nets have no dead logic: each leaf and each node is a port, a register or a pipe, or is read by one of these, by what writes an array, or by what is so read.
-- What is read counts whether it is read at once or at the edge of a clock, and a clock's leaf counts as read by what it clocks.
use Rattle.std.specs.Prelude.{◌≡◌, ℕ, List, [], ◌∷◌, ◌++◌, length, slice_get, true, ◌||◌, Option, Some, None}
use Rattle.fir_base.specs.Lists.{In}
use Rattle.fir_net.specs.declared.array.Array.{Array}
use Rattle.fir_net.specs.declared.array.ArrayRead.{ArrayRead}
use Rattle.fir_net.specs.declared.array.ArrayWrite.{ArrayWrite}
use Rattle.fir_net.specs.declared.reads.Read.{Read}
use Rattle.fir_net.specs.declared.reads.Read.TheVariants as read
use Rattle.fir_net.specs.declared.leaf.Reset.{Reset}
use Rattle.fir_net.specs.declared.leaf.Role.{Role}
use Rattle.fir_net.specs.declared.leaf.Role.TheVariants as role
use Rattle.fir_net.specs.declared.leaf.Leaf.{Leaf}
use Rattle.fir_net.specs.declared.net.FlatNet.{FlatNet}
use Rattle.fir_net.specs.working.Dependence.{IsOf, clock_reads, node_reads}
use Rattle.fir_net.specs.working.IsNet.{is_port, is_state}

abbrev pub optional_read : Option Read → List Read
optional_read None = []
optional_read (Some r) = r ∷ []

abbrev pub whole_reset_reads : Option Reset → List Read
whole_reset_reads None = []
whole_reset_reads (Some r) = r.condition ∷ r.init ∷ []

abbrev pub array_reads : ArrayRead → List Read
array_reads r = r.address ∷ r.enable ∷ []

-- what gives a leaf its value, now or at an edge
abbrev pub whole_role_reads : Role → List Read
whole_role_reads role.Input = []
whole_role_reads role.Clock = []
whole_role_reads (role.Output r) = r ∷ []
whole_role_reads (role.Wire r) = r ∷ []
whole_role_reads (role.Register r) = read.Leaf r.clock ∷ whole_reset_reads r.reset ++ optional_read r.next
whole_role_reads (role.Reading r) = array_reads r
whole_role_reads (role.Pipe p) = read.Leaf p.clock ∷ array_reads p.read
whole_role_reads (role.ClockOutput c) = clock_reads c
whole_role_reads (role.ClockWire c) = clock_reads c

abbrev pub whole_leaf_reads : Option Leaf → List Read
whole_leaf_reads None = []
whole_leaf_reads (Some l) = whole_role_reads l.role

abbrev pub whole_reads : FlatNet → Read → List Read
whole_reads net (read.Leaf k) = whole_leaf_reads (slice_get net.leaves k)
whole_reads net (read.Node k) = node_reads (slice_get net.nodes k)

abbrev pub write_reads : ArrayWrite → List Read
write_reads w = read.Leaf w.clock ∷ w.condition ∷ w.address ∷ w.given ∷ []

pub data IsNeeded (net : FlatNet) : Read → Type 0 where
  -- a port, a register or a pipe
  itself : (k : ℕ) (l : Leaf) → slice_get net.leaves k ≡ Some l → (is_port l.role || is_state l.role) ≡ true → IsNeeded net (read.Leaf k)
  of_write : (a : Array) (w : ArrayWrite) (r : Read) → In net.arrays a → In a.writes w → In (write_reads w) r → IsNeeded net r
  of_needed : (v r : Read) → IsNeeded net v → In (whole_reads net v) r → IsNeeded net r

pub record IsLive (net : FlatNet) : Type 0 where
  pub each : (v : Read) → IsOf net v → IsNeeded net v

-- no port, register, pipe or array is missing
pub record KeepsState (net other : FlatNet) : Type 0 where
  pub leaves :
      (k : ℕ) (l : Leaf) → slice_get net.leaves k ≡ Some l → (is_port l.role || is_state l.role) ≡ true
      → (j : ℕ) × (m : Leaf) × (slice_get other.leaves j ≡ Some m) × (m.path ≡ l.path) × ((is_port m.role || is_state m.role) ≡ true)
  pub arrays : length other.arrays ≡ length net.arrays
