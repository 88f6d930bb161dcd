-- Which marks are those of what is needed.
use Rattle.std.specs.Prelude.{◌≡◌, ℕ, ◌+◌, List, [], ◌∷◌, ◌++◌, length, slice_get, if◌then◌else◌, Bool, true, Some, ◌||◌}
use Rattle.fir_base.specs.Lists.{In}
use Rattle.fir_net.specs.declared.array.Array.{Array}
use Rattle.fir_net.specs.declared.array.ArrayWrite.{ArrayWrite}
use Rattle.fir_net.specs.declared.leaf.Leaf.{Leaf}
use Rattle.fir_net.specs.declared.leaf.Role.{Role}
use Rattle.fir_net.specs.declared.net.FlatNet.{FlatNet}
use Rattle.fir_net.specs.declared.reads.Read.{Read}
use Rattle.fir_net.specs.declared.reads.Read.TheVariants as read
use Rattle.fir_net.specs.working.IsNet.{is_port, is_state}
use Rattle.fir_drop_dead.specs.working.IsLive.{IsNeeded, whole_reads, whole_role_reads, write_reads}
use Rattle.fir_drop_dead.specs.working.Marks.{Marked, has}

-- a port, a register or a pipe
abbrev pub is_root : Role → Bool
is_root r = is_port r || is_state r

-- those among leaves that are numbered from k on, and what they read
abbrev pub root_of : ℕ → Leaf → List Read
root_of k l = if is_root l.role then read.Leaf k ∷ whole_role_reads l.role else []

abbrev pub root_reads : ℕ → List Leaf → List Read
root_reads k [] = []
root_reads k (l ∷ ls) = root_of k l ++ root_reads (k + 1) ls

-- what is read by what writes arrays
abbrev pub writes_reads : List ArrayWrite → List Read
writes_reads [] = []
writes_reads (w ∷ ws) = write_reads w ++ writes_reads ws

abbrev pub arrays_reads : List Array → List Read
arrays_reads [] = []
arrays_reads (a ∷ bs) = writes_reads a.writes ++ arrays_reads bs

-- each of these is marked
abbrev pub AreMarked : Marked → List Read → Type 0
AreMarked m rs = (r : Read) → In rs r → has m r ≡ true

-- what is marked is needed, and what is needed is marked
pub record AreNeeded (net : FlatNet) (m : Marked) : Type 0 where
  pub leaves : length m.leaves ≡ length net.leaves
  pub nodes : length m.nodes ≡ length net.nodes
  pub needed : (v : Read) → has m v ≡ true → IsNeeded net v
  pub roots : (k : ℕ) (l : Leaf) → slice_get net.leaves k ≡ Some l → is_root l.role ≡ true → has m (read.Leaf k) ≡ true
  pub writes : (a : Array) (w : ArrayWrite) → In net.arrays a → In a.writes w → AreMarked m (write_reads w)
  pub closed : (v : Read) → has m v ≡ true → AreMarked m (whole_reads net v)
