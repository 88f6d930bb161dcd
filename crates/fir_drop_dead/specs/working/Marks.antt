-- Marks of a net's leaves and nodes.
use Rattle.std.specs.Prelude.{ℕ, List, [], ◌∷◌, length, replicate, slice_get, slice_set, nat_lt, if◌then◌else◌, Bool, true, false, unwrap_or}
use Rattle.fir_net.specs.declared.reads.Read.{Read}
use Rattle.fir_net.specs.declared.reads.Read.TheVariants as read

pub record Marked : Type 0 where
  pub leaves : List Bool
  pub nodes : List Bool

abbrev pub no_marks : ℕ → ℕ → Marked
no_marks leaves nodes = record { leaves = replicate leaves false; nodes = replicate nodes false }

-- what is not there has no mark
abbrev pub mark_at : List Bool → ℕ → Bool
mark_at marks k = unwrap_or (slice_get marks k) false

abbrev pub has : Marked → Read → Bool
has m (read.Leaf k) = mark_at m.leaves k
has m (read.Node k) = mark_at m.nodes k

abbrev pub set_mark : ℕ → List Bool → List Bool
set_mark k marks = if nat_lt k (length marks) then slice_set marks k true else marks

-- with a mark of a leaf or node
abbrev pub marked : Read → Marked → Marked
marked (read.Leaf k) m = record { leaves = set_mark k m.leaves; nodes = m.nodes }
marked (read.Node k) m = record { leaves = m.leaves; nodes = set_mark k m.nodes }

abbrev pub marked_all : List Read → Marked → Marked
marked_all [] m = m
marked_all (r ∷ rs) m = marked_all rs (marked r m)
