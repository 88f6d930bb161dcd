-- How far a search from inits has come.
-- Each leaf or node that was met is an init, or one that was met before it hangs on it. None of them is an input or a leaf that shows state, and all on which one
-- hangs are met too, but for those that are still to be looked at.
use Rattle.std.specs.Prelude.{◌≡◌, ℕ, suc, ◌+◌, ◌*◌, ◌<◌, List, [], ◌∷◌, ◌++◌, ◌⊎◌, length, slice_get, Bool, true, false, Option, Some, None}
use Rattle.fir_base.specs.Lists.{In}
use Rattle.fir_net.specs.declared.leaf.Leaf.{Leaf}
use Rattle.fir_net.specs.declared.net.FlatNet.{FlatNet}
use Rattle.fir_net.specs.declared.reads.Read.{Read}
use Rattle.fir_net.specs.declared.reads.Read.TheVariants as read
use Rattle.fir_net.specs.working.Dependence.{IsOf, Reads}
use Rattle.fir_net.specs.working.IsWritable.{is_input_or_state}
use Rattle.fir_work.specs.working.Numbers.{place}
use Rattle.fir_inits.specs.declared.search.Met.{Met}
use Rattle.fir_inits.specs.declared.search.Origin.{Origin}
use Rattle.fir_inits.specs.declared.search.Origin.TheVariants as origin
use Rattle.fir_inits.specs.declared.search.Search.{Search}
use Rattle.fir_inits.specs.working.AsyncInits.{HasInit}

abbrev pub leaf_ends : Option Leaf → Bool
leaf_ends None = false
leaf_ends (Some l) = is_input_or_state l.role

-- whether it is an input or a leaf that shows state
abbrev pub ends : FlatNet → Read → Bool
ends net (read.Leaf k) = leaf_ends (slice_get net.leaves k)
ends net (read.Node k) = false

-- it is one of those that were met
pub record IsMet (met : List Met) (v : Read) : Type 0 where
  pub number : ℕ
  pub entry : Met
  pub at : slice_get met number ≡ Some entry
  pub is : entry.read ≡ v

-- how the search came to the one of that number
abbrev pub ComesFrom : FlatNet → List Met → ℕ → Read → Origin → Type 0
ComesFrom net met i v (origin.Init k) = HasInit net k v
ComesFrom net met i v (origin.Met j) = (j < i) × (m : Met) × (slice_get met j ≡ Some m) × Reads net m.read v

-- they are met, none twice, and marked, and no others are
pub record AreMet (net : FlatNet) (marks : List Bool) (met : List Met) : Type 0 where
  pub covers : length marks ≡ length net.leaves + length net.nodes
  pub of : (i : ℕ) (m : Met) → slice_get met i ≡ Some m → IsOf net m.read
  pub marked : (i : ℕ) (m : Met) → slice_get met i ≡ Some m → slice_get marks (place net m.read) ≡ Some true
  pub only : (v : Read) → IsOf net v → slice_get marks (place net v) ≡ Some true → IsMet met v
  pub once : (i j : ℕ) (m n : Met) → slice_get met i ≡ Some m → slice_get met j ≡ Some n → m.read ≡ n.read → i ≡ j
  pub comes : (i : ℕ) (m : Met) → slice_get met i ≡ Some m → ComesFrom net met i m.read m.origin

-- all on which it hangs are met
pub record IsDone (net : FlatNet) (met : List Met) (v : Read) : Type 0 where
  pub each : (w : Read) → Reads net v w → IsMet met w

-- the one of that number is to be looked at
abbrev pub Waits : Search → ℕ → Type 0
Waits s i = In s.near.items i ⊎ In s.far.items i

-- what a search knows that looks at the one of that number, or at none
pub record Knows (net : FlatNet) (open_ : Option ℕ) (s : Search) : Type 0 where
  pub met : AreMet net s.marks.items s.met.items
  pub ahead : (i : ℕ) (m : Met) → slice_get s.met.items i ≡ Some m → ends net m.read ≡ false
  pub waiting : (i : ℕ) → Waits s i → i < length s.met.items
  pub done : (i : ℕ) (m : Met) → slice_get s.met.items i ≡ Some m → (open_ ≡ Some i) ⊎ (Waits s i ⊎ IsDone net s.met.items m.read)

-- between two inits
pub record IsIdle (net : FlatNet) (s : Search) : Type 0 where
  pub knows : Knows net None s
  pub near : s.near.items ≡ []
  pub far : s.far.items ≡ []

-- the last that was met is an input or a leaf that shows state
pub record HasEnd (net : FlatNet) (s : Search) : Type 0 where
  pub met : AreMet net s.marks.items s.met.items
  pub before : List Met
  pub last : Met
  pub is : s.met.items ≡ before ++ last ∷ []
  pub ends : ends net last.read ≡ true

-- what was met stays so
pub record Keeps (old new : Search) : Type 0 where
  pub met : (v : Read) → IsMet old.met.items v → IsMet new.met.items v

-- how many are not met
abbrev pub unmarked : List Bool → ℕ
unmarked [] = 0
unmarked (true ∷ marks) = unmarked marks
unmarked (false ∷ marks) = suc (unmarked marks)

-- each look takes one of these
unfoldable pub looks_left : Search → ℕ
looks_left s = 2 * unmarked s.marks.items + (length s.near.items + length s.far.items)
