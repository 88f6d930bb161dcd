-- How far a search for what is reached has come: marks, and a queue of what is marked, in which each entry has the place of the one that it was reached from.
use Rattle.std.specs.Prelude.{◌≡◌, ℕ, ◌+◌, ◌<◌, ◌≤◌, ◌⊎◌, List, [], ◌∷◌, ◌++◌, length, true, false, Bool, Some, slice_get, slice_set}
use Rattle.std.specs.declared.vec.Vec.{Vec}
use Rattle.std.specs.declared.alloc.Global.{Global}
use Rattle.fir_infer_resets.specs.declared.graph.Kind.{Kind}
use Rattle.fir_infer_resets.specs.declared.roots.Entry.{Entry}
use Rattle.fir_infer_resets.specs.declared.roots.Reached.{Reached}
use Rattle.fir_infer_resets.specs.working.ResetGraphs.{IsJoined, IsUnsigned, IsAsynchronous, IsReset}

abbrev pub IsMarked : List Bool → ℕ → Type 0
IsMarked marks v = slice_get marks v ≡ Some true

-- an entry of that number stands in the queue
pub record IsQueued (queue : List Entry) (node : ℕ) : Type 0 where
  pub place : ℕ
  pub entry : Entry
  pub at : slice_get queue place ≡ Some entry
  pub is : entry.node ≡ node

-- a Reset that was reached from an entry before that place
pub record ComesFrom (graph : List (Vec ℕ Global)) (kinds : List Kind) (queue : List Entry) (place : ℕ) (e : Entry) : Type 0 where
  pub kind : IsReset kinds e.node
  pub less : e.from < place
  pub parent : Entry
  pub at : slice_get queue e.from ≡ Some parent
  pub joined : IsJoined graph parent.node e.node

abbrev pub IsRootOr : List (Vec ℕ Global) → List Kind → List Entry → ℕ → Entry → Type 0
IsRootOr graph kinds queue place e = IsAsynchronous kinds e.node ⊎ ComesFrom graph kinds queue place e

-- how many are not marked
abbrev pub unmarked : List Bool → ℕ
unmarked [] = 0
unmarked (true ∷ ms) = unmarked ms
unmarked (false ∷ ms) = 1 + unmarked ms

-- the queue has what is marked, no other, and none twice
pub record IsQueueOf (graph : List (Vec ℕ Global)) (kinds : List Kind) (marks : List Bool) (queue : List Entry) : Type 0 where
  pub long : length marks ≡ length kinds
  pub counted : unmarked marks + length queue ≡ length kinds
  pub comes : (k : ℕ) (e : Entry) → slice_get queue k ≡ Some e → IsRootOr graph kinds queue k e
  pub in_queue : (v : ℕ) → IsMarked marks v → IsQueued queue v
  pub in_marks : (k : ℕ) (e : Entry) → slice_get queue k ≡ Some e → IsMarked marks e.node
  pub once : (i j : ℕ) (e f : Entry) → slice_get queue i ≡ Some e → slice_get queue j ≡ Some f → e.node ≡ f.node → i ≡ j

abbrev pub Knows : List (Vec ℕ Global) → List Kind → Reached → Type 0
Knows graph kinds r = IsQueueOf graph kinds r.marks.items r.queue.items

-- one is marked, and stands at the end of the queue
pub record Enters (old new : Reached) (node from : ℕ) : Type 0 where
  pub marks : new.marks.items ≡ slice_set old.marks.items node true
  pub queue : new.queue.items ≡ old.queue.items ++ record { node = node; from = from } ∷ []

-- of the numbers below n the AsyncResets are marked, and none from n on
pub record Roots (kinds : List Kind) (r : Reached) (n : ℕ) : Type 0 where
  pub knows : (graph : List (Vec ℕ Global)) → Knows graph kinds r
  pub marked : (v : ℕ) → v < n → IsAsynchronous kinds v → IsMarked r.marks.items v
  pub unmarked_on : (v : ℕ) → n ≤ v → v < length kinds → slice_get r.marks.items v ≡ Some false

-- it is marked if it is a Reset, and it is no UInt
pub record IsSeen (kinds : List Kind) (marks : List Bool) (v : ℕ) : Type 0 where
  pub reset : IsReset kinds v → IsMarked marks v
  pub unsigned : IsUnsigned kinds v → ⊥

-- all AsyncResets are marked, and what the entries before that place are joined to is seen
pub record Searching (graph : List (Vec ℕ Global)) (kinds : List Kind) (r : Reached) (place : ℕ) : Type 0 where
  pub knows : Knows graph kinds r
  pub roots : (v : ℕ) → IsAsynchronous kinds v → IsMarked r.marks.items v
  pub seen : (k y : ℕ) (e : Entry) → k < place → slice_get r.queue.items k ≡ Some e → IsJoined graph e.node y → IsSeen kinds r.marks.items y
