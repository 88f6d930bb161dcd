-- How far a walk back, and a look at what an entry is joined to, have come.
use Rattle.std.specs.Prelude.{◌≡◌, ℕ, ◌+◌, ◌-◌, ◌<◌, List, length, Some, slice_get}
use Rattle.std.specs.declared.vec.Vec.{Vec}
use Rattle.std.specs.declared.alloc.Global.{Global}
use Rattle.fir_infer_resets.specs.declared.graph.Kind.{Kind}
use Rattle.fir_infer_resets.specs.declared.roots.Entry.{Entry}
use Rattle.fir_infer_resets.specs.declared.roots.Reached.{Reached}
use Rattle.fir_infer_resets.specs.working.ResetGraphs.{IsJoined, IsUnsigned, IsReset}
use Rattle.fir_infer_resets.specs.working.Reaching.{IsSeen, Searching}

-- the entry at that place is joined to the number
pub record IsJoinedAt (graph : List (Vec ℕ Global)) (queue : List Entry) (place node : ℕ) : Type 0 where
  pub entry : Entry
  pub at : slice_get queue place ≡ Some entry
  pub joined : IsJoined graph entry.node node

-- an entry of that number stands behind that place
pub record IsQueuedBehind (queue : List Entry) (place node : ℕ) : Type 0 where
  pub behind : ℕ
  pub less : place < behind
  pub entry : Entry
  pub at : slice_get queue behind ≡ Some entry
  pub is : entry.node ≡ node

-- a walk from a UInt through Resets, whose last is joined to the entry at that place, which is not in it
pub record WalksTo (graph : List (Vec ℕ Global)) (kinds : List Kind) (queue : List Entry) (walk : List ℕ) (place : ℕ) : Type 0 where
  pub long : 0 < length walk
  pub first : (v : ℕ) → slice_get walk 0 ≡ Some v → IsUnsigned kinds v
  pub inner : (i v : ℕ) → 0 < i → slice_get walk i ≡ Some v → IsReset kinds v
  pub behind : (i v : ℕ) → 0 < i → slice_get walk i ≡ Some v → IsQueuedBehind queue place v
  pub joined : (i x y : ℕ) → slice_get walk i ≡ Some x → slice_get walk (i + 1) ≡ Some y → IsJoined graph y x
  pub once : (i j x : ℕ) → slice_get walk i ≡ Some x → slice_get walk j ≡ Some x → i ≡ j
  pub entry : Entry
  pub at : slice_get queue place ≡ Some entry
  pub last : (v : ℕ) → slice_get walk (length walk - 1) ≡ Some v → IsJoined graph entry.node v

-- the entry at that place is of that number
pub record IsAt (queue : List Entry) (place node : ℕ) : Type 0 where
  pub entry : Entry
  pub at : slice_get queue place ≡ Some entry
  pub is : entry.node ≡ node

-- the first n that the entry at that place is joined to are seen
pub record Looking (graph : List (Vec ℕ Global)) (kinds : List Kind) (r : Reached) (place node : ℕ) (list : List ℕ) (n : ℕ) : Type 0 where
  pub searching : Searching graph kinds r place
  pub here : IsAt r.queue.items place node
  pub some : (j y : ℕ) → j < n → slice_get list j ≡ Some y → IsSeen kinds r.marks.items y
