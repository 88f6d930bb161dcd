-- How far a search has come.
-- The open ones are the path, on which each has the next as a target; the done ones are the order, in which each stands behind all its targets.
use Rattle.std.specs.Prelude.{◌≡◌, ℕ, suc, ◌+◌, ◌-◌, ◌<◌, List, [], ◌∷◌, ◌++◌, length, Some, slice_get, slice_set}
use Rattle.fir_graph.specs.working.HasTarget.{HasTarget}
use Rattle.fir_graph.specs.declared.marks.Mark.{Mark}
use Rattle.fir_graph.specs.declared.marks.Mark.TheVariants.{New, Open, Done}
use Rattle.fir_graph.specs.declared.search.Search.{Search}

pub record Searched (size : ℕ) (targets : ℕ → List ℕ) (marks : List Mark) (path order : List ℕ) : Type 0 where
  pub covers : length marks ≡ size
  pub done : (i v : ℕ) → slice_get order i ≡ Some v → slice_get marks v ≡ Some Done
  pub done_in : (v : ℕ) → slice_get marks v ≡ Some Done → (i : ℕ) × (slice_get order i ≡ Some v)
  pub done_once : (i j v : ℕ) → slice_get order i ≡ Some v → slice_get order j ≡ Some v → i ≡ j
  pub after : (i v w : ℕ) → slice_get order i ≡ Some v → HasTarget targets v w → (j : ℕ) × (j < i) × (slice_get order j ≡ Some w)
  pub open_at : (i v : ℕ) → slice_get path i ≡ Some v → (k : ℕ) × (slice_get marks v ≡ Some (Open k))
  pub open_in : (v k : ℕ) → slice_get marks v ≡ Some (Open k) → (i : ℕ) × (slice_get path i ≡ Some v)
  pub open_once : (i j v : ℕ) → slice_get path i ≡ Some v → slice_get path j ≡ Some v → i ≡ j
  pub steps : (i v w : ℕ) → slice_get path i ≡ Some v → slice_get path (i + 1) ≡ Some w → HasTarget targets v w
  pub seen : (v w k j : ℕ) → slice_get marks v ≡ Some (Open k) → j < k → slice_get (targets v) j ≡ Some w → slice_get marks w ≡ Some Done

-- what a search knows
abbrev pub Knows : ℕ → (ℕ → List ℕ) → Search → Type 0
Knows size targets s = Searched size targets s.marks s.path.items s.order.items

-- between two roots
pub record IsIdle (size : ℕ) (targets : ℕ → List ℕ) (s : Search) : Type 0 where
  pub knows : Knows size targets s
  pub idle : s.path.items ≡ []

-- the last of the path
pub record IsLast (path : List ℕ) (top : ℕ) : Type 0 where
  pub place : ℕ
  pub at : slice_get path place ≡ Some top
  pub last : place + 1 ≡ length path

-- it is open or done
abbrev pub IsMet : List Mark → ℕ → Type 0
IsMet marks v = slice_get marks v ≡ Some New → ⊥

-- the steps that are left at a vertex with n targets
abbrev pub steps_at : ℕ → Mark → ℕ
steps_at n New = n + 2
steps_at n (Open k) = (n - k) + 1
steps_at n Done = 0

-- at marks from the number k on
abbrev pub steps_from : (ℕ → List ℕ) → ℕ → List Mark → ℕ
steps_from targets k [] = 0
steps_from targets k (m ∷ ms) = steps_at (length (targets k)) m + steps_from targets (suc k) ms

-- each step takes one of these
unfoldable pub steps_left : (ℕ → List ℕ) → List Mark → ℕ
steps_left targets marks = steps_from targets 0 marks

-- one step was taken
pub record Stepped (size : ℕ) (targets : ℕ → List ℕ) (old new : Search) : Type 0 where
  pub knows : Knows size targets new
  pub fewer : steps_left targets new.marks < steps_left targets old.marks
  pub met : (v : ℕ) → IsMet old.marks v → IsMet new.marks v

-- the root is done, and what was met stays so
pub record Reached (size : ℕ) (targets : ℕ → List ℕ) (old new : Search) (root : ℕ) : Type 0 where
  pub idle : IsIdle size targets new
  pub reached : IsMet new.marks root
  pub met : (v : ℕ) → IsMet old.marks v → IsMet new.marks v

-- one that was new is the last of the path
pub record Entered (old new : Search) (v : ℕ) : Type 0 where
  pub marks : new.marks ≡ slice_set old.marks v (Open 0)
  pub path : new.path.items ≡ old.path.items ++ v ∷ []
  pub order : new.order ≡ old.order

-- the last of the path is the last of the order
pub record Finished (old new : Search) (top : ℕ) : Type 0 where
  pub marks : new.marks ≡ slice_set old.marks top Done
  pub path : old.path.items ≡ new.path.items ++ top ∷ []
  pub order : new.order.items ≡ old.order.items ++ top ∷ []
