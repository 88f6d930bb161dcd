-- Tasks that are taken one by one.
use Rattle.std.specs.Prelude.{◌≡◌, ℕ, ◌<◌, List, [], ◌∷◌, slice_get, slice_set, slice_index, Option, Some, None, unwrap_or}
use Rattle.ver_sim.specs.declared.task.Task.{Task}
use Rattle.ver_sim.specs.declared.unsettled.NotYet.{NotYet}
use Rattle.ver_sim.specs.working.Works.{work_number}

abbrev pub turn_of : List ℕ → List ℕ → Option Task → List ℕ
turn_of state values None = values
turn_of state values (Some t) = slice_set values t.target (unwrap_or (work_number t.work state values) 0)

-- of the task of that number
abbrev pub turn : List Task → List ℕ → List ℕ → ℕ → List ℕ
turn tasks state values k = turn_of state values (slice_get tasks k)

unfoldable pub turns : List Task → List ℕ → List ℕ → List ℕ → List ℕ
turns tasks state [] values = values
turns tasks state (k ∷ ks) values = turns tasks state ks (turn tasks state values k)

-- the first n tasks show their values
abbrev pub ShowFirst : List Task → List ℕ → List ℕ → ℕ → Type 0
ShowFirst tasks state values n = (k : ℕ) (t : Task) → k < n → slice_get tasks k ≡ Some t → work_number t.work state values ≡ Some (slice_index values t.target)

-- the first task that does not show its value
pub record IsFirstUnsettled (tasks : List Task) (state values : List ℕ) (n : NotYet) : Type 0 where
  pub task : Task
  pub there : slice_get tasks n.process ≡ Some task
  pub before : ShowFirst tasks state values n.process
  pub is_shown : n.shown ≡ slice_index values task.target
  pub is_wanted : n.wanted ≡ work_number task.work state values
  pub differ : n.wanted ≡ Some n.shown → ⊥
