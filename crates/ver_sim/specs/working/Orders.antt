-- Tasks that read from others, and orders in which each stands behind those that it reads from.
use Rattle.std.specs.Prelude.{◌≡◌, ℕ, ◌<◌, List, [], length, flat_map, slice_get, slice_index_or, Option, Some, None, unwrap_or}
use Rattle.std.specs.Option.{option_to_list}
use Rattle.fir_base.specs.Lists.{In, Distinct}
use Rattle.fir_graph.specs.working.HasTarget.{HasTarget}
use Rattle.ver_sim.specs.declared.task.Task.{Task}
use Rattle.ver_sim.specs.working.Works.{work_places}

-- the task of the first number reads what that of the second drives
pub record ReadsFrom (tasks : List Task) (k j : ℕ) : Type 0 where
  pub reader : Task
  pub is_reader : slice_get tasks k ≡ Some reader
  pub driver : Task
  pub is_driver : slice_get tasks j ≡ Some driver
  pub reads : In (work_places reader.work) driver.target

-- the numbers of the tasks, each once, behind those of the tasks that it reads from
pub record IsTaskOrder (tasks : List Task) (order : List ℕ) : Type 0 where
  pub all : (k : ℕ) → k < length tasks → In order k
  pub once : Distinct order
  pub after : (i k j : ℕ) → slice_get order i ≡ Some k → ReadsFrom tasks k j → (h : ℕ) × (h < i) × (slice_get order h ≡ Some j)

-- there are no tasks each of which reads from one of them
abbrev pub HasNoCircle : List Task → Type 0
HasNoCircle tasks = (circle : List ℕ) (k : ℕ) → In circle k → ((i : ℕ) → In circle i → (j : ℕ) × In circle j × ReadsFrom tasks i j) → ⊥

-- each task has a target of its own, below a number
pub record HaveTargets (tasks : List Task) (places : ℕ) : Type 0 where
  pub within : (k : ℕ) (t : Task) → slice_get tasks k ≡ Some t → t.target < places
  pub once : (i j : ℕ) (t u : Task) → slice_get tasks i ≡ Some t → slice_get tasks j ≡ Some u → t.target ≡ u.target → i ≡ j

-- the number of the task that drives a place, if one does
abbrev pub driver_at : List (Option ℕ) → ℕ → Option ℕ
driver_at drivers place = slice_index_or drivers place None

abbrev pub drivers_of : List (Option ℕ) → List ℕ → List ℕ
drivers_of drivers = flat_map (λ q. option_to_list (driver_at drivers q))

-- the tasks below a number with their targets
pub record AreDrivers (tasks : List Task) (count : ℕ) (drivers : List (Option ℕ)) : Type 0 where
  pub found : (q k : ℕ) → driver_at drivers q ≡ Some k → (t : Task) × (slice_get tasks k ≡ Some t) × (t.target ≡ q)
  pub full : (k : ℕ) (t : Task) → k < count → slice_get tasks k ≡ Some t → driver_at drivers t.target ≡ Some k

-- the tasks that one of them reads from
abbrev pub sources_of : List (List ℕ) → ℕ → List ℕ
sources_of graph k = unwrap_or (slice_get graph k) []

pub record IsTaskGraph (tasks : List Task) (graph : List (List ℕ)) : Type 0 where
  pub sized : length graph ≡ length tasks
  pub right : (k j : ℕ) → HasTarget (sources_of graph) k j → ReadsFrom tasks k j
  pub full : (k j : ℕ) → ReadsFrom tasks k j → HasTarget (sources_of graph) k j
