-- Tasks of processes, and the first process that is not settled.
use Rattle.std.specs.Prelude.{◌≡◌, ℕ, ◌<◌, List, length, slice_get, Some}
use Rattle.fir_base.specs.Lists.{In}
use Rattle.fir_base.specs.Ticks.{Env, FitEach}
use Rattle.ver_ast.specs.declared.tree.Verilog.{Verilog}
use Rattle.ver_ast.specs.Nets.{variables, shape}
use Rattle.ver_ast.specs.Stores.{Store, store_of}
use Rattle.ver_ast.specs.Processes.{Process, processes, process_reads, target, wanted}
use Rattle.ver_order.specs.working.Laws.{FitNets}
use Rattle.ver_sim.specs.declared.task.Task.{Task}
use Rattle.ver_sim.specs.declared.unsettled.NotYet.{NotYet}
use Rattle.ver_sim.specs.working.Valued.{place_among, valued, env_of, IsPlaceAmong}
use Rattle.ver_sim.specs.working.Works.{work_number, work_places}

-- the task has the process's target, computes its right side wherever each word and each net has a value of its width, and reads no other nets
pub record IsTaskOf (v : Verilog) (t : Task) (p : Process) : Type 0 where
  pub targets : t.target ≡ place_among (valued v) (target p)
  pub computes : (state values : List ℕ) → FitEach (shape v).state state → FitNets v (env_of v values)
      → work_number t.work state values ≡ wanted v (store_of (variables v) state) (env_of v values) p
  pub reads : (q : ℕ) → In (work_places t.work) q → IsPlaceAmong v (process_reads p) q

-- a task for each process
pub record AreTasks (v : Verilog) (tasks : List Task) : Type 0 where
  pub as_many : length tasks ≡ length (processes v)
  pub each : (k : ℕ) (t : Task) (p : Process) → slice_get tasks k ≡ Some t → slice_get (processes v) k ≡ Some p → IsTaskOf v t p

-- the process with the least number that does not show the value of its right side
pub record IsNotYet (v : Verilog) (store : Store) (env : Env) (n : NotYet) : Type 0 where
  pub process : Process
  pub there : slice_get (processes v) n.process ≡ Some process
  pub is_shown : n.shown ≡ env (target process)
  pub is_wanted : n.wanted ≡ wanted v store env process
  pub differ : n.wanted ≡ Some n.shown → ⊥
  pub before : (k : ℕ) (p : Process) → k < n.process → slice_get (processes v) k ≡ Some p → wanted v store env p ≡ Some (env (target p))
