-- The steps of a list are taken again and again, until each process shows the value of its right side (IEEE 1364-2005, 11.4.2).
use Rattle.std.specs.Prelude.{ℕ, zero, suc, ◌<◌, ◌≤◌, List, length}
use Rattle.fir_base.specs.Ticks.{Env, Tick}
use Rattle.ver_ast.specs.declared.tree.Verilog.{Verilog}
use Rattle.ver_ast.specs.Nets.{variables}
use Rattle.ver_ast.specs.Stores.{Store, store_of}
use Rattle.ver_ast.specs.Processes.{processes}
use Rattle.ver_ast.specs.Settled.{VSettled}
use Rattle.ver_order.specs.Steps.{steps}

-- the number of processes
abbrev pub process_count : Verilog → ℕ
process_count v = length (processes v)

-- the values after the same steps so many times
unfoldable pub repeated_steps : Verilog → Store → List ℕ → ℕ → Env → Env
repeated_steps v store round zero env = env
repeated_steps v store round (suc count) env = repeated_steps v store round count (steps v store round env)

-- the least number of turns of a round, 1 or more, after which the values are settled
pub record SettlesFirstAfter (v : Verilog) (state : List ℕ) (tick : Tick) (round : List ℕ) (env : Env) (count : ℕ) : Type 0 where
  pub some : 1 ≤ count
  pub settled : VSettled v state tick (repeated_steps v (store_of (variables v) state) round count env)
  pub least : (fewer : ℕ) → 1 ≤ fewer → fewer < count → VSettled v state tick (repeated_steps v (store_of (variables v) state) round fewer env) → ⊥
