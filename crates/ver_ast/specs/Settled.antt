-- The values of the nets while nothing changes (IEEE 1364-2005, 5.1, 6.1).
-- The inputs have the tick's values, the registers without an asynchronous block show the state, and each process shows the value of its right side. The
-- values are guessed whole and then tested; no order of evaluation stands in the definition.
use Rattle.std.specs.Prelude.{◌≡◌, ℕ, ◌^◌, ◌<◌, List, map, slice_get, Some, IsSome}
use Rattle.fir_base.specs.Lists.{In}
use Rattle.fir_base.specs.Ticks.{Env, Tick, HasShape}
use Rattle.ver_ast.specs.declared.tree.Verilog.{Verilog}
use Rattle.ver_ast.specs.Nets.{SizedNet, input_nets, clocks, plain_regs, variables, nets, names_of, shape}
use Rattle.ver_ast.specs.Stores.{store_of, stored}
use Rattle.ver_ast.specs.Processes.{Process, processes, target, wanted, given}

-- what no process changes has its value
pub record SourcesShown (v : Verilog) (state : List ℕ) (tick : Tick) (env : Env) : Type 0 where
  -- the state and the tick have the tree's shape
  pub shaped : HasShape (shape v) state tick
  pub input_values : map env (names_of (input_nets v)) ≡ tick.inputs
  -- a clock has its number, counted from 0 in port order
  pub clock_values : (k : ℕ) (n : List ℕ) → slice_get (clocks v) k ≡ Some n → env n ≡ k
  -- a register without an asynchronous block shows its stored word
  pub state_values : (r : SizedNet) → In (plain_regs v) r → env r.0 ≡ stored (store_of (variables v) state) r.0

-- and each process shows the value of its right side, where one without a value counts as 0
pub record Rest (v : Verilog) (state : List ℕ) (tick : Tick) (env : Env) : Type 0 where
  pub begins : SourcesShown v state tick env
  -- each net has a value of its width
  pub fits : (n : List ℕ) (w : ℕ) → In (nets v) (n, w) → env n < 2 ^ w
  pub shows : (p : Process) → In (processes v) p → env (target p) ≡ given v (store_of (variables v) state) env p

pub record VSettled (v : Verilog) (state : List ℕ) (tick : Tick) (env : Env) : Type 0 where
  pub rest : Rest v state tick env
  pub values : (p : Process) → In (processes v) p → IsSome (wanted v (store_of (variables v) state) env p)
