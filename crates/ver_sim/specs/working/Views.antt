-- What a simulator of a tree shows: the tree, the words of its state, and the values of its nets.
use Rattle.std.specs.Prelude.{List, ℕ, map}
use Rattle.fir_base.specs.Ticks.{Env, Tick, FitEach, AreClocks}
use Rattle.ver_ast.specs.declared.tree.Verilog.{Verilog}
use Rattle.ver_ast.specs.Nets.{shape, variables, output_nets, names_of}
use Rattle.ver_ast.specs.Stores.{Store, store_of}
use Rattle.ver_sim.specs.working.Valued.{env_of}

-- the values of the nets stand in the order of their declarations, and behind them the numbers of the clocks
pub record VSimView : Type 0 where
  pub tree : Verilog
  pub state : List ℕ
  pub values : List ℕ

-- the value of each name
abbrev pub shown_env : VSimView → Env
shown_env s = env_of s.tree s.values

-- the values of the outputs of bits, in port order
abbrev pub shown_outputs : VSimView → List ℕ
shown_outputs s = map (shown_env s) (names_of (output_nets s.tree))

-- the words of each name
abbrev pub store : VSimView → Store
store s = store_of (variables s.tree) s.state

-- a tick of the tree's shape
pub record IsTickOf (v : Verilog) (tick : Tick) : Type 0 where
  pub inputs_fit : FitEach (shape v).inputs tick.inputs
  pub clocks_rise : AreClocks 0 (shape v).clocks tick.clocks
