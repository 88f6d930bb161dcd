-- The values before the first tick.
use Rattle.std.specs.Prelude.{◌≡◌, ℕ, List}
use Rattle.fir_base.specs.Lists.{In}
use Rattle.fir_base.specs.Ticks.{Env}
use Rattle.ver_ast.specs.declared.tree.Verilog.{Verilog}
use Rattle.ver_ast.specs.Nets.{SizedNet, nets, clocks, plain_regs, names_of}
use Rattle.ver_ast.specs.Stores.{Store, stored}
use Rattle.ver_sim.specs.ClocksShown.{ClocksShown}

-- nets are 0, but registers without an asynchronous block show their words, and clocks their numbers
pub record HasStart (v : Verilog) (store : Store) (env : Env) : Type 0 where
  pub zeros : (n : List ℕ) → In (names_of (nets v)) n → (In (names_of (plain_regs v)) n → ⊥) → env n ≡ 0
  pub words_shown : (r : SizedNet) → In (plain_regs v) r → env r.0 ≡ stored store r.0
  pub clocks_shown : ClocksShown v env
