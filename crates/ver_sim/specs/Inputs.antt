-- Inputs that take their values.
use Rattle.std.specs.Prelude.{◌≡◌, ℕ, List, map}
use Rattle.fir_base.specs.Ticks.{Env}
use Rattle.fir_base.specs.Lists.{In}
use Rattle.ver_ast.specs.declared.tree.Verilog.{Verilog}
use Rattle.ver_ast.specs.Nets.{input_nets, names_of}

-- the inputs have these values, and all other names those that they had
pub record HaveInputs (v : Verilog) (inputs : List ℕ) (before after : Env) : Type 0 where
  pub inputs_are : map after (names_of (input_nets v)) ≡ inputs
  pub others : (n : List ℕ) → (In (names_of (input_nets v)) n → ⊥) → after n ≡ before n
