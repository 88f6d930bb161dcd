-- What a tree allows at a tick, and over a run.
use Rattle.std.specs.Prelude.{◌≡◌, ℕ, List, map, Some}
use Rattle.fir_base.specs.Lists.{In}
use Rattle.fir_base.specs.Ticks.{Env, Tick, TickResult, HasShape, Allowance, IsRun}
use Rattle.ver_ast.specs.declared.tree.Verilog.{Verilog}
use Rattle.ver_ast.specs.Nets.{output_nets, nets, clocks, names_of, shape}
use Rattle.ver_ast.specs.Settled.{VSettled}
use Rattle.ver_ast.specs.ClockOutputs.{clocks_shown}
use Rattle.ver_ast.specs.Next.{v_next}

-- some settled values show the outputs, and the next state follows from them; the clock outputs show what the tree says
abbrev pub VAllows : Verilog → Allowance
VAllows v state tick shown clocks next =
    (env : Env) × VSettled v state tick env × (map env (names_of (output_nets v)) ≡ shown) × (clocks_shown v ≡ clocks) × (v_next v state tick env ≡ Some next)

abbrev pub VRun : Verilog → List ℕ → List Tick → List TickResult → Type 0
VRun v = IsRun (VAllows v)

-- some values are settled, and any two agree on every net and clock
pub record VHasOne (v : Verilog) (state : List ℕ) (tick : Tick) : Type 0 where
  pub env : Env
  pub settled : VSettled v state tick env
  pub same : (e f : Env) → VSettled v state tick e → VSettled v state tick f → (n : List ℕ) (w : ℕ) → In (nets v) (n, w) → e n ≡ f n
  pub same_clocks : (e f : Env) → VSettled v state tick e → VSettled v state tick f → (n : List ℕ) → In (clocks v) n → e n ≡ f n

-- at every state and tick of the tree's shape exactly one choice of values is settled
abbrev pub VOne : Verilog → Type 0
VOne v = (state : List ℕ) (tick : Tick) → HasShape (shape v) state tick → VHasOne v state tick
