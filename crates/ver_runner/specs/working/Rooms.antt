-- Room for the values of a line.
use Rattle.std.specs.Prelude.{◌≡◌, ℕ, List, map, true}
use Rattle.fir_base.specs.Ticks.{FitEach}
use Rattle.fir_bits.specs.Values.{BitVector}
use Rattle.ver_ast.specs.declared.tree.Verilog.{Verilog}
use Rattle.ver_ast.specs.Nets.{shape}
use Rattle.ver_sim.specs.working.Views.{VSimView, shown_outputs}
use Rattle.ver_runner.specs.declared.shown.Shown.{Shown}
use Rattle.ver_runner.specs.VerilogLines.{output_widths}

abbrev pub widths : List BitVector → List ℕ
widths = map (λ b. b.width)

-- for the outputs of a tree, and for its state where that is shown
pub record IsRoomFor (v : Verilog) (r : Shown) : Type 0 where
  pub outputs : widths r.outputs.items ≡ output_widths v
  pub state : r.with_state ≡ true → widths r.state.items ≡ (shape v).state

-- each number is one of its width
pub record FitLine (s : VSimView) : Type 0 where
  pub outputs : FitEach (output_widths s.tree) (shown_outputs s)
  pub state : FitEach (shape s.tree).state s.state
