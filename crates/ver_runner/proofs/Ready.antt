-- A runner stays one that fits its trace.
use Rattle.std.proofs.Common.{◌≡◌, ℕ, ◌≤◌, List, length, Bool, if◌then◌else◌, Option, Some, None, sym, ap, ◌∙◌, subst}
use Rattle.std.specs.Prelude.{option_map}
use Rattle.fir_base.specs.Ticks.{FitEach}
use Rattle.trace_text.specs.Shapes.{plain}
use Rattle.trace_text.specs.OutputLines.{line_text}
use Rattle.trace_text.specs.RunLines.{with_widths}
use Rattle.trace_text.specs.working.Rooms.{HasRoom, TickRoom}
use Rattle.ver_ast.specs.declared.tree.Verilog.{Verilog}
use Rattle.ver_ast.specs.Nets.{shape}
use Rattle.ver_ast.specs.Valid.{Valid}
use Rattle.ver_sim.specs.working.Views.{VSimView, shown_outputs}
use Rattle.ver_runner.specs.declared.runner.VRunner.{VRunner}
use Rattle.ver_runner.specs.declared.shown.Shown.{Shown}
use Rattle.ver_runner.specs.VerilogLines.{output_widths}
use Rattle.ver_runner.specs.working.Rooms.{IsRoomFor}
use Rattle.ver_runner.specs.working.Running.{IsOrderOf, IsReady, Simulated, numbered, simulated_by}

abbrev pub with_parts : VRunner → VSimView → TickRoom → Shown → ℕ → ℕ → VRunner
with_parts r sim tick shown at ticks = record { shape = r.shape; sim = sim; order = r.order; tick = tick; shown = shown; at = at; ticks = ticks }

pub still_ready : (trace : List ℕ) (old : VRunner) → IsReady trace old → (sim : VSimView) (tick : TickRoom) (shown : Shown) (at ticks : ℕ) → sim.tree ≡ old.sim.tree
    → FitEach (shape old.sim.tree).state sim.state → HasRoom old.shape tick → IsRoomFor old.sim.tree shown → ticks ≤ at → at ≤ length trace
    → IsReady trace (with_parts old sim tick shown at ticks)
still_ready trace old h sim tick shown at ticks tree fits room line_room counted place = record {
  valid = subst Valid (sym tree) h.valid;
  of_tree = subst (λ (v : Verilog). plain old.shape ≡ shape v) (sym tree) h.of_tree;
  state_fits = subst (λ (v : Verilog). FitEach (shape v).state sim.state) (sym tree) fits;
  order_is = subst (λ (v : Verilog). IsOrderOf v old.order) (sym tree) h.order_is;
  tick_room = room;
  line_room = subst (λ (v : Verilog). IsRoomFor v shown) (sym tree) line_room;
  counted = counted;
  place = place;
}

abbrev simulated : VRunner → Verilog → Bool → Simulated
simulated old v with_state = record { tree = v; order = option_map numbered old.order; with_state = with_state; shape = old.shape }

pub same_simulated : (old : VRunner) (sim : VSimView) (tick : TickRoom) (shown : Shown) (at ticks : ℕ) → sim.tree ≡ old.sim.tree → shown.with_state ≡ old.shown.with_state
    → simulated_by (with_parts old sim tick shown at ticks) ≡ simulated_by old
same_simulated old sim tick shown at ticks tree with_state =
    ap (λ (v : Verilog). simulated old v shown.with_state) tree ∙ ap (simulated old old.sim.tree) with_state

-- the line is that of the tree from before
pub tree_line : (old new : VSimView) (with_state : Bool) (count : Option ℕ) → new.tree ≡ old.tree
    → line_text (with_widths (output_widths new.tree) (shown_outputs new)) (if with_state then Some (with_widths (shape new.tree).state new.state) else None) count
    ≡ line_text (with_widths (output_widths old.tree) (shown_outputs new)) (if with_state then Some (with_widths (shape old.tree).state new.state) else None) count
tree_line old new with_state count tree =
    ap (λ (v : Verilog). line_text (with_widths (output_widths v) (shown_outputs new)) (if with_state then Some (with_widths (shape v).state new.state) else None) count) tree
