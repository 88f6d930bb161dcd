-- How a simulation begins: with the state that the init lines give, or not at all where one of them is bad.
use Rattle.std.proofs.Common.{◌≡◌, ℕ, List, [], Bool, Option, Some, None, Err, refl, sym, ap, ◌∙◌, subst, arith}
use Rattle.std.specs.Prelude.{option_map, IfSome}
use Rattle.fir_base.specs.declared.refused.Refused.{Refused}
use Rattle.fir_base.specs.declared.refused.Refused.TheVariants.{Fault, Memory}
use Rattle.fir_base.specs.Ticks.{Env, FitEach, Shape}
use Rattle.trace_text.specs.declared.fault.TraceFault.{TraceFault}
use Rattle.trace_text.specs.RunLines.{run_text}
use Rattle.trace_text.specs.Shapes.{TraceShape, plain}
use Rattle.trace_text.specs.working.Readings.{InitsRead, ReadsInit}
use Rattle.trace_text.specs.working.Rooms.{HasRoom}
use Rattle.trace_text.specs.working.Steps.{ReadsInSteps}
use Rattle.trace_lines.specs.Runs.{last_state}
use Rattle.ver_ast.specs.declared.tree.Verilog.{Verilog}
use Rattle.ver_ast.specs.Nets.{shape, variables}
use Rattle.ver_ast.specs.Stores.{store_of}
use Rattle.ver_ast.specs.Valid.{Valid}
use Rattle.ver_order.specs.Rounds.{process_count}
use Rattle.ver_sim.specs.Start.{HasStart}
use Rattle.ver_sim.specs.working.Views.{shown_env, store}
use Rattle.ver_runner.specs.declared.runner.Order.{Order}
use Rattle.ver_runner.specs.declared.runner.VRunner.{VRunner}
use Rattle.ver_runner.specs.Orders.{round_for}
use Rattle.ver_runner.specs.VerilogLines.{counted_lines}
use Rattle.ver_runner.specs.working.Rooms.{IsRoomFor}
use Rattle.ver_runner.specs.working.Running.{Begins, HasMade, IsOrderOf, IsReady, LinesTo, Simulated, numbered, simulated_by}

-- no tick has no line
no_lines : (v : Verilog) (order : Option ℕ) (with_state : Bool) (init : List ℕ) (env : Env) → HasStart v (store_of (variables v) init) env
    → LinesTo v order with_state init [] [] env []
unfolding run_text counted_lines
no_lines v None with_state init env start = refl
no_lines v (Some number) with_state init env start = ([], record { start = env; has_start = start; counts_each = λ name. refl }, refl)

is_order_of : (v : Verilog) (count : ℕ) → count ≡ process_count v → (order : Option Order) → IfSome order (λ o. o.round.items ≡ round_for count o.number) → IsOrderOf v order
is_order_of v count same None h = tt
is_order_of v count same (Some o) h = h ∙ ap (λ k. round_for k o.number) same

abbrev of_parts : Verilog → Option ℕ → Bool → TraceShape → Simulated
of_parts v o w x = record { tree = v; order = o; with_state = w; shape = x }

-- a tree, and what was made of it
pub begun : (trace : List ℕ) (s : Simulated) (r : VRunner) (init : List ℕ) (count : ℕ) → Valid s.tree → plain s.shape ≡ shape s.tree → ReadsInSteps trace r.shape → InitsRead trace r.shape init r.at
    → FitEach (plain r.shape).state init → r.shape ≡ s.shape → r.sim.tree ≡ s.tree → r.sim.state ≡ init → HasStart s.tree (store r.sim) (shown_env r.sim)
    → count ≡ process_count r.sim.tree → option_map numbered r.order ≡ s.order → IfSome r.order (λ o. o.round.items ≡ round_for count o.number)
    → HasRoom r.shape r.tick → IsRoomFor s.tree r.shown → r.shown.with_state ≡ s.with_state → r.ticks ≡ 0
    → IsReady trace r × (simulated_by r ≡ s) × HasMade trace r []
unfolding last_state
begun trace s r init count valid of_tree steps read fits same_shape tree state start counted number order tick_room line_room with_state none = (
  record {
    valid = subst Valid (sym tree) valid;
    of_tree = plain_is;
    state_fits =
        subst (λ (ws : List ℕ). FitEach (shape r.sim.tree).state ws) (sym state)
        (subst (λ (x : Shape). FitEach x.state init) plain_is fits);
    order_is = is_order_of r.sim.tree count counted r.order order;
    tick_room = tick_room;
    line_room = subst (λ (v : Verilog). IsRoomFor v r.shown) (sym tree) line_room;
    counted = omega (arith, none);
    place = read.rest.within;
  },
  ap (λ v. of_parts v (option_map numbered r.order) r.shown.with_state r.shape) tree ∙ ap (λ o. of_parts s.tree o r.shown.with_state r.shape) number
      ∙ ap (λ w. of_parts s.tree s.order w r.shape) with_state ∙ ap (of_parts s.tree s.order s.with_state) same_shape,
  record {
    init = init;
    ticks = [];
    shown = [];
    read = steps.begins init r.at read;
    run = tt;
    state = state;
    lines =
        no_lines r.sim.tree (option_map numbered r.order) r.shown.with_state init (shown_env r.sim)
        (subst (λ (ws : List ℕ). HasStart r.sim.tree (store_of (variables r.sim.tree) ws) (shown_env r.sim)) state
        (subst (λ (v : Verilog). HasStart v (store r.sim) (shown_env r.sim)) (sym tree) start));
    count = none;
  },
)
  where
    plain_is : plain r.shape ≡ shape r.sim.tree
    plain_is = ap plain same_shape ∙ of_tree ∙ ap shape (sym tree)

pub not_begun : (trace : List ℕ) (s : Simulated) → ReadsInSteps trace s.shape → (refused : Refused TraceFault) → ReadsInit trace s.shape (Err refused)
    → Begins trace s (Err refused)
not_begun trace s steps (Fault fault) bad = steps.init_is_bad fault bad
not_begun trace s steps Memory bad = tt
