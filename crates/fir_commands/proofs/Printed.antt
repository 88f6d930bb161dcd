-- What a net prints, its circuit prints.
use Rattle.std.proofs.Common.{◌≡◌, ℕ, List, Bool, ap, ◌∙◌}
use Rattle.fir_base.specs.Ticks.{Tick, TickResult, IsRun}
use Rattle.fir_ast.specs.Circuits.{CircuitTree}
use Rattle.fir_meaning.specs.Elaborated.{IsSourceOf}
use Rattle.fir_meaning.specs.SourceAllows.{Allows}
use Rattle.fir_meaning.specs.SourceDesigns.{SourceDesign}
use Rattle.fir_meaning.specs.SourceOne.{One}
use Rattle.fir_net.specs.declared.net.FlatNet.{FlatNet}
use Rattle.fir_net.specs.working.Settled.{shape as net_shape}
use Rattle.fir_net.specs.working.Allows.{Allows as NetAllows}
use Rattle.fir_net.specs.working.One.{One as NetOne}
use Rattle.fir_flatten.specs.working.FlattensTo.{FlattensTo, MeansSource}
use Rattle.fir_tick.specs.working.Views.{output_widths as net_widths}
use Rattle.trace_text.specs.RunLines.{run_text}
use Rattle.trace_lines.specs.Saying.{Saying}
use Rattle.fir_outcome.specs.Simulations.{Prints, PrintsRun}
use Rattle.fir_outcome.specs.Sources.{output_widths}
use Rattle.fir_runner.specs.working.Running.{Ran, SimulatedNet}
use Rattle.fir_compile.specs.working.Made.{IsMadeOf}
use Rattle.fir_compile.proofs.AllRuns.{one_run, same_runs}
use Rattle.fir_compile.proofs.SourceRuns.{from_net, source_allows_one, source_one}

-- a run of the net is the one run of the source of the circuit that it was made of
prints_run : (c : CircuitTree) (net : FlatNet) (flat : FlattensTo c net) (one : NetOne net) (with_state : Bool) (init : List ℕ) (ticks : List Tick)
    (shown : List TickResult) (printed : List ℕ) → IsRun (NetAllows net) init ticks shown
    → printed ≡ run_text (net_widths net) (net_shape net).state with_state shown → (t : SourceDesign) → IsSourceOf c t
    → PrintsRun t with_state init ticks shown printed
prints_run c net flat one with_state init ticks shown printed ran lines t is =
    let means : MeansSource t net = flat.each t is in
    let run : IsRun (Allows t) init ticks shown =
    same_runs (NetAllows net) (Allows t) (from_net c net flat one t is) init ticks shown ran in
    let one_source : One t = source_one c net flat one t is in
    record {
      one = one_source;
      run = run;
      only_run = λ others other. one_run (Allows t) (source_allows_one t one_source) init ticks shown others run other;
      lines =
          lines
          ∙ ap (λ (ws : List ℕ). run_text ws (net_shape net).state with_state shown) means.output_widths
          ∙ ap (λ x. run_text (output_widths t) x.state with_state shown) means.shapes;
    }

-- the lines of the net are those of the circuit
pub prints : (text : List ℕ) (a : SimulatedNet) (says : Saying) (printed : List ℕ) → IsMadeOf text a.net a.shape → Ran a says printed → Prints text a.with_state says printed
prints text a says printed made ran = record {
  circuit = made.circuit;
  taken = made.taken;
  only_circuit = made.only_circuit;
  of_trace = a.shape;
  shaped = made.shaped;
  init = ran.init;
  ticks = ran.ticks;
  said = ran.said;
  shown = ran.shown;
  source = made.flattened.source;
  is_source = made.flattened.is_source;
  prints = prints_run made.circuit a.net made.flattened made.one a.with_state ran.init ran.ticks ran.shown printed ran.run ran.lines;
}
