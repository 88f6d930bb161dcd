use Rattle.std.proofs.Common.{List, ℕ, sym, ap, ◌∙◌, Some}
use Rattle.trace_text.specs.RunLines.{with_widths}
use Rattle.fir_net.specs.working.Settled.{shape}
use Rattle.fir_tick.specs.working.Views.{numbers}
use Rattle.fir_runner.proofs.RunLines.{at_widths}
use Rattle.fir_runner.proofs.runner.shown_state.Goals as goal

pub returns-then-with_state : goal.returns-then-with_state
returns-then-with_state c =
    let words = c.state.result.now in
    let wide = sym (at_widths words) ∙ ap (λ (ws : List ℕ). with_widths ws (numbers words)) c.state.ensures.widths in
    let whole = wide ∙ ap (λ vs. with_widths (shape c.args.sim.now.net).state (numbers vs)) c.state.ensures.value in
    rw c.if-with_state.true (ap Some whole)
