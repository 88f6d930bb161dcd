use Rattle.std.proofs.Common.{inl, ap, ◌∙◌, ◌++◌}
use Rattle.trace_text.specs.FaultTexts.{fault_text}
use Rattle.fir_cli.proofs.messages.say_bad_line.Goals as goal

pub returns-in-Ok : goal.returns-in-Ok
returns-in-Ok g c s init ticks bad =
    let line =
    c.as_slice.ensures.value
    ∙ c.in-Ok.ensures.text
    ∙ ap (λ front. front ++ fault_text c.args.fault.now c.bad_line.result.now) c.new-line.ensures.items
    ∙ ap (fault_text c.args.fault.now) (c.bad_line.ensures s init ticks bad) in
    inl (rw line at c.say.ensures)
