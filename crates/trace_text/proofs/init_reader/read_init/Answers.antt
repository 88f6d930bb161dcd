use Rattle.std.proofs.Common.{Err, sym, subst}
use Rattle.fir_base.specs.Ticks.{FitEach}
use Rattle.trace_text.specs.Shapes.{state_widths}
use Rattle.trace_text.specs.working.Readings.{InitsRead, ReadsInit}
use Rattle.trace_text.proofs.InitWalks.{one_taken, init_refused, inits_read}
use Rattle.trace_text.proofs.InitsFit.{inits_fit}
use Rattle.trace_text.proofs.init_reader.read_init.Goals as goal

pub loop-line-preserved : goal.loop-line-preserved
loop-line-preserved c =
    let line = c.in-Some.ensures in
    one_taken c.args.bytes.now c.args.shape.now c.loop-line.place c.loop-line.words.items c.loop-line.invariant c.in-Some.line line.here line.at
    c.take_line.new.words.items c.in_default-take_line.ensures.takes c.in_default-take_line.ensures.room

pub returns-in-Err : goal.returns-in-Err
returns-in-Err c =
    let line = c.in-Some.ensures in
    let read =
    init_refused c.args.bytes.now c.args.shape.now c.loop-line.place c.loop-line.words.items c.loop-line.invariant c.in-Some.line line.here line.at
    c.take_line.new.words.items c.in-Err.refused c.in-Err.ensures.takes in
    subst (λ refused. ReadsInit c.args.bytes.now c.args.shape.now (Err refused)) (sym c.refused_at.ensures) read

pub returns : goal.returns
returns c =
    let read = inits_read c.args.bytes.now c.args.shape.now c.loop-line.place c.loop-line.words.items c.loop-line.invariant c.in_default.ensures in
    let fits = inits_fit c.args.shape.now read.lines c.loop-line.words.items c.state.ensures.whole read.spelled in (
      subst (λ init. InitsRead c.args.bytes.now c.args.shape.now init c.loop-line.place) (sym c.new.ensures) read,
      subst (FitEach (state_widths c.args.shape.now.state)) (sym c.new.ensures) fits,
    )
