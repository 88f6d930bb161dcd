use Rattle.std.proofs.Common.{◌∙◌, sym, subst}
use Rattle.trace_text.specs.working.Walks.{IsPast}
use Rattle.trace_text.proofs.TickWalks.{one_passed}
use Rattle.trace_text.proofs.tick_reader.counting_line.Goals as goal

pub loop-place-preserved : goal.loop-place-preserved
loop-place-preserved c =
    let line = c.line_at-line in
    let past = subst (IsPast c.args.bytes.now c.args.from) (sym line.ensures.place) c.loop-place.invariant in
    one_passed c.args.bytes.now c.args.from line.result past line.ensures.line (sym c.is_skipped.ensures ∙ c.if-not-is_skipped.false)
