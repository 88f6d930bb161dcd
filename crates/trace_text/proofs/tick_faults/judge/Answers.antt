use Rattle.std.proofs.Common.{subst, ◌∙◌, ap, sym}
use Rattle.std.specs.Option.{option_or}
use Rattle.trace_text.specs.working.TickWords.{WordsAreRead}
use Rattle.trace_text.proofs.JudgedWords.{told_in_order}
use Rattle.trace_text.proofs.tick_faults.judge.Goals as goal

pub returns-in-Some-or : goal.returns-in-Some-or
returns-in-Some-or c shape w ws room held widths read =
    let some = subst (λ clocks. WordsAreRead shape w ws clocks room c.args.values held) c.in-Some.is read in
    told_in_order shape w ws c.in-Some.clocks room c.args.values held c.args.widths.now widths some c.if-values-widths.false
    ∙ ap (λ o. option_or o c.args.values.wide) (sym c.or.ensures) ∙ sym c.or-2.ensures ∙ c.in-Some-or.is
