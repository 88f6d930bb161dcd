use Rattle.fir_flatten.proofs.SitesOfModules.{clock_text, number_text}
use Rattle.fir_flatten.proofs.clock_faults.told_text.Goals as goal

pub returns-in-Clock : goal.returns-in-Clock
returns-in-Clock c = λ m is named within.
    let leaf = rw c.deref.ensures.value at c.in-Some.ensures.lookup.3 in
    c.text_at.ensures _
    (clock_text m c.args.module.now is c.args.leaf c.in-Some.declared.now leaf.0 (leaf.1 c.in-Some.declared.now) c.in-Clock.is
    c.deref-in-Clock.result.now c.deref-in-Clock.ensures.value)

pub returns-in-Number : goal.returns-in-Number
returns-in-Number c = λ m is named within.
    let leaf = rw c.deref.ensures.value at c.in-Some.ensures.lookup.3 in
    c.text_at-in-Number.ensures _
    (number_text m c.args.module.now is c.args.leaf c.in-Some.declared.now leaf.0 (leaf.1 c.in-Some.declared.now) c.in-Number.field-0 c.in-Number.is
    c.args.names.now named)
