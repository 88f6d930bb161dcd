use Rattle.std.proofs.lemmas.Result.{IfOk-weaker}
use Rattle.fir_leaf.specs.working.ModuleCircuits.{module_circuit}
use Rattle.fir_flatten.proofs.EvidenceOfLeaves.{evidence_by, seen_there}
use Rattle.fir_flatten.proofs.clock_evidence.clock_evidence.Goals as goal

pub returns-in-Clock : goal.returns-in-Clock
returns-in-Clock c =
    let leaf = c.in-Some.leaf.now in
    let there = rw c.deref.ensures.value at c.in-Some.ensures.lookup.3 in
    IfOk-weaker c.of_clock.result _ _
    (λ e told meant has within. told meant has (seen_there c.args.part.now meant has c.args.number leaf there.0 (there.1 leaf)) c.in-Clock.is)
    c.of_clock.ensures

pub returns-in-Number : goal.returns-in-Number
returns-in-Number c = λ meant has within.
    let leaf = c.in-Some.leaf.now in
    let there = rw c.deref.ensures.value at c.in-Some.ensures.lookup.3 in
    evidence_by c.args.part.now meant has c.args.number leaf (seen_there c.args.part.now meant has c.args.number leaf there.0 (there.1 leaf)) c.of_number.result
    (rw c.in-Number.is (rw c.deref-in-Number.ensures.value at (c.of_number.ensures (module_circuit meant) c.args.number c.in-Number.field-0)))
