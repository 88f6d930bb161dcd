use Rattle.std.proofs.Common.{ap}
use Rattle.fir_leaf_circuit.specs.working.Seen.{role_seen, type_seen}
use Rattle.fir_flatten.proofs.EvidenceOfLeaves.{evidence_of_sink}
use Rattle.fir_flatten.proofs.clock_evidence.of_clock.Goals as goal

pub returns-in_ok-sites-in-Sink : goal.returns-in_ok-sites-in-Sink
returns-in_ok-sites-in-Sink c = λ meant has is clock.
    let sites = rw (c.deref.ensures.value, c.deref-in-Sink.ensures.value) at c.in_ok-sites-in-Sink.ensures in
    let tells = rw c.deref-in-Sink-2.ensures.value at c.of_sites.ensures in
    evidence_of_sink c.args.part.now meant has c.args.number c.args.leaf.now is c.in_ok-sites-in-Sink.sites.items c.of_sites.result
    (ap type_seen clock) (ap (role_seen c.args.part.now.nodes.items) c.in-Sink.is) sites tells
