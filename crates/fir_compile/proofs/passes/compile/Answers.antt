use Rattle.fir_compile.proofs.EquivalentNets.{flattens_equivalent}
use Rattle.fir_compile.proofs.passes.compile.Goals as goal

pub returns-clause-compiled : goal.returns-clause-compiled
returns-clause-compiled c =
    let h = c.in_ok-ordered.ensures.counted.compiles in
    let net = c.in_ok-ordered.ordered.net in
    let other = c.in_ok-simplified.field-0.net in
    let e = c.in_ok-simplified.ensures.equivalent in
    let later = c.in_ok-simplified.ensures.in_order in
    let one = c.ordered_has_one.ensures in
    record {
      circuit = h.circuit;
      taken = h.taken;
      flattened =
          flattens_equivalent one h.circuit net other c.in_ok-ordered.ordered.order c.in_ok-simplified.field-0.order h.flattened
          c.in_ok-ordered.ensures.in_order e later;
      one = one other c.in_ok-simplified.field-0.order e.whole later;
    }
