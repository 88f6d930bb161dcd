use Rattle.std.proofs.Common.{◌≡◌, ◌<◌, true, false, length, refl, sym, ◌∙◌, arith}
use Rattle.fir_leaf.specs.working.NodeBlocks.{block_in}
use Rattle.fir_whens.specs.working.CoveredModules.{is_covered_at, is_sink_at}
use Rattle.fir_whens.proofs.SinksOfCode.{covered_read, one_more_covered, sink_read}
use Rattle.fir_whens.proofs.module.first_not_covered.Goals as goal
use Rattle.fir_whens.proofs.module.first_not_covered.Goals.{else-is_sink-via-then-is_sink+else-not-index, else-is_sink-via-else-is_sink}

pub loop-number-preserved : goal.loop-number-preserved
loop-number-preserved c =
    let m = c.args.part.now in
    let number = c.loop-number.number in
    let within : number < length m.leaves.items = omega (arith, c.loop-number-test.true, c.len-number-end.ensures) in
    let here : is_sink_at m number ≡ true → is_covered_at m number ≡ true =
    λ sink. elim c.else-is_sink.branch [
      | else-is_sink-via-then-is_sink+else-not-index w ↦
          covered_read m c.deref.result.now (block_in c.deref-2.result.now c.deref-3.result.now) c.in_ok-covered.covered.items number
          w.index-then-is_sink.result.now (c.deref.ensures.value ∙ c.in_ok-depths.ensures) (rw (c.deref-2.ensures.value, c.deref-3.ensures.value) refl)
          c.in_ok-covered.ensures within w.index-then-is_sink.ensures ∙ w.if-not-index.false
      | else-is_sink-via-else-is_sink w ↦
          let never : false ≡ true = w.if-is_sink.ensures ∙ sym (sink_read m number c.index.result.now within c.index.ensures) ∙ sink in
          absurd (cc)
    ] in
    one_more_covered m number c.loop-number.invariant here
