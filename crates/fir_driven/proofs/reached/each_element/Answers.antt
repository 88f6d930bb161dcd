use Rattle.std.proofs.Common.{sym, ap, ◌∙◌}
use Rattle.std.proofs.lemmas.List.{take_all}
use Rattle.fir_driven.specs.working.Indices.{elements_behind}
use Rattle.fir_driven.proofs.IndexElements.{elements_more}
use Rattle.fir_driven.proofs.reached.each_element.Goals as goal

pub loop-first-preserved : goal.loop-first-preserved
loop-first-preserved c =
    rw (c.in_ok-push_elements.ensures, c.loop-first.invariant) (sym (elements_more c.args.pick c.args.firsts.now c.loop-first.first-index _ c.loop-first-test.true))

pub returns : goal.returns
returns c = c.loop-first.invariant ∙ ap (elements_behind c.args.pick) (take_all c.loop-first.first-index c.args.firsts.now c.loop-first-test.false)
