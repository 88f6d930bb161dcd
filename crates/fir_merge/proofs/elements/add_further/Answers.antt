use Rattle.std.proofs.Common.{List, ◌∷◌, ◌++◌, [], take, length, sym, ap, ◌∙◌, subst}
use Rattle.std.proofs.lemmas.List.{take_more}
use Rattle.fir_merge.specs.declared.elements.Element.{Element}
use Rattle.fir_merge.specs.working.Elements.{AddsFurther}
use Rattle.fir_merge.proofs.GrownTerms.{below_later}
use Rattle.fir_merge.proofs.StandingElements.{element_below, further_more}
use Rattle.fir_merge.proofs.elements.add_further.Goals as goal

pub push_elements-requires-clause-earlier : goal.push_elements-requires-clause-earlier
push_elements-requires-clause-earlier c =
    let e = c.element-item.result in
    below_later c.args.net.now c.loop-element.net e.condition.read c.loop-element.invariant.grows
    (element_below (length c.args.net.now) c.args.found.now c.loop-element.element-index e c.requires.found c.loop-element-test.true c.element-item.is)

pub push_elements-requires-clause-index : goal.push_elements-requires-clause-index
push_elements-requires-clause-index c =
    below_later c.args.net.now c.loop-element.net c.args.index.now.bound.read c.loop-element.invariant.grows c.requires.index

pub loop-element-preserved : goal.loop-element-preserved
loop-element-preserved c =
    let old = c.args.net.now in
    let new = c.push_elements.new.net in
    let found = c.args.found.now in
    let k = c.loop-element.element-index in
    let e = c.element-item.result in
    let later = c.push_elements.new.elements.items in
    let front = take_more found k e c.loop-element-test.true ∙ ap (λ d. take k found ++ d ∷ []) (sym c.element-item.is) in
    subst (λ (l : List Element). AddsFurther old new l c.args.index.now later) (sym front)
    (further_more old c.loop-element.net new (take k found) e c.args.index.now c.loop-element.further.items later c.loop-element.invariant
    c.in_ok-push_elements.ensures)
