use Rattle.std.proofs.Common.{◌≡◌, ◌+◌, suc, rules, sym, ◌∙◌, arith}
use Rattle.fir_driven.proofs.IndexElements.{next_element, no_element}
use Rattle.fir_driven.proofs.reached.push_elements.Goals as goal

pub loop-preserved : goal.loop-preserved
loop-preserved c = λ left whole.
    let out = c.loop.leaves.items in
    let each = c.args.pick.stride in
    let next : c.in_ok-leaf.leaf ≡ c.loop.leaf + each = search rules in
    c.loop.invariant (suc left) (omega arith) ∙ next_element out c.loop.leaf left each
    ∙ rw (c.in_ok-push.ensures.items, next)

pub returns : goal.returns
returns c =
    let none = no_element c.loop.leaves.items c.loop.leaf c.args.pick.stride in
    sym (c.loop.invariant 0 (omega arith) ∙ none)
