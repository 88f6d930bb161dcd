use Rattle.std.proofs.Common.{◌+◌, map, subst, ap, ◌∙◌}
use Rattle.std.proofs.lemmas.List.{length-map, length_push, map_push, take_all}
use Rattle.fir_elaborate.specs.working.Walks.{AreHeld}
use Rattle.fir_elaborate.proofs.HeldModules.{held_next}
use Rattle.fir_elaborate.proofs.instances.instances_of_all.Goals as goal

pub loop-module-preserved : goal.loop-module-preserved
loop-module-preserved c =
    let i = c.loop-module.module-index in
    let found = c.in_ok-instances_of.field-0 in
    let long = length-map c.loop-module.held.items (λ is. is.items) ∙ c.loop-module.invariant.0 in (
      rw c.in_ok-push.ensures.items (length_push c.loop-module.held.items found ∙ ap (λ n. n + 1) c.loop-module.invariant.0),
      rw (c.in_ok-push.ensures.items, map_push (λ is. is.items) c.loop-module.held.items found)
          (held_next c.args.modules.now i c.module-item.result _ found.items c.loop-module-test.true c.module-item.is long c.loop-module.invariant.1
          (rw c.deref.ensures.value at c.in_ok-instances_of.ensures)),
    )

pub returns-clause-held : goal.returns-clause-held
returns-clause-held c =
    subst (λ ms. AreHeld ms (map (λ is. is.items) c.loop-module.held.items))
    (take_all c.loop-module.module-index c.args.modules.now c.loop-module-test.false) c.loop-module.invariant.1
