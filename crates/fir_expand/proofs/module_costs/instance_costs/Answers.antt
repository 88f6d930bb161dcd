use Rattle.std.proofs.Common.{◌+◌, ◌∙◌, refl, sym, ap, subst, arith}
use Rattle.fir_type_table.specs.working.Saturated.{saturated}
use Rattle.fir_expand.proofs.WalkedInstances.{InstancesSoFar, instances_all, instances_next}
use Rattle.fir_expand.proofs.module_costs.instance_costs.Goals as goal

pub loop-position-preserved : goal.loop-position-preserved
loop-position-preserved c =
    let names = c.args.names.now in
    let costs = c.args.costs.now in
    let at = c.loop-position.position in
    let sum = c.loop-position.sum in
    subst (InstancesSoFar names costs (at + 1)) (ap (λ n. saturated (sum + n)) (sym c.instance_cost.ensures) ∙ sym c.saturating_add-sum.ensures)
    (instances_next names costs at sum c.loop-position.invariant (omega (arith, c.loop-position-test.true, c.len-position-end.ensures)) _ refl)

pub returns : goal.returns
returns c =
    instances_all c.args.names.now c.args.costs.now c.loop-position.position c.loop-position.sum c.loop-position.invariant
    (omega (arith, c.loop-position-test.false, c.len-position-end.ensures))
