use Rattle.std.proofs.Common.{◌≡◌, subst, sym, ◌∙◌}
use Rattle.fir_ast.specs.declared.fault.FirFault.TheVariants as fault
use Rattle.fir_ast.specs.working.Views.{circuit_of}
use Rattle.fir_ast.specs.working.CodeFaults.{fault_of}
use Rattle.fir_pass.specs.Law.{IsFirst}
use Rattle.fir_meaning.specs.working.NameGroups.{HasNames}
use Rattle.fir_meaning.specs.SourceMeaning.{circuit_meaning}
use Rattle.fir_expand.proofs.CostLimit.{is_within, past_limit, within_limit}
use Rattle.fir_expand.proofs.OneCost.{one_cost}
use Rattle.fir_expand.proofs.limit.check_cost.Goals as goal

pub returns-then-cost-gt-LIMIT-clause-fault : goal.returns-then-cost-gt-LIMIT-clause-fault
returns-then-cost-gt-LIMIT-clause-fault c =
    let tree = c.args.fitted.now in
    let same : c.circuit-circuit.result.now ≡ tree = c.circuit-circuit.ensures.tree ∙ c.named.ensures.tree ∙ c.typed.ensures.tree in
    subst (λ t. IsFirst 8 8 (circuit_meaning (circuit_of tree)) (fault_of (fault.Cost t.ident.place c.in_ok-cost.cost))) (sym same)
    (past_limit (circuit_of tree) c.in_ok-cost.cost c.in_ok-cost.ensures c.if-cost-gt-LIMIT.true)

pub returns-clause-within : goal.returns-clause-within
returns-clause-within c =
    let tree = c.args.fitted.now in
    is_within (circuit_of tree) c.in_ok-cost.cost c.in_ok-cost.ensures c.if-cost-gt-LIMIT.false

pub returns-clause-clear : goal.returns-clause-clear
returns-clause-clear c =
    let tree = c.args.fitted.now in
    let same : c.circuit-circuit.result.now ≡ tree = c.circuit-circuit.ensures.tree ∙ c.named.ensures.tree ∙ c.typed.ensures.tree in
    let names : HasNames (circuit_of tree) = subst (λ t. HasNames (circuit_of t)) (c.named.ensures.tree ∙ c.typed.ensures.tree) c.circuit-circuit.ensures.named in
    within_limit (circuit_of tree) c.in_ok-cost.cost c.in_ok-cost.ensures one_cost names c.if-cost-gt-LIMIT.false
