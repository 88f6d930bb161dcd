use Rattle.std.proofs.Common.{◌≡◌, ◌≤◌, length, arith, subst, ◌∙◌}
use Rattle.fir_ast.specs.working.Views.{circuit_of}
use Rattle.fir_whens.specs.working.ModuleFaults.{IsFoundOf}
use Rattle.fir_whens.proofs.UndrivenCircuits.{ModulesDriven, all_clear, all_driven, first_fault, one_more}
use Rattle.fir_whens.proofs.driven.check_driven.Goals as goal

pub returns-in-Some-clause-fault : goal.returns-in-Some-clause-fault
returns-in-Some-clause-fault c =
    let tree = circuit_of c.args.circuit.now in
    let number = c.loop-module_number.module_number in
    first_fault tree c.undriven_by_path.ensures number c.in-Some.fault c.loop-module_number.invariant (subst (λ f. IsFoundOf tree number f) c.in-Some.is c.in_ok-fault.ensures)

pub loop-module_number-preserved : goal.loop-module_number-preserved
loop-module_number-preserved c =
    let tree = circuit_of c.args.circuit.now in
    let number = c.loop-module_number.module_number in
    one_more tree number c.loop-module_number.invariant (subst (λ f. IsFoundOf tree number f) c.in_default.is c.in_ok-fault.ensures)

pub returns-clause-clear : goal.returns-clause-clear
returns-clause-clear c =
    let tree = circuit_of c.args.circuit.now in
    let modules = c.modules-module_number-end.result.now in
    let low : c.loop-module_number.module_number ≤ length modules = c.loop-module_number.auto.module_number-end in
    let high : length modules ≤ c.loop-module_number.module_number = c.loop-module_number-test.false in
    let all : c.loop-module_number.module_number ≡ length modules = omega (arith, low, high) in
    all_clear tree c.undriven_by_path.ensures (subst (λ n. ModulesDriven tree n) (all ∙ c.modules-module_number-end.ensures.leafed.count) c.loop-module_number.invariant)

pub returns-clause-driven : goal.returns-clause-driven
returns-clause-driven c =
    let tree = circuit_of c.args.circuit.now in
    let modules = c.modules-module_number-end.result.now in
    let low : c.loop-module_number.module_number ≤ length modules = c.loop-module_number.auto.module_number-end in
    let high : length modules ≤ c.loop-module_number.module_number = c.loop-module_number-test.false in
    let all : c.loop-module_number.module_number ≡ length modules = omega (arith, low, high) in
    all_driven tree (subst (λ n. ModulesDriven tree n) (all ∙ c.modules-module_number-end.ensures.leafed.count) c.loop-module_number.invariant)
