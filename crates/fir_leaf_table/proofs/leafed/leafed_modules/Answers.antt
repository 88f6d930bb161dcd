use Rattle.std.proofs.Common.{◌≡◌, ◌+◌, ◌<◌, ◌≤◌, List, length, sym, ap, subst, ◌∙◌, arith}
use Rattle.fir_ast.specs.declared.circuit.Circuit.{Circuit}
use Rattle.fir_ast.specs.declared.circuit.Module.{Module}
use Rattle.fir_ast.specs.working.Views.{circuit_of, module_of}
use Rattle.fir_types.proofs.InstanceWalks.{length_of_map}
use Rattle.fir_leaf_table.proofs.LeafedSoFar.{LeafedSoFar, leafed_more, leafed_whole}
use Rattle.fir_leaf_table.proofs.LimitedModules.{modules_costed}
use Rattle.fir_leaf_table.proofs.leafed.leafed_modules.Goals as goal

-- the loop goes over the modules of the tree
as_many : (tree circuit : Circuit) (parts : List Module) → circuit ≡ tree → parts ≡ circuit.modules.items
    → length parts ≡ length (circuit_of tree).modules
as_many tree circuit parts same read =
    ap length read ∙ ap (λ (x : Circuit). length x.modules.items) same ∙ sym (length_of_map module_of tree.modules.items)

pub loop-number-preserved : goal.loop-number-preserved
loop-number-preserved c =
    let tree = c.args.fitted.now in
    let same = c.circuit-circuit.ensures.tree ∙ c.named-named.ensures.tree ∙ c.typed.ensures.tree in
    let many = as_many tree c.circuit-circuit.result.now c.deref-part-items.result.now same c.deref-part-items.ensures.value in
    let short : c.loop-number.number < length (circuit_of tree).modules = omega (arith, many, c.loop-number-test.true) in
    subst (λ l. LeafedSoFar (circuit_of tree) l (c.loop-number.number + 1)) (sym c.in_ok-push.ensures.items)
    (leafed_more (circuit_of tree) c.loop-number.modules.items c.loop-number.number c.in_ok-numbered_module.field-0 short
    c.in_ok-numbered_module.ensures c.loop-number.invariant)

pub returns : goal.returns
returns c = λ cost has small.
    let tree = c.args.fitted.now in
    let same = c.circuit-circuit.ensures.tree ∙ c.named-named.ensures.tree ∙ c.typed.ensures.tree in
    let many = as_many tree c.circuit-circuit.result.now c.deref-part-items.result.now same c.deref-part-items.ensures.value in
    let past : length (circuit_of tree).modules ≤ c.loop-number.number = omega (arith, many, c.loop-number-test.false) in
    leafed_whole (circuit_of tree) c.loop-number.modules.items c.loop-number.number past c.loop-number.invariant
    (modules_costed (circuit_of tree) cost has small)
