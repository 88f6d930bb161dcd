use Rattle.std.proofs.Common.{◌+◌, ◌∙◌, ◌<◌, ◌≤◌, List, length, refl, sym, subst, arith}
use Rattle.std.proofs.lemmas.Option.{slice_get_read}
use Rattle.fir_ast.specs.declared.circuit.Circuit.{Circuit}
use Rattle.fir_ast.specs.working.Views.{circuit_of}
use Rattle.fir_leaf_circuit.specs.working.Leafed.{AreLeafed}
use Rattle.fir_meaning.specs.Scenes.{IsSceneOf}
use Rattle.fir_flatten.specs.declared.design_net.ModulePart.{ModulePart}
use Rattle.fir_flatten.proofs.NamesOfModules.{as_many_names, names_of_number}
use Rattle.fir_flatten.proofs.PartsSoFar.{IsPartAt, PartsSoFar, all_parts, one_more_part}
use Rattle.fir_flatten.proofs.module_parts.module_parts.Goals as goal

pub module_part-requires-clause-view : goal.module_part-requires-clause-view
module_part-requires-clause-view c = λ s scene.
    let modules = c.modules-part-items.result.now in
    let k = c.loop-number.number in
    let at = slice_get_read modules (length modules) k c.part-item.result refl c.loop-number-test.true c.part-item.is in
    c.modules-part-items.ensures.leafed.each k c.part-item.result s at scene

pub module_part-requires-clause-net : goal.module_part-requires-clause-net
module_part-requires-clause-net c = λ s scene.
    let tree = c.args.circuit.now in
    let modules = c.modules-part-items.result.now in
    let nets = c.nets-nets.result.now in
    let k = c.loop-number.number in
    let leafed = subst (λ (t : Circuit). AreLeafed (circuit_of t) modules) c.leafed-leafed.ensures.tree c.modules-part-items.ensures.leafed in
    let short : k < length nets = omega (arith, c.loop-number-test.true, leafed.count, c.nets-nets.ensures.nets.count) in
    let at = slice_get_read nets (length nets) k c.index-nets-number.result refl short c.index-nets-number.is in
    c.nets-nets.ensures.nets.each k c.index-nets-number.result s at
    (subst (λ (t : Circuit). IsSceneOf (circuit_of t) k s) c.leafed-leafed.ensures.tree scene)

pub bounds-names-number : goal.bounds-names-number
bounds-names-number c =
    let modules = c.modules-part-items.result.now in
    let leafed = subst (λ (t : Circuit). AreLeafed (circuit_of t) modules) c.leafed-leafed.ensures.tree c.modules-part-items.ensures.leafed in
    omega (arith, c.loop-number-test.true, leafed.count, as_many_names (circuit_of c.args.circuit.now) c.args.names.now c.requires)

pub module_part-requires-clause-names : goal.module_part-requires-clause-names
module_part-requires-clause-names c = λ s scene.
    let tree = c.args.circuit.now in
    let modules = c.modules-part-items.result.now in
    let k = c.loop-number.number in
    let names = c.args.names.now in
    let own = c.index-names-number.result in
    let leafed = subst (λ (t : Circuit). AreLeafed (circuit_of t) modules) c.leafed-leafed.ensures.tree c.modules-part-items.ensures.leafed in
    let short : k < length names = omega (arith, c.loop-number-test.true, leafed.count, as_many_names (circuit_of tree) names c.requires) in
    c.deref.ensures.value
    ∙ names_of_number (circuit_of tree) names c.requires k own (slice_get_read names (length names) k own refl short c.index-names-number.is) s
    (subst (λ (t : Circuit). IsSceneOf (circuit_of t) k s) c.leafed-leafed.ensures.tree scene)

pub loop-number-preserved : goal.loop-number-preserved
loop-number-preserved c =
    let tree = c.args.circuit.now in
    let modules = c.modules-part-items.result.now in
    let k = c.loop-number.number in
    let leafed = subst (λ (t : Circuit). AreLeafed (circuit_of t) modules) c.leafed-leafed.ensures.tree c.modules-part-items.ensures.leafed in
    let short : k < length (circuit_of tree).modules = omega (arith, c.loop-number-test.true, leafed.count) in
    let new = c.in_ok-module_part.field-0 in
    subst (λ ps. PartsSoFar (circuit_of tree) ps (k + 1)) (sym {A = List ModulePart} c.in_ok-push.ensures.items)
    (one_more_part (circuit_of tree) c.loop-number.parts.items k new short
    (subst (λ (t : Circuit). IsPartAt (circuit_of t) k new) c.leafed-leafed.ensures.tree c.in_ok-module_part.ensures) c.loop-number.invariant)

pub returns : goal.returns
returns c =
    let tree = c.args.circuit.now in
    let modules = c.modules-part-items.result.now in
    let k = c.loop-number.number in
    let leafed = subst (λ (t : Circuit). AreLeafed (circuit_of t) modules) c.leafed-leafed.ensures.tree c.modules-part-items.ensures.leafed in
    let past : length (circuit_of tree).modules ≤ k = omega (arith, c.loop-number-test.false, leafed.count) in
    all_parts (circuit_of tree) c.loop-number.parts.items k past c.loop-number.invariant
