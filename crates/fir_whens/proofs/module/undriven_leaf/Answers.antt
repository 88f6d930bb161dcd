use Rattle.std.proofs.Common.{◌≡◌, ◌<◌, false, true, length, Some, refl, ap, subst, sym, ◌∙◌}
use Rattle.std.specs.Prelude.{slice_get}
use Rattle.std.proofs.lemmas.Bool.{ltb-true}
use Rattle.std.proofs.lemmas.Option.{slice_get_read, slice_get_within}
use Rattle.fir_ast.specs.declared.fault.FirFault.TheVariants.{Undriven}
use Rattle.fir_ast.specs.working.Views.{circuit_of}
use Rattle.fir_meaning.specs.working.Choices.{covers_all}
use Rattle.fir_meaning.specs.working.LeafModules.{LeafDeclared}
use Rattle.fir_meaning.specs.Outcomes.{told_once}
use Rattle.fir_leaf.specs.working.NodeBlocks.{block_in}
use Rattle.fir_leaf_circuit.specs.working.LeafStores.{depth_in}
use Rattle.fir_driven.specs.working.Missed.{missed_all}
use Rattle.fir_whens.specs.working.CoveredModules.{IsFirstNotCovered, IsNotCovered}
use Rattle.fir_whens.specs.working.ModuleFaults.{IsFoundOf}
use Rattle.fir_whens.proofs.SinksOfCode.{leaf_read}
use Rattle.fir_whens.proofs.UndrivenCircuits.{scene_within}
use Rattle.fir_whens.proofs.UndrivenModules.{all_driven, first_undriven}
use Rattle.fir_whens.proofs.module.undriven_leaf.Goals as goal

pub returns-in_default-2 : goal.returns-in_default-2
returns-in_default-2 c =
    let tree = circuit_of c.args.circuit.now in
    let number = c.args.module_number in
    let modules = c.modules.result.now in
    let m = c.in-Some.part.now in
    let at : slice_get modules number ≡ Some m =
    slice_get_read modules (length modules) number m refl (ltb-true number (length modules) (sym c.in-Some.ensures.lookup.0))
    c.in-Some.ensures.lookup.1 in
    all_driven tree modules c.modules.ensures.leafed number m at c.covered_is_driven.ensures
    (subst (λ leaf. IsFirstNotCovered m leaf) c.in_default-2.is c.in_ok-leaf.ensures)

pub returns-in_default : goal.returns-in_default
returns-in_default c = λ s scene.
    let tree = circuit_of c.args.circuit.now in
    let number = c.args.module_number in
    let within : number < length c.modules.result.now =
    subst (λ n. number < n) (sym c.modules.ensures.leafed.count) (scene_within tree number s scene) in
    let there : false ≡ true = c.in_default.ensures.lookup.2 within in
    absurd (cc)

pub returns : goal.returns
returns c =
    let tree = circuit_of c.args.circuit.now in
    let number = c.args.module_number in
    let modules = c.modules.result.now in
    let m = c.in-Some.part.now in
    let at : slice_get modules number ≡ Some m =
    slice_get_read modules (length modules) number m refl (ltb-true number (length modules) (sym c.in-Some.ensures.lookup.0))
    c.in-Some.ensures.lookup.1 in
    let leafed = c.modules.ensures.leafed in
    let within : number < length tree.modules = subst (λ n. number < n) leafed.count (slice_get_within modules number m at) in
    let leaf = c.in-Some-2.leaf in
    let found : IsNotCovered m leaf = subst (λ x. IsFirstNotCovered m x) c.in-Some-2.is c.in_ok-leaf.ensures in
    let place = ap (λ (l : LeafDeclared). l.place) (leaf_read m leaf c.index.result.now found.within c.index.ensures) in
    let depth = ap (λ (l : LeafDeclared). l.depth) (leaf_read m leaf c.index-2.result.now found.within c.index-2.ensures) in
    let body : block_in c.deref.result.now c.deref-2.result.now ≡ block_in m.nodes.items m.body.items =
    rw (c.deref.ensures.value, c.deref-2.ensures.value) refl in
    let outcomes = c.in_ok-choice.choice.items in
    let told : covers_all (depth_in m leaf) leaf (block_in m.nodes.items m.body.items) 0 ≡ false
    → outcomes ≡ told_once (missed_all (depth_in m leaf) leaf (block_in m.nodes.items m.body.items) 0) =
    subst
    (λ d. covers_all d leaf (block_in m.nodes.items m.body.items) 0 ≡ false
    → outcomes ≡ told_once (missed_all d leaf (block_in m.nodes.items m.body.items) 0))
    (sym depth)
    (subst (λ b. covers_all c.index-2.result.now.depth leaf b 0 ≡ false → outcomes ≡ told_once (missed_all c.index-2.result.now.depth leaf b 0)) body
    c.in_ok-choice.ensures) in
    subst (λ p. IsFoundOf tree number (Some (Undriven p c.in_ok-text.text c.from_vec.result))) place
    (first_undriven tree modules leafed number m at c.covered_is_driven.ensures c.missed_is_first.ensures c.modules.ensures.scenes within leaf found
    c.in_ok-text.text c.from_vec.result c.in_ok-text.ensures (c.from_vec.ensures ∙ told found.uncovered))
