use Rattle.std.proofs.Common.{ℕ, Vec, Global, Option, refl, ap, subst, ◌∙◌, arith}
use Rattle.std.specs.Prelude.{slice_get}
use Rattle.std.proofs.lemmas.Option.{slice_get_within}
use Rattle.fir_base.proofs.Elements.{there}
use Rattle.fir_ast.specs.declared.circuit.Circuit.{Circuit}
use Rattle.fir_ast.specs.working.Views.{circuit_of}
use Rattle.fir_meaning.specs.Mentions.{module_names}
use Rattle.fir_meaning.specs.Visibility.{declarations}
use Rattle.fir_names.specs.working.Tabulated.{Tabulates}
use Rattle.fir_types.specs.declared.found.Found.{Found}
use Rattle.fir_types.specs.working.TypedModules.{IsTyped}
use Rattle.fir_width.proofs.FoundModules.{found_of, read_is}
use Rattle.fir_leaf_table.proofs.ModuleFrames.{framed}
use Rattle.fir_leaf_table.proofs.module_frame.frame_of.Goals as goal

pub unreachable-requires : goal.unreachable-requires
unreachable-requires c =
    let m = there (circuit_of c.args.fitted.now).modules c.args.number c.requires.there in
    let same = c.named.ensures.tree ∙ c.typed-typed.ensures.tree in
    c.in_default.ensures m.0 (ap (λ (t : Circuit). slice_get (circuit_of t).modules c.args.number) same ∙ m.1)

pub index-requires-2 : goal.index-requires-2
index-requires-2 c =
    let tree = circuit_of c.args.fitted.now in
    let found = c.findings-findings.result.now in
    let typed = subst (λ (t : Circuit). IsTyped (circuit_of t) found) c.typed-typed.ensures.tree c.findings-findings.ensures in
    let m = there tree.modules c.args.number c.requires.there in
    let f = found_of tree found typed c.args.number m.0 m.1 in
    let within = slice_get_within found.first_leaves.items c.args.number f.leaves f.leaves_at in
    omega (arith, within, found.first_leaves.ok.0)

pub returns-clause-frames : goal.returns-clause-frames
returns-clause-frames c = λ s scene.
    let tree = circuit_of c.args.fitted.now in
    let found = c.findings-findings.result.now in
    let k = c.args.number in
    let typed = subst (λ (t : Circuit). IsTyped (circuit_of t) found) c.typed-typed.ensures.tree c.findings-findings.ensures in
    let m = there tree.modules k c.requires.there in
    let f = found_of tree found typed k m.0 m.1 in
    let same = c.named.ensures.tree ∙ c.typed-typed.ensures.tree in
    let tabulated = subst (λ (t : Circuit). Tabulates (module_names (circuit_of t)) c.in-Some.names.now (declarations m.0)) same
    (c.in-Some.ensures m.0 (ap (λ (t : Circuit). slice_get (circuit_of t).modules k) same ∙ m.1)) in
    let declared = c.as_slice.ensures.value
    ∙ ap (λ (v : Vec (Option Found) Global). v.items)
    (read_is found.declared.items k c.index.result.now f.declared c.index.ensures f.declared_at) in
    let leaves = c.as_slice-2.ensures.value
    ∙ ap (λ (v : Vec ℕ Global). v.items) (read_is found.first_leaves.items k c.index-2.result.now f.leaves c.index-2.ensures f.leaves_at) in
    framed tree found c.requires.names typed k m.0 m.1 _ refl refl refl tabulated declared leaves c.requires.places s scene
