use Rattle.std.proofs.Common.{ℕ, [], Vec, Global, Option, ap, refl, arith, ◌∙◌}
use Rattle.std.proofs.lemmas.Option.{slice_get_within}
use Rattle.std.proofs.lemmas.Result.{on_ok_weaker}
use Rattle.std.specs.Str.{bytes_eq}
use Rattle.fir_ast.specs.declared.circuit.Circuit.{Circuit}
use Rattle.fir_ast.specs.working.Views.{circuit_of, module_of}
use Rattle.fir_types.specs.declared.found.Found.{Found}
use Rattle.fir_types.specs.declared.note.Note.{Note}
use Rattle.fir_infer_widths.proofs.CircuitWalks.{module_enters, module_legal, module_walked, own}
use Rattle.fir_width.proofs.FoundModules.{found_of, read_is}
use Rattle.fir_infer_widths.proofs.circuit.in_numbered.Goals as goal

pub index-requires-2 : goal.index-requires-2
index-requires-2 c =
    let found = c.args.findings.now in
    let f = found_of (circuit_of c.args.named.now) found c.requires.typed c.args.number (module_of c.args.part.now) c.requires.there in
    let within = slice_get_within found.first_leaves.items c.args.number f.leaves f.leaves_at in
    omega (arith, within, found.first_leaves.ok.0)

pub index-requires-3 : goal.index-requires-3
index-requires-3 c =
    let found = c.args.findings.now in
    let f = found_of (circuit_of c.args.named.now) found c.requires.typed c.args.number (module_of c.args.part.now) c.requires.there in
    let within = slice_get_within found.notes.items c.args.number f.notes f.notes_at in
    omega (arith, within, found.notes.ok.0)

pub returns : goal.returns
returns c = λ w.
    let tree = circuit_of c.args.named.now in
    let found = c.args.findings.now in
    let names = c.requires.names in
    let typed = c.requires.typed in
    let k = c.args.number in
    let m = module_of c.args.part.now in
    let at = c.requires.there in
    let f = found_of tree found typed k m at in
    let n = own tree found names typed k m at in
    let old = c.args.walk.now in
    let declared = c.as_slice.ensures.value ∙ ap (λ (v : Vec (Option Found) Global). v.items) (read_is found.declared.items k c.index.result.now f.declared c.index.ensures f.declared_at) in
    let leaves = c.as_slice-2.ensures.value ∙ ap (λ (v : Vec ℕ Global). v.items) (read_is found.first_leaves.items k c.index-2.result.now f.leaves c.index-2.ensures f.leaves_at) in
    let notes = c.as_slice-walk.ensures.value ∙ ap (λ (v : Vec Note Global). v.items) (read_is found.notes.items k c.index-3.result.now f.notes c.index-3.ensures f.notes_at) in
    let main = c.eq.ensures ∙ ap (λ (x : Circuit). bytes_eq c.args.part.now.ident.name x.ident.name) c.circuit.ensures.tree in
    let enters = module_enters tree found names typed k m at _ old w refl declared leaves main _ refl notes refl in
    on_ok_weaker c.in_module.result (module_walked tree found names typed k m at _ old _ c.in_module.new.walk w refl refl)
    (c.in_module.ensures tree n.0 _ _ [] n.3 enters (module_legal tree found names typed k m at ((c.faultless_is_well_typed.ensures tree names).0 typed.clear)))
