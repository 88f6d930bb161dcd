use Rattle.std.proofs.Common.{[], Vec, Global, ◌≡◌, length, map, refl, ap, ◌∙◌, arith}
use Rattle.fir_ast.specs.Circuits.{ModuleTree}
use Rattle.fir_ast.specs.working.Views.{block_of, port_of, stmt_of}
use Rattle.fir_meaning.specs.ComponentTypes.{typed_scope}
use Rattle.fir_meaning.specs.Visibility.{declarations}
use Rattle.fir_types.specs.declared.note.Note.{Note}
use Rattle.fir_types.proofs.InstanceWalks.{length_of_map}
use Rattle.fir_width.proofs.FoundModules.{read_is}
use Rattle.fir_meaning.specs.ModuleScenes.{behind_all_ports}
use Rattle.fir_leaf_table.proofs.GroundBodies.{found, ground_begins, ground_cost, ground_enters, ground_legal, ground_made}
use Rattle.fir_leaf_table.proofs.ground_body.ground_body.Goals as goal

pub returns : goal.returns
returns c = λ tree s frames part within.
    let frame = c.args.frame.now in
    let m = s.own.inside in
    let ports = c.args.part.now.ports.items in
    let f = found frame tree s frames in
    let firsts = c.as_slice.ensures.value ∙ c.in_ok-firsts.ensures (typed_scope tree.modules (declarations m)) frames.types within.leaves in
    let sinks = c.as_slice-2.ensures.value ∙ c.in_ok-driven.ensures tree s frames in
    let notes = c.as_slice-3.ensures.value
    ∙ ap (λ (v : Vec Note Global). v.items)
    (read_is frame.findings.now.notes.items frame.number c.index.result.now f.notes c.index.ensures f.notes_at) in
    let long = length_of_map port_of ports in
    let here = ap (λ (x : ModuleTree). length x.ports) part in
    let count : c.len-declared.result ≡ length m.ports = omega (arith, c.len-declared.ensures, c.args.part.now.ports.ok.0, long, here) in
    let body = ap (λ l. block_of (map stmt_of l)) c.as_slice-4.ensures.value ∙ ap (λ (x : ModuleTree). x.body) part in
    let well = (c.faultless_is_well_typed.ensures tree frames.named).0 frames.typed.clear in
    let block = block_of (map stmt_of c.as_slice-4.result.now) in
    ground_made frame tree s frames block body _ _ _ _ _ _ sinks c.new-2.ensures.items c.new-body.ensures.items
    (c.in_ok-in_block.ensures tree.modules within.costs (declarations m) (behind_all_ports m) []
    (ground_enters frame tree s frames block body _ _ _ within refl firsts refl notes count) (ground_begins frame tree s frames block body)
    (ground_legal frame tree s frames block body well) (ground_cost frame tree s frames block body within))
