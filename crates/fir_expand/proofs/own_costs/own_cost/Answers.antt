use Rattle.std.proofs.Common.{◌≡◌, Vec, Global, Option, map, ap, ◌∙◌, sym}
use Rattle.fir_ast.specs.Circuits.{ModuleTree}
use Rattle.fir_ast.specs.working.Views.{block_of, circuit_of, module_of, stmt_of}
use Rattle.fir_type_table.specs.working.Saturated.{saturated}
use Rattle.fir_type_table.specs.working.Tables.{types_of}
use Rattle.fir_types.specs.declared.found.Found.{Found}
use Rattle.fir_types.specs.declared.note.Note.{Note}
use Rattle.fir_types.specs.working.Noted.{note_seen}
use Rattle.fir_types.specs.working.Seen.{seen}
use Rattle.fir_width.proofs.FoundModules.{found_of, read_is}
use Rattle.fir_expand.specs.working.OwnSums.{plain_cost_of_block}
use Rattle.fir_expand.proofs.OwnCostsFound.{cost_found, tree_read}
use Rattle.fir_expand.proofs.own_costs.own_cost.Goals as goal

pub returns : goal.returns
returns c = λ m there.
    let tree = circuit_of c.args.named.now in
    let found = c.args.findings.now in
    let k = c.args.number in
    let ts = types_of found.table in
    let f = found_of tree found c.requires.typed k m there in
    let notes = c.deref.ensures.value ∙ ap (λ (v : Vec Note Global). v.items) (read_is found.notes.items k c.index.result.now f.notes c.index.ensures f.notes_at) in
    let declared = c.deref-2.ensures.value ∙ ap (λ (v : Vec (Option Found) Global). v.items) (read_is found.declared.items k c.index-2.result.now f.declared c.index-2.ensures f.declared_at) in
    let at = rw c.circuit.ensures.tree at c.index-3.ensures in
    let part : m ≡ module_of c.index-3.result.now = tree_read module_of c.args.named.now.modules.items k c.index-3.result.now m there at in
    let body : m.body ≡ block_of (map stmt_of c.deref-3.result.now) =
    ap (λ (x : ModuleTree). x.body) part ∙ ap (λ ss. block_of (map stmt_of ss)) (sym c.deref-3.ensures.value) in
    cost_found tree.modules m (map (note_seen ts) c.deref.result.now) (map (seen ts) c.deref-2.result.now) c.leaves_of_notes-noted.result
    c.leaves_declared-declared.result c.plain_cost_of_block.result c.saturating_add.result c.saturating_add-2.result
    (ap (map (note_seen ts)) notes ∙ f.noted) (ap (map (seen ts)) declared ∙ f.types) c.leaves_of_notes-noted.ensures c.leaves_declared-declared.ensures
    (c.plain_cost_of_block.ensures ∙ ap (λ b. saturated (plain_cost_of_block b)) (sym body)) c.saturating_add.ensures c.saturating_add-2.ensures
