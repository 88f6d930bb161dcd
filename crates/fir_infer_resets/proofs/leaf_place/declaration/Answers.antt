use Rattle.std.proofs.Common.{ap, ◌∙◌}
use Rattle.fir_ast.specs.working.Views.{circuit_of}
use Rattle.fir_meaning.specs.Mentions.{module_names}
use Rattle.fir_meaning.specs.Visibility.{declarations}
use Rattle.fir_names.specs.working.Tabulated.{found}
use Rattle.fir_infer_resets.proofs.DeclaredEntries.{table_entry, first_named}
use Rattle.fir_infer_resets.proofs.leaf_place.declaration.Goals as goal

pub returns-in_ok-names-in-Named : goal.returns-in_ok-names-in-Named
returns-in_ok-names-in-Named c d h =
    let names = c.in_ok-names-in-Named.field-0.now in
    let tab = c.in_ok-names-in-Named.ensures h.inside h.is_module in
    let name = first_named c.args.path.now c.in_ok-name.field-0.now c.in-Named.name h.name h.rest c.in_ok-name.ensures.value c.in-Named.is h.path_is in
    let entry = table_entry (module_names (circuit_of c.args.named.now)) names (declarations h.inside) h.name d tab h.found in
    (entry.0, c.find.ensures ∙ ap (found names) name ∙ entry.1)
