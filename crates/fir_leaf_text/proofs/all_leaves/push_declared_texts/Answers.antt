use Rattle.std.proofs.Common.{◌≡◌, ap, ◌++◌, ◌∙◌}
use Rattle.std.proofs.lemmas.Result.{on_ok_weaker}
use Rattle.fir_ast.specs.working.Views.{circuit_of}
use Rattle.fir_type_table.specs.working.Tables.{types_of}
use Rattle.fir_types.specs.working.Seen.{found_type}
use Rattle.fir_leaf_text.proofs.AllTexts.{found_declared, none_declared}
use Rattle.fir_leaf_text.proofs.all_leaves.push_declared_texts.Goals as goal

pub returns-in_default : goal.returns-in_default
returns-in_default c =
    let tree = circuit_of c.args.typed.now in
    none_declared tree c.args.module_number c.args.position c.args.name.now c.args.texts.now.items
    (c.in_default.ensures tree c.findings-findings.ensures)

pub returns : goal.returns
returns c =
    let tree = circuit_of c.args.typed.now in
    let t = found_type (types_of c.findings-findings.result.now.table) c.in-Some.found in
    let path = c.extend_from_slice.new.self.items in
    let same : path ≡ c.args.name.now =
    c.in_ok-extend_from_slice.ensures.items ∙ ap (λ l. l ++ c.as_bytes.result.now) c.clear.ensures.items ∙ c.as_bytes.ensures in
    on_ok_weaker c.push_found_texts.result
    (λ ensured.
    found_declared tree c.args.module_number c.args.position c.args.name.now path t c.args.texts.now.items c.push_found_texts.new.texts.items
    (c.in-Some.ensures tree c.findings-findings.ensures) same ensured)
    c.push_found_texts.ensures
