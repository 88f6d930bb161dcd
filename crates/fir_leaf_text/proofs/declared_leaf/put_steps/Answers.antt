use Rattle.std.proofs.Common.{◌∙◌}
use Rattle.std.proofs.lemmas.Result.{on_ok_weaker}
use Rattle.fir_ast.specs.working.Views.{circuit_of}
use Rattle.fir_type_table.specs.working.Tables.{types_of}
use Rattle.fir_types.specs.working.Seen.{found_type}
use Rattle.fir_leaf_text.proofs.DeclaredTexts.{one_found, steps_there, type_is}
use Rattle.fir_leaf_text.proofs.declared_leaf.put_steps.Goals as goal

pub returns-in_default : goal.returns-in_default
returns-in_default c = λ path leaf.
    let tree = circuit_of c.args.typed.now in
    let none = c.in_default.ensures tree c.findings-findings.ensures ∙ type_is tree c.args.module_number c.args.position c.args.number path leaf in
    absurd (one_found tree c.args.module_number c.args.position c.args.number path leaf none)

pub returns : goal.returns
returns c =
    let tree = circuit_of c.args.typed.now in
    let t = found_type (types_of c.findings-findings.result.now.table) c.in-Some.found in
    on_ok_weaker c.put_found_path.result
    (λ writes path leaf.
    writes leaf.steps
    (steps_there tree c.args.module_number c.args.position c.args.number path leaf t
    (c.in-Some.ensures tree c.findings-findings.ensures ∙ type_is tree c.args.module_number c.args.position c.args.number path leaf)))
    c.put_found_path.ensures
