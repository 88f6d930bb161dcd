use Rattle.std.proofs.Common.{ap}
use Rattle.std.proofs.lemmas.Result.{on_ok_weaker}
use Rattle.fir_type_table.specs.working.Tables.{type_at, types_of}
use Rattle.fir_types.specs.working.Seen.{found_type}
use Rattle.fir_leaf_text.proofs.AllTexts.{shown_texts}
use Rattle.fir_leaf_text.proofs.all_leaves.push_found_texts.Goals as goal

pub returns-in-Type : goal.returns-in-Type
returns-in-Type c =
    let ts = types_of c.args.table.now in
    on_ok_weaker c.push_type_texts.result
    (λ ensured.
    shown_texts c.in-Type.field-1 (type_at ts c.in-Type.id.number) (found_type ts c.args.found) c.args.path.now.items c.args.texts.now.items
    c.push_type_texts.new.texts.items (ap (found_type ts) c.in-Type.is) ensured)
    c.push_type_texts.ensures.texts
