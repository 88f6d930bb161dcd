use Rattle.std.proofs.Common.{ap}
use Rattle.std.proofs.lemmas.Result.{on_ok_weaker}
use Rattle.fir_type_table.specs.working.Tables.{type_at, types_of}
use Rattle.fir_types.specs.working.Seen.{found_type}
use Rattle.fir_leaf_text.proofs.DeclaredTexts.{writes_shown}
use Rattle.fir_leaf_text.proofs.declared_leaf.put_found_path.Goals as goal

pub returns-in-Type : goal.returns-in-Type
returns-in-Type c =
    let ts = types_of c.args.table.now in
    on_ok_weaker c.put_leaf_path.result
    (writes_shown c.in-Type.field-1 (type_at ts c.in-Type.id.number) (found_type ts c.args.found) c.args.number c.args.text.now.items
    c.put_leaf_path.new.path.items (ap (found_type ts) c.in-Type.is))
    c.put_leaf_path.ensures
