use Rattle.std.proofs.Common.{refl, map, take}
use Rattle.std.proofs.lemmas.List.{map_more}
use Rattle.fir_ast.specs.working.TypeViews.{type_of}
use Rattle.fir_ast.specs.working.BundleText.{field_of}
use Rattle.fir_type_table.specs.declared.entry.Part.{Part}
use Rattle.fir_type_table.proofs.AddedParts.{adds_part, field_made}
use Rattle.fir_type_table.proofs.add.+add.Goals as goal

pub add_fields-loop-field-preserved : goal.add_fields-loop-field-preserved
add_fields-loop-field-preserved t c =
    let fields = c.args.fields.now in
    let i = c.loop-field.field-index in
    let f = c.field-item.result in
    let p : Part = record { place = f.place; flip = f.flip; name = c.in_ok-copy.field-0; type_place = f.type_place; ty = c.in_ok-ty.ty } in
    rw (c.in_ok-push.ensures.items, map_more field_of fields i f c.loop-field-test.true, ← c.field-item.is)
    (adds_part c.args.table.now c.loop-field.table c.add_type.new.table c.loop-field.parts.items p (map field_of (take i fields)) (field_of f)
    (type_of f.ty) c.loop-field.invariant c.in_ok-ty.ensures (field_made f p refl refl c.in_ok-copy.ensures refl))
