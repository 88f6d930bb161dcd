-- The fields that a text shows of a bundle, one by one.
use Rattle.std.proofs.Common.{◌≡◌, List, [], ◌∷◌, Bool, true, false, map, refl, ap, ◌∙◌}
use Rattle.fir_ast.specs.declared.types.Field.{Field, fold_out-Field}
use Rattle.fir_ast.specs.Types.{DataType, Fields, field}
use Rattle.fir_ast.specs.View.{fields_of}
use Rattle.fir_ast.specs.working.TypeViews.{type_step, field_step, type_of}
use Rattle.fir_ast.specs.working.BundleText.{field_of}
use Rattle.fir_meaning.specs.TypeKinds.{bare}
use Rattle.fir_type_table.specs.declared.entry.Member.{Member}
use Rattle.fir_type_table.specs.working.Tables.{type_at, member_fields, shown, shown_fields}

abbrev pub shown_member : Bool → List DataType → Member → Fields → Fields
shown_member is_bare ts m rest = field m.place m.flip m.name m.type_place (shown is_bare (type_at ts m.ty.number)) rest

pub shown_are : (is_bare : Bool) (ts : List DataType) (ms : List Member) → fields_of (map (shown_member is_bare ts) ms) ≡ shown_fields is_bare (member_fields ts ms)
shown_are true ts [] = refl
shown_are false ts [] = refl
shown_are true ts (m ∷ ms) = ap (field m.place m.flip m.name m.type_place (bare (type_at ts m.ty.number))) (shown_are true ts ms)
shown_are false ts (m ∷ ms) = ap (field m.place m.flip m.name m.type_place (type_at ts m.ty.number)) (shown_are false ts ms)

pub field_shown : (f : Field) (is_bare : Bool) (ts : List DataType) (m : Member) → f.place ≡ m.place → f.flip ≡ m.flip → f.name ≡ m.name
    → f.type_place ≡ m.type_place → type_of f.ty ≡ shown is_bare (type_at ts m.ty.number) → field_of f ≡ shown_member is_bare ts m
field_shown f is_bare ts m place flip name begins same =
    fold_out-Field DataType (Fields → Fields) type_step field_step f ∙ (rw (place, flip, name, begins, same) refl)
