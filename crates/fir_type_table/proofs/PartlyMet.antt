-- Fields that meet one by one are those of two bundles that a partial connect may join.
use Rattle.std.proofs.Common.{◌≡◌, ◌&&◌, refl, ap}
use Rattle.fir_ast.specs.Types.{bundle, Fields, no_fields, field}
use Rattle.fir_meaning.specs.Equivalence.{fields_partly_connectable}
use Rattle.fir_type_table.specs.working.Meetings.{field_partly_met, fields_partly_met}

pub fields_met_are : (fs gs : Fields) → fields_partly_met fs (bundle gs) ≡ fields_partly_connectable fs gs
fields_met_are no_fields gs = refl
fields_met_are (field p flip x begins t rest) gs = ap (λ b. field_partly_met flip x t (bundle gs) && b) (fields_met_are rest gs)
