-- How two types meet: their fields one by one, and their ground types in a connect or out of one.
use Rattle.std.specs.Prelude.{ℕ, List, Bool, true, false, ◌&&◌}
use Rattle.std.specs.Bool.{beq}
use Rattle.std.specs.Str.{bytes_eq}
use Rattle.fir_ast.specs.Types.{DataType, Fields, no_fields, field}
use Rattle.fir_meaning.specs.Reaching.{field_of_type}
use Rattle.fir_meaning.specs.Equivalence.{same_ground, fitting_ground, alike, met, is_partly_connectable}
use Rattle.fir_type_table.specs.declared.entry.Member.{Member}
use Rattle.fir_type_table.specs.working.Tables.{type_at}

-- the test of ground types in a connect, or out of one
abbrev pub scalar_test : Bool → DataType → DataType → Bool
scalar_test true = fitting_ground
scalar_test false = same_ground

-- one field of two bundles
abbrev pub same_member : List DataType → (DataType → DataType → Bool) → Member → Member → Bool
same_member ts test f g = (beq f.flip g.flip && bytes_eq f.name g.name) && alike test (type_at ts f.ty.number) (type_at ts g.ty.number)

-- a field of the left side of `<-`, and the right side's of that name
abbrev pub field_partly_met : Bool → List ℕ → DataType → DataType → Bool
field_partly_met flip x t u = met true (λ g. beq flip g.flip && is_partly_connectable t g.data_type) (field_of_type x u)

abbrev pub fields_partly_met : Fields → DataType → Bool
fields_partly_met no_fields u = true
fields_partly_met (field p flip x begins t rest) u = field_partly_met flip x t u && fields_partly_met rest u
