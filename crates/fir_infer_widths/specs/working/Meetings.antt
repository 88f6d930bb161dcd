-- What two sides of a connect ask for where they meet.
use Rattle.std.specs.Prelude.{◌≡◌, ℕ, List, flat_map}
use Rattle.fir_ast.specs.Types.{DataType}
use Rattle.fir_meaning.specs.TypeKinds.{bare_fields}
use Rattle.fir_meaning.specs.WidthExpressions.{Width, Rule}
use Rattle.fir_meaning.specs.WidthRules.{bound}
use Rattle.fir_meaning.specs.SizedMatches.{Match}
use Rattle.fir_meaning.specs.SizedTypes.{SizedFields, bare_type_fields}
use Rattle.fir_type_table.specs.declared.entry.Member.{Member}
use Rattle.fir_type_table.specs.working.Tables.{member_fields}
use Rattle.fir_width.specs.working.FlatWidths.{flat_fields}
use Rattle.fir_width.specs.working.StandingWidths.{Stands}

abbrev pub asked_by : List Match → List Rule
asked_by ms = flat_map (λ m. bound m.driven m.driver) ms

-- the members are those fields, whose leaves stand from the number on
pub record AreFields (ts : List DataType) (meant : List Width) (first : ℕ) (ms : List Member) (fs : SizedFields) : Type 0 where
  pub shape : bare_type_fields fs ≡ bare_fields (member_fields ts ms)
  pub stands : Stands meant first (flat_fields fs)
