-- Types of expressions, with E12, E13, E15 and E16 (FIRRTL spec, "Expressions", "Multiplexers", "Conditionally Valids", "Primitive Operations").
-- Each form says what it is from what its operands are found to be. A condition, an index and an arm are tested where they stand, before what stands
-- behind them.
use Rattle.std.specs.Prelude.{ℕ, List, [], ◌∷◌, Bool, true, false, ◌&&◌, if◌then◌else◌, Option, None, option_map, Result, Ok, Err}
use Rattle.fir_bits.specs.declared.operators.PrimOp.{PrimOp}
use Rattle.fir_ast.specs.declared.place.Place.{Place}
use Rattle.fir_ast.specs.Types.{DataType, uint, sint}
use Rattle.fir_ast.specs.Expressions.{Expression, reference, literal, operation, mux, validif, Parts, no_parts, subfield, subindex, subaccess, Expressions, no_expressions, expression}
use Rattle.fir_ast.specs.Statements.{SinkReference}
use Rattle.fir_ast.specs.Faults.{Fault}
use Rattle.fir_meaning.specs.TypeKinds.{is_passive, is_numeric, bare}
use Rattle.fir_meaning.specs.Equivalence.{is_equivalent}
use Rattle.fir_meaning.specs.ExpressionPlaces.{place_of}
use Rattle.fir_meaning.specs.KindFaults.{wrong_kinds, wrong_types, not_passive}
use Rattle.fir_meaning.specs.Checked.{Checked, is_found, after, together}
use Rattle.fir_meaning.specs.OperationTypes.{type_of_operation}
use Rattle.fir_meaning.specs.TypedScopes.{TypedScope}
use Rattle.fir_meaning.specs.Reaching.{Reached, to_field, to_index, to_any, root}

abbrev pub number_data_type : Bool → Option ℕ → DataType
number_data_type true width = sint width
number_data_type false width = uint width

-- a condition and an index are a UInt
abbrev pub unsigned_at : Place → DataType → Result DataType Fault
unsigned_at p (uint width) = Ok (uint width)
unsigned_at p t = Err (wrong_kinds p (t ∷ []))

abbrev pub passive_at : Place → DataType → Result DataType Fault
passive_at p t = if is_passive t then Ok t else Err (not_passive p t)

abbrev pub type_of_mux : Place → DataType × DataType → Result DataType Fault
type_of_mux p arms =
    if is_numeric arms.0 && is_numeric arms.1
    then if is_equivalent arms.0 arms.1 then Ok (bare arms.0) else Err (wrong_types p arms.0 arms.1)
    else Err (wrong_kinds p (arms.0 ∷ arms.1 ∷ []))

abbrev pub type_of_validif : Place → DataType → Result DataType Fault
type_of_validif p t = if is_numeric t then Ok (bare t) else Err (wrong_kinds p (t ∷ []))

abbrev pub type_reached : Checked Reached → Checked DataType
type_reached c = record { has = option_map (λ r. r.data_type) c.has; shows = c.shows }

-- a form on what its operands are found to be
abbrev pub condition_form : Place → Checked DataType → Checked DataType
condition_form p c = after c (unsigned_at p)

abbrev pub passive_form : Place → Checked DataType → Checked DataType
passive_form p c = after c (passive_at p)

abbrev pub operation_form : Place → PrimOp → List ℕ → Checked (List DataType) → Checked DataType
operation_form p op integers c = after c (type_of_operation p op integers)

abbrev pub mux_form : Place → Checked DataType → Checked DataType → Checked DataType → Checked DataType
mux_form p c a b = after (together (λ t arms. arms) c (together (λ t u. (t, u)) a b)) (type_of_mux p)

abbrev pub validif_form : Place → Checked DataType → Checked DataType → Checked DataType
validif_form p c a = after (together (λ t u. u) c a) (type_of_validif p)

abbrev pub field_form : Place → List ℕ → Checked Reached → Checked Reached
field_form p x c = after c (to_field p x)

abbrev pub index_form : Place → ℕ → Checked Reached → Checked Reached
index_form p i c = after c (to_index p i)

abbrev pub access_form : Place → Checked Reached → Checked DataType → Checked Reached
access_form p c index = after (together (λ r t. r) c index) (to_any p)

abbrev mutual
  pub expression_type : TypedScope → Expression → Checked DataType
  expression_type scope (reference p n ps) = type_reached (along_parts scope p (root scope n) ps)
  expression_type scope (literal l) = is_found (number_data_type l.signed l.width)
  expression_type scope (operation p op es ks) = operation_form p op ks (expression_types scope es)
  expression_type scope (mux p c a b) =
      mux_form
      p
      (condition_form (place_of c) (expression_type scope c))
      (passive_form (place_of a) (expression_type scope a))
      (passive_form (place_of b) (expression_type scope b))
  expression_type scope (validif p c a) =
      validif_form p (condition_form (place_of c) (expression_type scope c)) (passive_form (place_of a) (expression_type scope a))

  -- from what the parts so far reach
  pub along_parts : TypedScope → Place → Checked Reached → Parts → Checked Reached
  along_parts scope p c no_parts = c
  along_parts scope p c (subfield first q x rest) = along_parts scope p (field_form p x c) rest
  along_parts scope p c (subindex first q i rest) = along_parts scope p (index_form p i c) rest
  along_parts scope p c (subaccess first e rest) =
      along_parts scope p (access_form p c (condition_form (place_of e) (expression_type scope e))) rest

  pub expression_types : TypedScope → Expressions → Checked (List DataType)
  expression_types scope no_expressions = is_found []
  expression_types scope (expression e es) = together (λ t ts. t ∷ ts) (expression_type scope e) (expression_types scope es)

-- what a name with its parts reaches
abbrev pub reaching : TypedScope → SinkReference → Checked Reached
reaching scope s = along_parts scope s.place (root scope s.name) s.parts

-- what an expression reaches that is a reference
abbrev pub reached_by : TypedScope → Expression → Option Reached
reached_by scope (reference p n ps) = (reaching scope (record { place = p; name = n; parts = ps })).has
reached_by scope _ = None
