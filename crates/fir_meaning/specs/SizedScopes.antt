-- What a name stands for with its widths, and the sized types of expressions (FIRRTL spec, "Expressions", "References").
use Rattle.std.specs.Prelude.{ℕ, List, [], ◌∷◌, if◌then◌else◌, unwrap_or}
use Rattle.std.specs.Str.{bytes_eq}
use Rattle.fir_bits.specs.Literals.{least_width}
use Rattle.fir_ast.specs.declared.expressions.Literal.{Literal}
use Rattle.fir_ast.specs.Expressions.{Expression, reference, literal, operation, mux, validif, Parts, no_parts, subfield, subindex, subaccess, Expressions, no_expressions, expression}
use Rattle.fir_ast.specs.Statements.{SinkReference}
use Rattle.fir_meaning.specs.WidthExpressions.{known}
use Rattle.fir_meaning.specs.SizedTypes.{Sized, scalar, untyped, sized_named, sized_found, fields_in, element_in}
use Rattle.fir_meaning.specs.SizedOperations.{number_scalar, width_in, sized_operation, greater_of, guarded_by}

pub record SizedName : Type 0 where
  pub name : List ℕ
  pub sized : Sized

-- in the order of the text
abbrev pub SizedScope : Type 0
SizedScope = List SizedName

-- the first of a name
abbrev pub sized_in : SizedScope → List ℕ → Sized
sized_in [] name = untyped
sized_in (d ∷ ds) name = if bytes_eq d.name name then d.sized else sized_in ds name

-- what the parts of a reference lead to: each element of a vector has the type of all, whatever the index
abbrev pub sized_part : Sized → Parts → Sized
sized_part t no_parts = t
sized_part t (subfield first p x rest) = sized_part (sized_found (sized_named x (fields_in t))) rest
sized_part t (subindex first p i rest) = sized_part (element_in t) rest
sized_part t (subaccess first e rest) = sized_part (element_in t) rest

-- without a width a literal has the least that holds it
abbrev pub literal_width : Literal → ℕ
literal_width l = unwrap_or l.width (least_width l.signed l.negative l.magnitude)

abbrev mutual
  pub sized_type : SizedScope → Expression → Sized
  sized_type scope (reference p n ps) = sized_part (sized_in scope n) ps
  sized_type scope (literal l) = scalar (number_scalar l.signed) (known (literal_width l))
  sized_type scope (operation p op es ks) = sized_operation op (sized_types scope es) ks
  sized_type scope (mux p c a b) = guarded_by (width_in (sized_type scope c)) (greater_of (sized_type scope a) (sized_type scope b))
  sized_type scope (validif p c a) = guarded_by (width_in (sized_type scope c)) (sized_type scope a)

  pub sized_types : SizedScope → Expressions → List Sized
  sized_types scope no_expressions = []
  sized_types scope (expression e es) = sized_type scope e ∷ sized_types scope es

abbrev pub sink_expression : SinkReference → Expression
sink_expression s = reference s.place s.name s.parts
