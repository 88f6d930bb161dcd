-- What is found of each expression: its type, and of a reference the leaves that it names. In the order of the text, operands before the form itself, and
-- an index being an operand of its reference.
use Rattle.std.specs.Prelude.{ℕ, zero, suc, ◌+◌, ◌*◌, List, [], ◌∷◌, ◌++◌, if◌then◌else◌, Option, Some, None, option_map}
use Rattle.std.specs.Str.{bytes_eq}
use Rattle.fir_ast.specs.Types.{DataType}
use Rattle.fir_ast.specs.Expressions.{Expression, reference, literal, operation, mux, validif, Parts, no_parts, subfield, subindex, subaccess, Expressions, no_expressions, expression}
use Rattle.fir_ast.specs.Statements.{SinkReference}
use Rattle.fir_meaning.specs.TypeKinds.{FieldFound}
use Rattle.fir_meaning.specs.TypeLeaves.{leaf_count}
use Rattle.fir_meaning.specs.TypedScopes.{Known, TypedScope, known}
use Rattle.fir_meaning.specs.Reaching.{Reached, field_of_type, vector_of_type}
use Rattle.fir_meaning.specs.ExpressionTypes.{expression_type, reaching}
use Rattle.fir_meaning.specs.working.FieldSizes.{leaves_before, shared_before}

-- elements of which an index picks one: how many leaves each has, and how many there are
pub record Pick : Type 0 where
  pub stride : ℕ
  pub length : ℕ

-- the leaves that a reference names: those of its type, behind so many leaves of what is declared behind so many declarations of the module
-- The shared offset counts the leaves of a vector's elements once. Dynamic indices stand in the order of the text; each counts as 0 in the offset
pub record LeafRange : Type 0 where
  pub declaration : ℕ
  pub data_type : DataType
  pub offset : ℕ
  pub shared_offset : ℕ
  pub picks : List Pick

-- behind one part
abbrev pub field_range : List ℕ → LeafRange → Option FieldFound → LeafRange
field_range x r None = r
field_range x r (Some f) =
    record {
      declaration = r.declaration;
      data_type = f.data_type;
      offset = r.offset + leaves_before x r.data_type;
      shared_offset = r.shared_offset + shared_before x r.data_type;
      picks = r.picks;
    }

abbrev pub element_range : ℕ → LeafRange → Option (DataType × ℕ) → LeafRange
element_range i r None = r
element_range i r (Some v) =
    record {
      declaration = r.declaration;
      data_type = v.0;
      offset = r.offset + i * leaf_count v.0;
      shared_offset = r.shared_offset;
      picks = r.picks;
    }

abbrev pub picked_range : LeafRange → Option (DataType × ℕ) → LeafRange
picked_range r None = r
picked_range r (Some v) =
    record {
      declaration = r.declaration;
      data_type = v.0;
      offset = r.offset;
      shared_offset = r.shared_offset;
      picks = r.picks ++ record { stride = leaf_count v.0; length = v.1 } ∷ [];
    }

abbrev pub range_behind : LeafRange → Parts → LeafRange
range_behind r no_parts = r
range_behind r (subfield first p x rest) = range_behind (field_range x r (field_of_type x r.data_type)) rest
range_behind r (subindex first p i rest) = range_behind (element_range i r (vector_of_type r.data_type)) rest
range_behind r (subaccess first e rest) = range_behind (picked_range r (vector_of_type r.data_type)) rest

-- how many are declared before the first of that name
abbrev pub position_of : TypedScope → List ℕ → ℕ
position_of [] name = zero
position_of (k ∷ ks) name = if bytes_eq k.name name then zero else suc (position_of ks name)

-- all leaves of what is declared
abbrev pub whole_range : ℕ → DataType → LeafRange
whole_range declaration t = record { declaration = declaration; data_type = t; offset = 0; shared_offset = 0; picks = [] }

abbrev pub known_range : ℕ → Option Known → Option LeafRange
known_range declaration None = None
known_range declaration (Some k) = option_map (whole_range declaration) k.data_type

abbrev pub root_range : TypedScope → List ℕ → Option LeafRange
root_range scope name = known_range (position_of scope name) (known scope name)

-- an expression that is no reference, and a reference; None where it is nothing
pub data Note : Type 0 where
  of_expression : Option DataType → Note
  of_reference : Option LeafRange → Note

-- a reference that reaches something names leaves
abbrev pub range_where : Option Reached → Option LeafRange → Option LeafRange
range_where None r = None
range_where (Some reached) r = r

abbrev pub reference_note : TypedScope → SinkReference → Note
reference_note scope s = of_reference (range_where (reaching scope s).has (option_map (λ r. range_behind r s.parts) (root_range scope s.name)))

abbrev pub expression_note : TypedScope → Expression → Note
expression_note scope e = of_expression (expression_type scope e).has

abbrev mutual
  pub expression_notes : TypedScope → Expression → List Note
  expression_notes scope (reference p n ps) = part_notes scope ps ++ reference_note scope (record { place = p; name = n; parts = ps }) ∷ []
  expression_notes scope (literal l) = expression_note scope (literal l) ∷ []
  expression_notes scope (operation p op es ks) = notes_of_each scope es ++ expression_note scope (operation p op es ks) ∷ []
  expression_notes scope (mux p c a b) =
      expression_notes scope c ++ expression_notes scope a ++ expression_notes scope b ++ expression_note scope (mux p c a b) ∷ []
  expression_notes scope (validif p c a) = expression_notes scope c ++ expression_notes scope a ++ expression_note scope (validif p c a) ∷ []

  pub part_notes : TypedScope → Parts → List Note
  part_notes scope no_parts = []
  part_notes scope (subfield first p x rest) = part_notes scope rest
  part_notes scope (subindex first p i rest) = part_notes scope rest
  part_notes scope (subaccess first e rest) = expression_notes scope e ++ part_notes scope rest

  pub notes_of_each : TypedScope → Expressions → List Note
  notes_of_each scope no_expressions = []
  notes_of_each scope (expression e es) = expression_notes scope e ++ notes_of_each scope es

abbrev pub reference_notes : TypedScope → SinkReference → List Note
reference_notes scope s = part_notes scope s.parts ++ reference_note scope s ∷ []
