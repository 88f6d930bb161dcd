-- The values of leaves and literals, and what a condition picks (FIRRTL spec, "Expressions", "Literals", "Multiplexers", "Connects").
-- A mux is the first arm where its condition is 1, else the second, at the greater one of their widths; a validif is its value where the condition is 1.
-- That it is zero where the condition is 0, and that a source that is wider than its sink is cut, in `<=` too, are choices of this project.
use Rattle.std.specs.Prelude.{ℕ, List, Option, Some, None, max, min, Bool, ◌==◌, if◌then◌else◌}
use Rattle.fir_bits.specs.declared.types.NumTy.{NumTy}
use Rattle.fir_bits.specs.declared.values.Num.{Num}
use Rattle.fir_bits.specs.Values.{fitted}
use Rattle.fir_bits.specs.Integers.{bits_of, of_sign}
use Rattle.fir_bits.specs.Literals.{least_width}
use Rattle.fir_bits.specs.Operators.{first_operand}
use Rattle.fir_ast.specs.declared.expressions.Literal.{Literal}

abbrev pub number_of : NumTy → ℕ → Num
number_of t n = record { signed = t.signed; value = record { width = t.width; number = n } }

-- without a written width a literal has the least that holds it; 129 stands for all that is over 128 bits
abbrev pub counted_literal_width : Option ℕ → Bool → Bool → ℕ → ℕ
counted_literal_width None signed negative magnitude = least_width signed negative magnitude
counted_literal_width (Some width) signed negative magnitude = min width 129

abbrev pub literal_type : Literal → NumTy
literal_type l = record { signed = l.signed; width = counted_literal_width l.width l.signed l.negative l.magnitude }

abbrev pub literal_value : Literal → Num
literal_value l = number_of (literal_type l) (bits_of (literal_type l).width (of_sign l.negative l.magnitude))

-- whether a condition is 1
abbrev pub is_high : List Num → Bool
is_high vs = (first_operand vs).value.number == 1

-- a value at a width: extended by its own sign, or cut to its low bits
abbrev pub at_width : Num → ℕ → ℕ
at_width v width = fitted v.signed v.value.width v.value.number width

-- a value at the type of a sink: a narrower one is extended by its own sign, a wider one cut to its low bits
abbrev pub fit : Num → NumTy → ℕ
fit v t = at_width v t.width

abbrev pub choice : Bool → Num → Num → Num
choice high a b =
    let width = max a.value.width b.value.width in
    record { signed = a.signed; value = record { width = width; number = if high then at_width a width else at_width b width } }

abbrev pub value_or_zero : Bool → Num → Num
value_or_zero high v = record { signed = v.signed; value = record { width = v.value.width; number = if high then v.value.number else 0 } }
