-- What names are declared as, in the order of the text (IEEE 1364-2005, 3.7, 4.2, 4.9, 12.3).
use Rattle.std.specs.Prelude.{ℕ, List, [], ◌∷◌, Bool, true, false, Option, Some, None, option_map, if◌then◌else◌}
use Rattle.std.specs.Str.{bytes_eq}
use Rattle.ver_ast.specs.declared.place.VPlace.{VPlace}
use Rattle.ver_check.specs.declared.kind.Kind.{Kind}
use Rattle.ver_check.specs.declared.kind.Kind.TheVariants.{ClockInput, ClockOutput, Input, Output, Wire, Register, Array}

-- a name, what it is declared as, and where it stands there
pub record Declaration : Type 0 where
  pub name : List ℕ
  pub kind : Kind
  pub place : VPlace

abbrev pub Scope : Type 0
Scope = List Declaration

-- the first of a name
abbrev pub declaration_of : Scope → List ℕ → Option Declaration
declaration_of [] name = None
declaration_of (d ∷ ds) name = if bytes_eq name d.name then Some d else declaration_of ds name

abbrev pub kind_of : Scope → List ℕ → Option Kind
kind_of scope name = option_map (λ d. d.kind) (declaration_of scope name)

-- of what has bits at each time
abbrev pub kind_bits : Kind → Option ℕ
kind_bits ClockInput = None
kind_bits ClockOutput = None
kind_bits (Input w) = Some w
kind_bits (Output w) = Some w
kind_bits (Wire w) = Some w
kind_bits (Register w) = Some w
kind_bits (Array w) = None

abbrev pub register_bits : Kind → Option ℕ
register_bits (Register w) = Some w
register_bits _ = None

-- of the words of an array
abbrev pub word_bits : Kind → Option ℕ
word_bits (Array w) = Some w
word_bits _ = None

abbrev pub is_clock_input : Kind → Bool
is_clock_input ClockInput = true
is_clock_input _ = false

-- what an assign has to drive
abbrev pub is_driven : Kind → Bool
is_driven ClockOutput = true
is_driven (Output w) = true
is_driven (Wire w) = true
is_driven _ = false

-- by what is looked for in the kind of a name
abbrev pub found_by : (Kind → Option ℕ) → Option Kind → Option ℕ
found_by bits None = None
found_by bits (Some k) = bits k

abbrev pub bits_of : (Kind → Option ℕ) → Scope → List ℕ → Option ℕ
bits_of bits scope name = found_by bits (kind_of scope name)
