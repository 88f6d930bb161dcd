-- The widths of what is declared, by kind.
use Rattle.std.specs.Prelude.{ℕ, ◌+◌, List, [], ◌∷◌, Bool, true, false, Option, Some, None, if◌then◌else◌}
use Rattle.ver_ast.specs.Nets.{SizedNet, Variable}
use Rattle.ver_valid.specs.declared.declared.Declared.{Declared}
use Rattle.ver_valid.specs.declared.declared.Declared.TheVariants.{ClockInput, ClockOutput, Input, Output, Wire, Register, Array}
use Rattle.ver_valid.specs.working.Declarations.{Entry}

-- of what has bits at each time
abbrev pub net_width : Declared → Option ℕ
net_width ClockInput = None
net_width ClockOutput = None
net_width (Input w) = Some w
net_width (Output w) = Some w
net_width (Wire w) = Some w
net_width (Register w) = Some w
net_width (Array w last) = None

abbrev pub register_width : Declared → Option ℕ
register_width (Register w) = Some w
register_width _ = None

abbrev pub input_width : Declared → Option ℕ
input_width (Input w) = Some w
input_width _ = None

abbrev pub output_width : Declared → Option ℕ
output_width (Output w) = Some w
output_width _ = None

abbrev pub wire_width : Declared → Option ℕ
wire_width (Wire w) = Some w
wire_width _ = None

-- of what an assign drives
abbrev pub driven_width : Declared → Option ℕ
driven_width (Output w) = Some w
driven_width (Wire w) = Some w
driven_width _ = None

-- of the words of an array
abbrev pub word_width : Declared → Option ℕ
word_width (Array w last) = Some w
word_width _ = None

abbrev pub is_clock_input : Declared → Bool
is_clock_input ClockInput = true
is_clock_input _ = false

abbrev pub is_clock_output : Declared → Bool
is_clock_output ClockOutput = true
is_clock_output _ = false

abbrev pub sized_as : List ℕ → Option ℕ → List SizedNet
sized_as n (Some w) = (n, w) ∷ []
sized_as n None = []

-- the names with their widths, where they have one
abbrev pub sized : (Declared → Option ℕ) → Entry → List SizedNet
sized width e = sized_as e.0 (width e.1)

abbrev pub chosen : (Declared → Bool) → Entry → List (List ℕ)
chosen test e = if test e.1 then e.0 ∷ [] else []

abbrev pub array_of : List ℕ → Declared → List Variable
array_of n (Array w last) = record { name = n; width = w; depth = last + 1 } ∷ []
array_of n _ = []

abbrev pub array_entry : Entry → List Variable
array_entry e = array_of e.0 e.1
