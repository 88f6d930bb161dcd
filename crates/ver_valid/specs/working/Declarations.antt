-- What names are declared as, in the order of the text.
use Rattle.std.specs.Prelude.{ℕ, List, [], ◌∷◌, ◌++◌, map, flat_map, Bool, true, false, Option, Some, None, if◌then◌else◌, ◌≤◌}
use Rattle.std.specs.Str.{bytes_eq}
use Rattle.fir_base.specs.declared.direction.Direction.{Direction}
use Rattle.fir_base.specs.declared.direction.Direction.TheVariants.{Input as InputPort, Output as OutputPort}
use Rattle.ver_ast.specs.declared.tree.Verilog.{Verilog}
use Rattle.ver_ast.specs.declared.tree.Port.{Port}
use Rattle.ver_ast.specs.declared.tree.Item.{Item}
use Rattle.ver_ast.specs.declared.tree.Item.TheVariants as item
use Rattle.ver_valid.specs.declared.declared.Declared.{Declared}
use Rattle.ver_valid.specs.declared.declared.Declared.TheVariants.{ClockInput, ClockOutput, Input, Output, Wire, Register, Array}

abbrev pub Entry : Type 0
Entry = List ℕ × Declared

abbrev pub kind_of : Bool → Direction → ℕ → Declared
kind_of true InputPort w = ClockInput
kind_of true OutputPort w = ClockOutput
kind_of false InputPort w = Input w
kind_of false OutputPort w = Output w

abbrev pub port_kind : Port → Declared
port_kind p = kind_of p.is_clock p.direction p.width

abbrev pub port_entry : Port → Entry
port_entry p = (p.name, port_kind p)

abbrev pub item_entries : Item → List Entry
item_entries (item.Wire n) = (n.name, Wire n.width) ∷ []
item_entries (item.Reg n) = (n.name, Register n.width) ∷ []
item_entries (item.Array a) = (a.name, Array a.width a.last) ∷ []
item_entries _ = []

abbrev pub entries : Verilog → List Entry
entries v = map port_entry v.ports ++ flat_map item_entries v.items

abbrev pub entry_names : List Entry → List (List ℕ)
entry_names = map (λ e. e.0)

-- what the first of that name is declared as
abbrev pub kind_among : List Entry → List ℕ → Option Declared
kind_among [] name = None
kind_among (e ∷ es) name = if bytes_eq name e.0 then Some e.1 else kind_among es name

abbrev pub IsNarrow : ℕ → Type 0
IsNarrow w = (1 ≤ w) × (w ≤ 128)

-- a clock has no bits
abbrev pub IsNarrowKind : Declared → Type 0
IsNarrowKind ClockInput = Unit {0}
IsNarrowKind ClockOutput = Unit {0}
IsNarrowKind (Input w) = IsNarrow w
IsNarrowKind (Output w) = IsNarrow w
IsNarrowKind (Wire w) = IsNarrow w
IsNarrowKind (Register w) = IsNarrow w
IsNarrowKind (Array w last) = IsNarrow w
