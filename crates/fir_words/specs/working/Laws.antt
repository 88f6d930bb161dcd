-- Laws about what the words ask for.
use Rattle.std.specs.Prelude.{◌≡◌, ◌==◌, ◌<◌, ◌^◌, ◌&&◌, ◌↔◌, ℕ, zero, suc, List, [], ◌∷◌, Bool, false, true, Option, Some, None, codes, decimal, flat_map, if◌then◌else◌, is_some, option_and_then}
use Rattle.std.specs.Option.{option_map_or}
use Rattle.std.specs.Str.{bytes_eq}
use Rattle.clap.specs.Words.{Row, Text, first_of, subcommand_of}
use Rattle.fir_words.specs.Commands.{SimulatedVerilog, check, command_of, command_set, emit, is_taken, number_of, sim, simulation_of, verilog_simulation_of, vsim}

-- what a simulation of a Verilog text is given for an order, if anything is, by the command's name and arguments as clap finds them
abbrev pub order_given : Option (Text × List Row) → Option Text
order_given = option_and_then (λ found. if bytes_eq found.0 (codes "vsim") then first_of (codes "order") found.1 else None)

-- an order that is given is a number
abbrev pub is_number_if_given : Option Text → Bool
is_number_if_given order = option_map_or (λ text. is_some (number_of text)) order true

-- words are a command exactly where clap takes them and the order, where one is given, is a number
abbrev pub TakenIsCommand : Type 0
TakenIsCommand = (words : List Text) → is_some (command_of words) ≡ (is_taken words && is_number_if_given (order_given (subcommand_of command_set words)))

-- a text spells a number below 2^32 exactly where it is the number in decimal
abbrev pub NumberIsDecimal : Type 0
NumberIsDecimal = (text : Text) (n : ℕ) → (number_of text ≡ Some n) ↔ ((text ≡ decimal n) × (n < 2 ^ 32))

abbrev pub begins_with_dash : Text → Bool
begins_with_dash [] = false
begins_with_dash (x ∷ xs) = x == 45

-- a command of one file asks for it by any name that does not begin with a dash
abbrev pub PlainNameIsTaken : Type 0
PlainNameIsTaken = (program file : Text) → begins_with_dash file ≡ false
    → (command_of (program ∷ codes "check" ∷ file ∷ []) ≡ Some (check file)) × (command_of (program ∷ codes "emit" ∷ file ∷ []) ≡ Some (emit file))

-- and `sim` two files, with `--state` in any place
abbrev pub PlainNamesAreTaken : Type 0
PlainNamesAreTaken = (program circuit trace : Text) → begins_with_dash circuit ≡ false → begins_with_dash trace ≡ false
    → (command_of (program ∷ codes "sim" ∷ circuit ∷ trace ∷ []) ≡ Some (sim (simulation_of circuit trace false)))
    × (command_of (program ∷ codes "sim" ∷ circuit ∷ trace ∷ codes "--state" ∷ []) ≡ Some (sim (simulation_of circuit trace true)))
    × (command_of (program ∷ codes "sim" ∷ circuit ∷ codes "--state" ∷ trace ∷ []) ≡ Some (sim (simulation_of circuit trace true)))
    × (command_of (program ∷ codes "sim" ∷ codes "--state" ∷ circuit ∷ trace ∷ []) ≡ Some (sim (simulation_of circuit trace true)))

-- groups of words, with this one before as many of them, or behind them all where they are fewer
abbrev pub placed : ℕ → List Text → List (List Text) → List (List Text)
placed place group [] = group ∷ []
placed zero group (first ∷ rest) = group ∷ first ∷ rest
placed (suc place) group (first ∷ rest) = first ∷ placed place group rest

abbrev pub state_words : List Text
state_words = codes "--state" ∷ []

abbrev pub order_words : ℕ → List Text
order_words n = codes "--order" ∷ decimal n ∷ []

abbrev pub AsksFor : Text → List (List Text) → SimulatedVerilog → Type 0
AsksFor program groups asked = command_of (program ∷ codes "vsim" ∷ flat_map (λ group. group) groups) ≡ Some (vsim asked)

-- and `vsim` two files, with `--state` and an order in any places
abbrev pub PlainVerilogIsTaken : Type 0
PlainVerilogIsTaken = (program verilog trace : Text) (order : ℕ) → begins_with_dash verilog ≡ false → begins_with_dash trace ≡ false → order < 2 ^ 32
    → let files = (verilog ∷ []) ∷ (trace ∷ []) ∷ [] in
    AsksFor program files (verilog_simulation_of verilog trace false None)
    × ((i : ℕ) → AsksFor program (placed i state_words files) (verilog_simulation_of verilog trace true None))
    × ((i : ℕ) → AsksFor program (placed i (order_words order) files) (verilog_simulation_of verilog trace false (Some order)))
    × ((i j : ℕ) → AsksFor program (placed i state_words (placed j (order_words order) files)) (verilog_simulation_of verilog trace true (Some order)))
