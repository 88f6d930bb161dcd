-- The command line, as clap reads it.
-- The words are the program's name and a command: `check FILE`, `emit FILE`, `sim CIRCUIT TRACE` or `vsim VFILE TRACE`. Before, between or behind the files
-- of the last two `--state` may stand, and of `vsim` `--order N` too. No word asks for help or for a version. What else may be written, as a name behind
-- `--`, is as clap has it.
use Rattle.std.specs.Prelude.{ℕ, ◌^◌, ◌==◌, ◌&&◌, ◌||◌, nat_lt, List, [], ◌∷◌, Bool, true, false, not, codes, if◌then◌else◌, map, Option, Some, None, option_and_then, option_map, String, string_bytes}
use Rattle.std.specs.List.{list_all}
use Rattle.std.specs.Option.{option_map_or}
use Rattle.std.specs.Str.{bytes_eq}
use Rattle.std.specs.declared.alloc.Global.{Global}
use Rattle.clap.specs.Words.{App, Row, Rule, Shape, Text, fault_of, first_of, new_rule, one_of, subcommand_of}
use Rattle.clap.specs.Walk.{is_empty}
use Rattle.clap.specs.Simple.{new_shape}
use Rattle.clap.specs.declared.builder.action.ArgAction.TheVariants.{Set, SetTrue}
use Rattle.fir_base.specs.Bytes.{is_digit}
use Rattle.fir_base.specs.Digits.{decimal_value}

-- ---- the commands, as clap is told them

-- a word that has to be there, found by its place and kept under this id
abbrev pub name_of_file : Text → Rule
name_of_file id = record (new_rule id) { required = true }

-- the word `--id`, which need not be there
abbrev pub flag : Text → Rule
flag id = record (new_rule id) { long = Some id; action = Some SetTrue }

-- the word `--id` with a value, which need not be there
abbrev pub option_with_value : Text → Rule
option_with_value id = record (new_rule id) { long = Some id; action = Some Set }

-- a command of this name, with these arguments
abbrev pub command_with : Text → List Rule → Shape
command_with name rules = record (new_shape name) { rules = rules }

abbrev pub command_set : App
command_set = record {
  top = record (new_shape (codes "firc")) { is_leaf = false; subcommand_required = true; disable_help_flag = true; disable_help_subcommand = true };
  subs = command_with (codes "check") (name_of_file (codes "file") ∷ [])
      ∷ command_with (codes "emit") (name_of_file (codes "file") ∷ [])
      ∷ command_with (codes "sim") (name_of_file (codes "circuit") ∷ name_of_file (codes "trace") ∷ flag (codes "state") ∷ [])
      ∷ command_with (codes "vsim") (name_of_file (codes "file") ∷ name_of_file (codes "trace") ∷ flag (codes "state") ∷ option_with_value (codes "order") ∷ [])
      ∷ [];
}

-- ---- numbers

-- decimal digits, and no zero before others
abbrev pub is_decimal : Text → Bool
is_decimal [] = false
is_decimal (d ∷ ds) = list_all is_digit (d ∷ ds) && (is_empty ds || not (d == 48))

-- the number below 2^32 that the text spells
abbrev pub number_of : Text → Option ℕ
number_of text = if is_decimal text && nat_lt (decimal_value text) (2 ^ 32) then Some (decimal_value text) else None

-- ---- what the words ask for

-- the files of a circuit and of a trace, and whether the state is shown
pub record Simulated : Type 0 where
  pub circuit : Text
  pub trace : Text
  pub with_state : Bool

-- the files of a Verilog text and of a trace, whether the state is shown, and the number of an order of its processes, where one is given
pub record SimulatedVerilog : Type 0 where
  pub verilog : Text
  pub trace : Text
  pub with_state : Bool
  pub order : Option ℕ

-- whether a circuit is valid, its Verilog, or a simulation of it or of a Verilog text; each with the names of its files
pub data Command : Type 0 where
  check : Text → Command
  emit : Text → Command
  sim : Simulated → Command
  vsim : SimulatedVerilog → Command

abbrev pub simulation_of : Text → Text → Bool → Simulated
simulation_of circuit trace with_state = record { circuit = circuit; trace = trace; with_state = with_state }

abbrev pub verilog_simulation_of : Text → Text → Bool → Option ℕ → SimulatedVerilog
verilog_simulation_of verilog trace with_state order = record { verilog = verilog; trace = trace; with_state = with_state; order = order }

-- the flag is among the words: clap then gives it the value `true`, and else `false`
abbrev pub is_set : Text → List Row → Bool
is_set id rows = option_map_or (λ value. bytes_eq value (codes "true")) (one_of id rows) false

abbrev pub simulation_in : List Row → Option Simulated
simulation_in rows = option_and_then (λ circuit. option_map (λ trace. simulation_of circuit trace (is_set (codes "state") rows)) (first_of (codes "trace") rows))
    (first_of (codes "circuit") rows)

-- the order that is given, if any; nothing is asked for where what is given is no number
abbrev pub order_in : List Row → Option (Option ℕ)
order_in rows = option_map_or (λ text. option_map (λ n. Some n) (number_of text)) (first_of (codes "order") rows) (Some None)

abbrev pub verilog_simulation_in : List Row → Option SimulatedVerilog
verilog_simulation_in rows = option_and_then (λ verilog. option_and_then (λ trace. option_map
    (λ order. verilog_simulation_of verilog trace (is_set (codes "state") rows) order) (order_in rows)) (first_of (codes "trace") rows)) (first_of (codes "file") rows)

-- the command of this name, with what clap found for its arguments
abbrev pub command_in : Text → List Row → Option Command
command_in name rows =
    if bytes_eq name (codes "check") then option_map check (first_of (codes "file") rows)
    else if bytes_eq name (codes "emit") then option_map emit (first_of (codes "file") rows)
    else if bytes_eq name (codes "sim") then option_map sim (simulation_in rows)
    else if bytes_eq name (codes "vsim") then option_map vsim (verilog_simulation_in rows)
    else None

-- the same, of the name and the arguments that clap found
abbrev pub command_found : Option (Text × List Row) → Option Command
command_found = option_and_then (λ found. command_in found.0 found.1)

-- clap finds no fault in the words
abbrev pub is_taken : List Text → Bool
is_taken words = is_empty (fault_of command_set words)

-- what the words ask for, where they are taken
abbrev pub command_of : List Text → Option Command
command_of words = if is_taken words then command_found (subcommand_of command_set words) else None

-- the same, of words as the program has them
abbrev pub asked_by : List (String Global) → Option Command
asked_by words = command_of (map string_bytes words)
