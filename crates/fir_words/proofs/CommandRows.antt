-- What some words ask for, computed by the checker.
use Rattle.std.proofs.Common.{◌≡◌, ℕ, List, [], ◌∷◌, Bool, Option, Some, None, refl}
use Rattle.std.specs.Prelude.{codes, true, false}
use Rattle.clap.specs.Words.{Text}
use Rattle.clap.proofs.OnLiterals.{clap_on_literals}
use Rattle.fir_words.specs.Commands.{Command, check, command_of, emit, sim, simulation_of, verilog_simulation_of, vsim}

-- the words behind the program's name
abbrev asks : List Text → Option Command
asks words = command_of (codes "firc" ∷ words)

abbrev simulation : Bool → Option Command
simulation with_state = Some (sim (simulation_of (codes "c") (codes "t") with_state))

abbrev verilog_simulation : Bool → Option ℕ → Option Command
verilog_simulation with_state order = Some (vsim (verilog_simulation_of (codes "v") (codes "t") with_state order))

-- `vsim` with a number as its order
abbrev asks_order : List ℕ → Option Command
asks_order number = asks (codes "vsim" ∷ codes "v" ∷ codes "t" ∷ codes "--order" ∷ number ∷ [])

-- ---- each command

check_of_a_file : asks (codes "check" ∷ codes "f" ∷ []) ≡ Some (check (codes "f"))
unfolding clap_on_literals
check_of_a_file = refl

emit_of_a_file : asks (codes "emit" ∷ codes "f" ∷ []) ≡ Some (emit (codes "f"))
unfolding clap_on_literals
emit_of_a_file = refl

simulation_of_two_files : asks (codes "sim" ∷ codes "c" ∷ codes "t" ∷ []) ≡ simulation false
unfolding clap_on_literals
simulation_of_two_files = refl

-- ---- the state, wherever its word stands

state_behind : asks (codes "sim" ∷ codes "c" ∷ codes "t" ∷ codes "--state" ∷ []) ≡ simulation true
unfolding clap_on_literals
state_behind = refl

state_before : asks (codes "sim" ∷ codes "--state" ∷ codes "c" ∷ codes "t" ∷ []) ≡ simulation true
unfolding clap_on_literals
state_before = refl

state_between : asks (codes "sim" ∷ codes "c" ∷ codes "--state" ∷ codes "t" ∷ []) ≡ simulation true
unfolding clap_on_literals
state_between = refl

state_twice : asks (codes "sim" ∷ codes "c" ∷ codes "t" ∷ codes "--state" ∷ codes "--state" ∷ []) ≡ None
unfolding clap_on_literals
state_twice = refl

state_with_a_value : asks (codes "sim" ∷ codes "c" ∷ codes "t" ∷ codes "--state=1" ∷ []) ≡ None
unfolding clap_on_literals
state_with_a_value = refl

half_of_state : asks (codes "sim" ∷ codes "c" ∷ codes "t" ∷ codes "--stat" ∷ []) ≡ None
unfolding clap_on_literals
half_of_state = refl

state_of_emit : asks (codes "emit" ∷ codes "--state" ∷ codes "f" ∷ []) ≡ None
unfolding clap_on_literals
state_of_emit = refl

state_of_no_command : asks (codes "--state" ∷ codes "sim" ∷ codes "c" ∷ codes "t" ∷ []) ≡ None
unfolding clap_on_literals
state_of_no_command = refl

-- ---- an order, wherever its words stand

verilog_of_two_files : asks (codes "vsim" ∷ codes "v" ∷ codes "t" ∷ []) ≡ verilog_simulation false None
unfolding clap_on_literals
verilog_of_two_files = refl

order_behind : asks (codes "vsim" ∷ codes "v" ∷ codes "t" ∷ codes "--order" ∷ codes "5" ∷ []) ≡ verilog_simulation false (Some 5)
unfolding clap_on_literals
order_behind = refl

order_before : asks (codes "vsim" ∷ codes "--order" ∷ codes "5" ∷ codes "v" ∷ codes "t" ∷ []) ≡ verilog_simulation false (Some 5)
unfolding clap_on_literals
order_before = refl

order_between_with_state : asks (codes "vsim" ∷ codes "v" ∷ codes "--order" ∷ codes "5" ∷ codes "t" ∷ codes "--state" ∷ []) ≡ verilog_simulation true (Some 5)
unfolding clap_on_literals
order_between_with_state = refl

order_in_one_word : asks (codes "vsim" ∷ codes "v" ∷ codes "t" ∷ codes "--order=7" ∷ []) ≡ verilog_simulation false (Some 7)
unfolding clap_on_literals
order_in_one_word = refl

order_twice : asks (codes "vsim" ∷ codes "v" ∷ codes "t" ∷ codes "--order" ∷ codes "1" ∷ codes "--order" ∷ codes "2" ∷ []) ≡ None
unfolding clap_on_literals
order_twice = refl

order_without_value : asks (codes "vsim" ∷ codes "v" ∷ codes "t" ∷ codes "--order" ∷ []) ≡ None
unfolding clap_on_literals
order_without_value = refl

order_without_value_before : asks (codes "vsim" ∷ codes "--order" ∷ codes "v" ∷ codes "t" ∷ []) ≡ None
unfolding clap_on_literals
order_without_value_before = refl

order_before_state : asks (codes "vsim" ∷ codes "v" ∷ codes "t" ∷ codes "--order" ∷ codes "--state" ∷ []) ≡ None
unfolding clap_on_literals
order_before_state = refl

order_of_sim : asks (codes "sim" ∷ codes "c" ∷ codes "t" ∷ codes "--order" ∷ codes "5" ∷ []) ≡ None
unfolding clap_on_literals
order_of_sim = refl

order_of_emit : asks (codes "emit" ∷ codes "f" ∷ codes "--order" ∷ codes "5" ∷ []) ≡ None
unfolding clap_on_literals
order_of_emit = refl

verilog_without_trace : asks (codes "vsim" ∷ codes "v" ∷ []) ≡ None
unfolding clap_on_literals
verilog_without_trace = refl

-- ---- numbers

zero : asks_order (codes "0") ≡ verilog_simulation false (Some 0)
unfolding clap_on_literals
zero = refl

greatest : asks_order (codes "4294967295") ≡ verilog_simulation false (Some 4294967295)
unfolding clap_on_literals
greatest = refl

too_great : asks_order (codes "4294967296") ≡ None
unfolding clap_on_literals
too_great = refl

zero_before : asks_order (codes "05") ≡ None
unfolding clap_on_literals
zero_before = refl

zero_twice : asks_order (codes "00") ≡ None
unfolding clap_on_literals
zero_twice = refl

plus_before : asks_order (codes "+5") ≡ None
unfolding clap_on_literals
plus_before = refl

letter_behind : asks_order (codes "5x") ≡ None
unfolding clap_on_literals
letter_behind = refl

minus_before : asks_order (codes "-5") ≡ None
unfolding clap_on_literals
minus_before = refl

no_digits : asks_order [] ≡ None
unfolding clap_on_literals
no_digits = refl

no_digits_in_one_word : asks (codes "vsim" ∷ codes "v" ∷ codes "t" ∷ codes "--order=" ∷ []) ≡ None
unfolding clap_on_literals
no_digits_in_one_word = refl

-- ---- too few words, too many, and none of the commands

no_words : command_of [] ≡ None
unfolding clap_on_literals
no_words = refl

no_command : asks [] ≡ None
unfolding clap_on_literals
no_command = refl

no_file : asks (codes "emit" ∷ []) ≡ None
unfolding clap_on_literals
no_file = refl

one_file_more : asks (codes "emit" ∷ codes "a" ∷ codes "b" ∷ []) ≡ None
unfolding clap_on_literals
one_file_more = refl

no_trace : asks (codes "sim" ∷ codes "c" ∷ []) ≡ None
unfolding clap_on_literals
no_trace = refl

half_of_emit : asks (codes "emi" ∷ codes "f" ∷ []) ≡ None
unfolding clap_on_literals
half_of_emit = refl

empty_command : asks ([] ∷ []) ≡ None
unfolding clap_on_literals
empty_command = refl

-- ---- help and version are no commands

help_of_the_program : asks (codes "--help" ∷ []) ≡ None
unfolding clap_on_literals
help_of_the_program = refl

short_help : asks (codes "-h" ∷ []) ≡ None
unfolding clap_on_literals
short_help = refl

help_command : asks (codes "help" ∷ codes "emit" ∷ []) ≡ None
unfolding clap_on_literals
help_command = refl

help_of_a_command : asks (codes "emit" ∷ codes "--help" ∷ []) ≡ None
unfolding clap_on_literals
help_of_a_command = refl

version : asks (codes "--version" ∷ []) ≡ None
unfolding clap_on_literals
version = refl

-- ---- names of files that begin with a dash, empty ones, and those of commands

dash_first : asks (codes "emit" ∷ codes "-x" ∷ []) ≡ None
unfolding clap_on_literals
dash_first = refl

dash_first_behind_two : asks (codes "emit" ∷ codes "--" ∷ codes "-x" ∷ []) ≡ Some (emit (codes "-x"))
unfolding clap_on_literals
dash_first_behind_two = refl

dash_alone : asks (codes "emit" ∷ codes "-" ∷ []) ≡ Some (emit (codes "-"))
unfolding clap_on_literals
dash_alone = refl

two_dashes_behind : asks (codes "emit" ∷ codes "f" ∷ codes "--" ∷ []) ≡ Some (emit (codes "f"))
unfolding clap_on_literals
two_dashes_behind = refl

two_dashes_before_a_command : asks (codes "--" ∷ codes "emit" ∷ codes "f" ∷ []) ≡ None
unfolding clap_on_literals
two_dashes_before_a_command = refl

state_behind_two_dashes : asks (codes "sim" ∷ codes "--" ∷ codes "c" ∷ codes "t" ∷ codes "--state" ∷ []) ≡ None
unfolding clap_on_literals
state_behind_two_dashes = refl

empty_name : asks (codes "emit" ∷ [] ∷ []) ≡ Some (emit [])
unfolding clap_on_literals
empty_name = refl

file_named_emit : asks (codes "emit" ∷ codes "emit" ∷ []) ≡ Some (emit (codes "emit"))
unfolding clap_on_literals
file_named_emit = refl
