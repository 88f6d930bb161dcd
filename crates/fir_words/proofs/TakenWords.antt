-- Words that clap takes are a command.
use Rattle.std.proofs.Common.{◌≡◌, ◌&&◌, ℕ, List, [], ◌∷◌, Bool, true, false, Option, Some, None, refl, rules}
use Rattle.std.specs.Prelude.{◌||◌, not, codes, find, if◌then◌else◌, is_some, option_and_then, option_map}
use Rattle.std.specs.Option.{option_map_or}
use Rattle.std.specs.Str.{bytes_eq}
use Rattle.clap.specs.Words.{App, Kinds, Row, Rule, Shape, Text, fault_of, first_of, subcommand_of}
use Rattle.clap.specs.Walk.{answers_to, has_long, nothing_held, rows_after}
use Rattle.clap.specs.Simple.{argument_words, built, entered, filled, label_of, names_of, rows_at, with_index}
use Rattle.clap.specs.Takes.{is_given}
use Rattle.clap.specs.Kinds.{check_kinds, or_else}
use Rattle.clap.specs.Faults.{check_fault, defaults_fault, entered_fault, level_fault, settle_fault, walk_fault}
use Rattle.clap.specs.Walk.{Names, is_empty, settled, stop_after, walk, walk_from}
use Rattle.clap.specs.declared.error.kind.ErrorKind.{ErrorKind}
use Rattle.fir_words.specs.Commands.{check, command_found, command_set, emit, flag, is_set, name_of_file, number_of, option_with_value, sim, simulation_in, simulation_of, verilog_simulation_of, vsim}
use Rattle.fir_words.specs.working.Laws.{TakenIsCommand, is_number_if_given, order_given}
use Rattle.fir_words.proofs.FilledRows.{given_has_first}
use Rattle.fir_words.proofs.FilledWalk.{HasAnswers, IsAnswered, rows_filled}

-- where a level has no fault, there is none below it, and none when it is checked
level_parts : (walking below settling defaults checking : Kinds) → or_else walking (or_else below (or_else settling (or_else defaults checking))) ≡ []
    → (below ≡ []) × (checking ≡ [])
level_parts [] [] [] [] checking none = (refl, none)
level_parts [] [] [] (k ∷ ks) checking none = cc
level_parts [] [] (k ∷ ks) defaults checking none = cc
level_parts [] (k ∷ ks) settling defaults checking none = cc
level_parts (k ∷ ks) below settling defaults checking none = cc

level_checked : (s : Shape) (names : Names) (words : List Text) (met : Bool) (below : Kinds) → level_fault s names nothing_held words met below ≡ []
    → (below ≡ []) × (check_fault s (rows_after s.rules names words) met ≡ [])
level_checked s names words met below none =
    let end = (walk s.rules names nothing_held words).held in
    level_parts (walk_fault s names (walk_from nothing_held) words) below (settle_fault s.rules s.args_override_self end)
    (defaults_fault (settled s.rules end).rows s.rules) (check_fault s (rows_after s.rules names words) met) none

-- ---- each command

abbrev leaves : List Shape
leaves = (built command_set).subs

-- what clap found is a command, where an order that is given is a number
abbrev IsAsked : Option (Text × List Row) → Type 0
IsAsked found = is_some (command_found found) ≡ is_number_if_given (order_given found)

-- so it is where the command's own words are taken
abbrev Asks : Shape → Type 0
Asks s = (words : List Text) → level_fault s [] nothing_held words false [] ≡ [] → IsAsked (Some (rows_at s words))

abbrev AllAsk : List Shape → Type 0
AllAsk [] = Unit {0}
AllAsk (s ∷ rest) = Asks s × AllAsk rest

found_asks : (subs : List Shape) → AllAsk subs → (p : Text × List Text)
    → is_some (option_map (λ s. rows_at s p.1) (find (λ s. answers_to p.0 (label_of s)) subs)) ≡ true
    → option_map_or (λ s. level_fault s [] nothing_held p.1 false []) (find (λ s. answers_to p.0 (label_of s)) subs) [] ≡ []
    → IsAsked (option_map (λ s. rows_at s p.1) (find (λ s. answers_to p.0 (label_of s)) subs))
found_asks [] all p met none = cc
found_asks (s ∷ rest) all p met none = go (answers_to p.0 (label_of s)) refl (found_asks rest all.1 p)
  where
    go : (b : Bool) → answers_to p.0 (label_of s) ≡ b
        → (is_some (option_map (λ s. rows_at s p.1) (find (λ s. answers_to p.0 (label_of s)) rest)) ≡ true
        → option_map_or (λ s. level_fault s [] nothing_held p.1 false []) (find (λ s. answers_to p.0 (label_of s)) rest) [] ≡ []
        → IsAsked (option_map (λ s. rows_at s p.1) (find (λ s. answers_to p.0 (label_of s)) rest)))
        → IsAsked (option_map (λ s. rows_at s p.1) (find (λ s. answers_to p.0 (label_of s)) (s ∷ rest)))
    go true is behind = rw is (all.0 p.1 (rw is at none))
    go false is behind = rw is (behind (rw is at met) (rw is at none))

entered_asks : (a : App) → AllAsk a.subs → (stop : Option (Text × List Text)) → is_some (entered a stop) ≡ true → entered_fault a stop ≡ []
    → IsAsked (entered a stop)
entered_asks a all None met none = cc
entered_asks a all (Some p) met none = found_asks a.subs all p met none

-- ---- the program's commands

abbrev place : ℕ → Text → Rule
place i id = with_index i (filled (name_of_file id))

abbrev text_rules : List Rule
text_rules = place 1 (codes "file") ∷ []

abbrev state_rule : Rule
state_rule = with_index 3 (filled (flag (codes "state")))

abbrev order_rule : Rule
order_rule = with_index 3 (filled (option_with_value (codes "order")))

abbrev simulation_rules : List Rule
simulation_rules = place 1 (codes "circuit") ∷ place 2 (codes "trace") ∷ state_rule ∷ []

abbrev verilog_rules : List Rule
verilog_rules = place 1 (codes "file") ∷ place 2 (codes "trace") ∷ state_rule ∷ order_rule ∷ []

-- values are wanted of every argument but an order
abbrev wanted : Text → Bool
wanted id = not (bytes_eq id (codes "order"))

text_answers : HasAnswers wanted text_rules
text_answers = (λ name. tt, λ x. refl)

state_answers : (met : Bool) (rest : Option Rule) → IsAnswered wanted rest → IsAnswered wanted (if met then Some state_rule else rest)
state_answers true rest answered = tt
state_answers false rest answered = answered

order_answers : (met : Bool) → IsAnswered wanted (if met then Some order_rule else None)
order_answers true = refl
order_answers false = tt

simulation_answers : HasAnswers wanted simulation_rules
simulation_answers = (λ name. state_answers (has_long state_rule name) None tt, λ x. refl)

verilog_answers : HasAnswers wanted verilog_rules
verilog_answers = (λ name. state_answers (has_long state_rule name) _ (order_answers (has_long order_rule name)), λ x. refl)

mapped : {X Y : Type 0} (f : X → Y) (o : Option X) → is_some o ≡ true → is_some (option_map f o) ≡ true
mapped f None some = cc
mapped f (Some x) some = refl

paired : {X Y Z : Type 0} (f : X → Y → Z) (first : Option X) (second : Option Y) → is_some first ≡ true → is_some second ≡ true
    → is_some (option_and_then (λ x. option_map (f x) second) first) ≡ true
paired f None second a b = cc
paired f (Some x) second a b = mapped (f x) second b

is_given_one : (given : Bool) → check_kinds false false (not given || false) ≡ [] → given ≡ true
is_given_one true none = refl
is_given_one false none = cc

are_given_two : (first second : Bool) → check_kinds false false (not first || (not second || false)) ≡ [] → (first ≡ true) × (second ≡ true)
are_given_two true true none = (refl, refl)
are_given_two true false none = cc
are_given_two false second none = cc

first_value_there : (c : List Rule) → HasAnswers wanted c → (words : List Text) (id : Text) → wanted id ≡ true → is_given id (rows_after c [] words) ≡ true
    → is_some (first_of id (rows_after c [] words)) ≡ true
first_value_there c answers words id has given =
    given_has_first wanted id (rows_after c [] words) has (rows_filled wanted c answers [] words) given

file_there : (words : List Text) → check_kinds false false (not (is_given (codes "file") (rows_after text_rules [] words)) || false) ≡ []
    → is_some (first_of (codes "file") (rows_after text_rules [] words)) ≡ true
file_there words none = first_value_there text_rules text_answers words (codes "file") refl (is_given_one _ none)

files_there : (c : List Rule) → HasAnswers wanted c → (words : List Text) (first second : Text) → wanted first ≡ true → wanted second ≡ true
    → check_kinds false false (not (is_given first (rows_after c [] words)) || (not (is_given second (rows_after c [] words)) || false)) ≡ []
    → (is_some (first_of first (rows_after c [] words)) ≡ true) × (is_some (first_of second (rows_after c [] words)) ≡ true)
files_there c answers words first second has has_second none =
    let given = are_given_two _ _ none in
    (first_value_there c answers words first has given.0, first_value_there c answers words second has_second given.1)

simulation_there : (words : List Text)
    → check_kinds false false (not (is_given (codes "circuit") (rows_after simulation_rules [] words))
    || (not (is_given (codes "trace") (rows_after simulation_rules [] words)) || false)) ≡ []
    → is_some (simulation_in (rows_after simulation_rules [] words)) ≡ true
simulation_there words none =
    let files = files_there simulation_rules simulation_answers words (codes "circuit") (codes "trace") refl refl none in
    paired (λ circuit trace. simulation_of circuit trace (is_set (codes "state") (rows_after simulation_rules [] words))) _ _ files.0 files.1

-- a simulation of a Verilog text asks for a number, where it asks for an order
numbered : (verilog trace : Text) (with_state : Bool) (number : Option ℕ)
    → is_some (option_map vsim (option_map (λ order. verilog_simulation_of verilog trace with_state order) (option_map (λ n. Some n) number))) ≡ is_some number
numbered verilog trace with_state None = refl
numbered verilog trace with_state (Some n) = refl

ordered : (verilog trace : Option Text) (with_state : Bool) (order : Option Text) → is_some verilog ≡ true → is_some trace ≡ true
    → is_some (option_map vsim (option_and_then (λ v. option_and_then (λ t. option_map (λ o. verilog_simulation_of v t with_state o)
    (option_map_or (λ text. option_map (λ n. Some n) (number_of text)) order (Some None))) trace) verilog)) ≡ is_number_if_given order
ordered None trace with_state order a b = cc
ordered (Some v) None with_state order a b = cc
ordered (Some v) (Some t) with_state None a b = refl
ordered (Some v) (Some t) with_state (Some text) a b = numbered v t with_state (number_of text)

verilog_there : (words : List Text)
    → check_kinds false false (not (is_given (codes "file") (rows_after verilog_rules [] words))
    || (not (is_given (codes "trace") (rows_after verilog_rules [] words)) || false)) ≡ []
    → IsAsked (Some (codes "vsim", rows_after verilog_rules [] words))
verilog_there words none =
    let rows = rows_after verilog_rules [] words in
    let files = files_there verilog_rules verilog_answers words (codes "file") (codes "trace") refl refl none in
    ordered (first_of (codes "file") rows) (first_of (codes "trace") rows) (is_set (codes "state") rows) (first_of (codes "order") rows) files.0 files.1

asks_all : AllAsk leaves
asks_all = (
  λ words none. mapped check _ (file_there words (level_checked _ [] words false [] none).1),
  (
    λ words none. mapped emit _ (file_there words (level_checked _ [] words false [] none).1),
    (
      λ words none. mapped sim _ (simulation_there words (level_checked _ [] words false [] none).1),
      (λ words none. verilog_there words (level_checked _ [] words false [] none).1, tt),
    ),
  ),
)

not_empty : (k : ErrorKind) (ks : Kinds) → is_empty (k ∷ ks) ≡ false
not_empty k ks = search rules

command_is_wanted : (met : Bool) (rows : List Row) → check_fault (built command_set).top rows met ≡ [] → met ≡ true
command_is_wanted true rows none = refl
command_is_wanted false rows none = cc

none_asks : (words : List Text) → fault_of command_set words ≡ [] → IsAsked (subcommand_of command_set words)
none_asks words none =
    let app = built command_set in
    let line = argument_words command_set words in
    let stop = stop_after app.top.rules (names_of app) line in
    let parts = level_checked app.top (names_of app) line (is_some (entered app stop)) (entered_fault app stop) none in
    entered_asks app asks_all stop (command_is_wanted (is_some (entered app stop)) (rows_after app.top.rules (names_of app) line) parts.1) parts.0

pub taken_is_command : TakenIsCommand
taken_is_command words = go (fault_of command_set words) refl
  where
    go : (kinds : Kinds) → fault_of command_set words ≡ kinds
        → is_some (if is_empty kinds then command_found (subcommand_of command_set words) else None)
        ≡ (is_empty kinds && is_number_if_given (order_given (subcommand_of command_set words)))
    go (k ∷ ks) is = rw (not_empty k ks) refl
    go [] is = none_asks words is
