-- What the commands ask for, whatever the names of their files, and wherever `--state` stands.
use Rattle.std.proofs.Common.{◌≡◌, ◌∙◌, List, [], ◌∷◌, false, Some, refl, ap}
use Rattle.std.specs.Prelude.{codes, find, map}
use Rattle.clap.specs.Words.{Row, Rule, Shape, Text}
use Rattle.clap.specs.Walk.{answers_to, finished, walk_from, nothing_held, walked}
use Rattle.clap.specs.Simple.{built_leaf, inherited, label_of, names_of}
use Rattle.clap.specs.Faults.{defaults_fault, turn_fault}
use Rattle.fir_words.specs.Commands.{check, command_in, command_of, command_with, emit, flag, name_of_file}
use Rattle.fir_words.specs.working.Laws.{PlainNameIsTaken, PlainNamesAreTaken, begins_with_dash}
use Rattle.fir_words.proofs.NamedWords.{app, named_asks, stopped}
use Rattle.fir_words.proofs.PlainWords.{ArePlain, Word, end_by, given, level_by, level_is, plain, rows_are, text_of}

abbrev pub leaf_with : Text → List Rule → Shape
leaf_with name rules = built_leaf (inherited app.top (command_with name rules))

-- what the words behind a command's name ask for
pub words_ask : (name : Text) (leaf : Shape) → walked app.top.rules (names_of app) (walk_from nothing_held) name ≡ stopped name []
    → turn_fault app.top (names_of app) (walk_from nothing_held) name ≡ [] → find (λ s. answers_to name (label_of s)) app.subs ≡ Some leaf
    → (program : Text) (words : List Word) → ArePlain words → level_by leaf words ≡ []
    → command_of (program ∷ name ∷ map text_of words) ≡ command_in leaf.name (finished leaf.rules (end_by leaf.rules words))
words_ask name leaf walks turns found program words are_plain none =
    named_asks name leaf walks turns found program (map text_of words) (level_is leaf words are_plain ∙ none)
    ∙ ap (λ (rows : List Row). command_in leaf.name rows) (rows_are leaf.rules words are_plain)

-- ---- one file

abbrev file_rules : List Rule
file_rules = name_of_file (codes "file") ∷ []

check_asks : (program file : Text) → begins_with_dash file ≡ false → command_of (program ∷ codes "check" ∷ file ∷ []) ≡ Some (check file)
unfolding walked defaults_fault
check_asks program file is_plain =
    words_ask (codes "check") (leaf_with (codes "check") file_rules) refl refl refl program (plain file ∷ []) (is_plain, tt) refl

emit_asks : (program file : Text) → begins_with_dash file ≡ false → command_of (program ∷ codes "emit" ∷ file ∷ []) ≡ Some (emit file)
unfolding walked defaults_fault
emit_asks program file is_plain =
    words_ask (codes "emit") (leaf_with (codes "emit") file_rules) refl refl refl program (plain file ∷ []) (is_plain, tt) refl

pub plain_name_is_taken : PlainNameIsTaken
plain_name_is_taken program file is_plain = (check_asks program file is_plain, emit_asks program file is_plain)

-- ---- a circuit and a trace

abbrev simulation_leaf : Shape
simulation_leaf = leaf_with (codes "sim") (name_of_file (codes "circuit") ∷ name_of_file (codes "trace") ∷ flag (codes "state") ∷ [])

sim_asks : (program : Text) (words : List Word) → ArePlain words → level_by simulation_leaf words ≡ []
    → command_of (program ∷ codes "sim" ∷ map text_of words) ≡ command_in (codes "sim") (finished simulation_leaf.rules (end_by simulation_leaf.rules words))
unfolding walked
sim_asks program words are_plain none = words_ask (codes "sim") simulation_leaf refl refl refl program words are_plain none

abbrev pub state : Word
state = given (codes "--state")

pub plain_names_are_taken : PlainNamesAreTaken
unfolding walked defaults_fault
plain_names_are_taken program circuit trace is_plain is_plain_trace = (
  sim_asks program (plain circuit ∷ plain trace ∷ []) (is_plain, (is_plain_trace, tt)) refl,
  sim_asks program (plain circuit ∷ plain trace ∷ state ∷ []) (is_plain, (is_plain_trace, (tt, tt))) refl,
  sim_asks program (plain circuit ∷ state ∷ plain trace ∷ []) (is_plain, (tt, (is_plain_trace, tt))) refl,
  sim_asks program (state ∷ plain circuit ∷ plain trace ∷ []) (tt, (is_plain, (is_plain_trace, tt))) refl,
)
