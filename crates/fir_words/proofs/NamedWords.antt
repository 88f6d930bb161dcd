-- The words behind the name of a command are that command's alone.
use Rattle.std.proofs.Common.{◌≡◌, ◌∙◌, List, [], ◌∷◌, ◌++◌, Option, Some, None, refl, ap, ap₂, sym, false}
use Rattle.std.specs.Prelude.{find, fold, if◌then◌else◌}
use Rattle.clap.specs.Words.{App, Kinds, Row, Shape, Text, fault_of, subcommand_of}
use Rattle.clap.specs.Walk.{Walk, answers_to, idle, is_empty, nothing_held, rows_after, walk, walk_from, walked}
use Rattle.clap.specs.Simple.{built, entered, label_of, names_of, rows_at}
use Rattle.clap.specs.Kinds.{or_else}
use Rattle.clap.specs.Faults.{defaults_fault, level_fault, turn_fault, walk_fault}
use Rattle.clap.proofs.WalkLemmas.{walk_stopped}
use Rattle.fir_words.specs.Commands.{command_found, command_in, command_of, command_set}

abbrev pub app : App
app = built command_set

-- the walk has met the command's name, and then these words
abbrev pub stopped : Text → List Text → Walk
stopped name words = record { held = nothing_held; waiting = idle; position = 1; is_trailing = false; stopped = Some (name, words) }

stopped_fault : (name : Text) (seen rest : List Text) → walk_fault app.top (names_of app) (stopped name seen) rest ≡ []
unfolding walk_fault walked
stopped_fault name seen [] = refl
stopped_fault name seen (word ∷ rest) = stopped_fault name (seen ++ word ∷ []) rest

-- words with no fault ask for what clap finds
taken : (words : List Text) (found : Option (Text × List Row)) → fault_of command_set words ≡ [] → subcommand_of command_set words ≡ found
    → command_of words ≡ command_found found
taken words found none is = ap₂ (λ (kinds : Kinds) (f : Option (Text × List Row)). if is_empty kinds then command_found f else None) none is

module _ (name : Text) (leaf : Shape) (walks : walked app.top.rules (names_of app) (walk_from nothing_held) name ≡ stopped name [])
    (turns : turn_fault app.top (names_of app) (walk_from nothing_held) name ≡ []) (found : find (λ s. answers_to name (label_of s)) app.subs ≡ Some leaf) where
  top_walk : (rest : List Text) → walk app.top.rules (names_of app) nothing_held (name ∷ rest) ≡ stopped name rest
  top_walk rest =
      ap (λ (w : Walk). fold (walked app.top.rules (names_of app)) w rest) walks
      ∙ sym (walk_stopped app.top.rules (names_of app) (walk_from nothing_held) name [] rest)

  top_fault : (rest : List Text) → walk_fault app.top (names_of app) (walk_from nothing_held) (name ∷ rest) ≡ []
  unfolding walk_fault
  top_fault rest = rw (turns, walks) (stopped_fault name [] rest)

  no_fault : (program : Text) (rest : List Text) → level_fault leaf [] nothing_held rest false [] ≡ [] → fault_of command_set (program ∷ name ∷ rest) ≡ []
  unfolding defaults_fault
  no_fault program rest none = rw (top_walk rest, top_fault rest, found) (ap (λ (kinds : Kinds). or_else kinds []) none)

  found_rows : (program : Text) (rest : List Text) → subcommand_of command_set (program ∷ name ∷ rest) ≡ Some (rows_at leaf rest)
  found_rows program rest = ap (λ (w : Walk). entered app w.stopped) (top_walk rest) ∙ rw found refl

  pub named_asks : (program : Text) (rest : List Text) → level_fault leaf [] nothing_held rest false [] ≡ []
      → command_of (program ∷ name ∷ rest) ≡ command_in leaf.name (rows_after leaf.rules [] rest)
  named_asks program rest none = taken (program ∷ name ∷ rest) (Some (rows_at leaf rest)) (no_fault program rest none) (found_rows program rest)
