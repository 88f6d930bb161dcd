-- A walk over words of which some do not begin with a dash: what such a word is does not depend on its letters.
use Rattle.std.proofs.Common.{◌≡◌, ◌∙◌, List, [], ◌∷◌, ◌++◌, Bool, true, false, Option, Some, None, refl, ap, ap₂}
use Rattle.std.specs.Prelude.{fold, if◌then◌else◌, is_some, map}
use Rattle.std.specs.Str.{bytes_eq}
use Rattle.clap.specs.Lexer.{long_of, short_of}
use Rattle.clap.specs.Words.{Kinds, Rule, Shape, Text}
use Rattle.clap.specs.Walk.{Held, Step, Waiting, Walk, after_step, finished, idle, nothing_held, option, plain_word, positional, settled, subcommand_met, subcommand_or_other, value, walk, walk_from, walked, walked_from, word_met}
use Rattle.clap.specs.Kinds.{or_else}
use Rattle.clap.specs.Faults.{check_fault, defaults_fault, level_fault, other_fault, settle_fault, step_fault, turn_fault, walk_fault, word_fault}
use Rattle.fir_words.specs.working.Laws.{begins_with_dash}

-- a word that does not begin with a dash, or any other
pub data Word : Type 0 where
  plain : Text → Word
  given : Text → Word

abbrev pub text_of : Word → Text
text_of (plain text) = text
text_of (given text) = text

abbrev pub IsPlain : Word → Type 0
IsPlain (plain text) = begins_with_dash text ≡ false
IsPlain (given text) = Unit {0}

abbrev pub ArePlain : List Word → Type 0
ArePlain [] = Unit {0}
ArePlain (word ∷ rest) = IsPlain word × ArePlain rest

no_dashes : (word : Text) → begins_with_dash word ≡ false → bytes_eq word (45 ∷ 45 ∷ []) ≡ false
no_dashes [] is_plain = refl
no_dashes (x ∷ xs) is_plain = rw is_plain refl

not_long : (word : Text) → begins_with_dash word ≡ false → long_of word ≡ None
not_long [] is_plain = refl
not_long (x ∷ xs) is_plain = rw is_plain refl

not_short : (word : Text) → begins_with_dash word ≡ false → short_of word ≡ None
not_short [] is_plain = refl
not_short (x ∷ xs) is_plain = rw is_plain refl

no_command : (waiting : Waiting) (word : Text) → subcommand_met [] waiting word ≡ None
no_command idle word = refl
no_command (option id) word = refl
no_command positional word = refl

-- ---- what a word is

abbrev pub met_by : List Rule → Walk → Word → Held × Step
met_by c w (plain text) = if w.is_trailing then (w.held, value) else plain_word c w.waiting text w.held
met_by c w (given text) = word_met c [] w.is_trailing w.waiting w.position text w.held

met_is : (c : List Rule) (w : Walk) (word : Word) → IsPlain word → word_met c [] w.is_trailing w.waiting w.position (text_of word) w.held ≡ met_by c w word
met_is c w (given text) is_plain = refl
met_is c w (plain text) is_plain = go w.is_trailing
  where
    go : (b : Bool) → (if b then (w.held, value) else subcommand_or_other c (subcommand_met [] w.waiting text) w.waiting w.position text w.held)
        ≡ (if b then (w.held, value) else plain_word c w.waiting text w.held)
    go true = refl
    go false = rw (no_command w.waiting text, no_dashes text is_plain, not_long text is_plain, not_short text is_plain) refl

abbrev pub stopped_by : List Rule → Option (Text × List Text) → Walk → Word → Walk
stopped_by c (Some p) w word = record w { stopped = Some (p.0, p.1 ++ text_of word ∷ []) }
stopped_by c None w word = after_step c (text_of word) w (met_by c w word).0 (met_by c w word).1

-- the walk after one more word
abbrev pub walked_by : List Rule → Walk → Word → Walk
walked_by c w word = stopped_by c w.stopped w word

walked_is : (c : List Rule) (w : Walk) (word : Word) → IsPlain word → walked c [] w (text_of word) ≡ walked_by c w word
unfolding walked
walked_is c w word is_plain = go w.stopped
  where
    go : (o : Option (Text × List Text)) → walked_from c [] o w (text_of word) ≡ stopped_by c o w word
    go (Some p) = refl
    go None = ap (λ (m : Held × Step). after_step c (text_of word) w m.0 m.1) (met_is c w word is_plain)

abbrev pub walk_by : List Rule → Walk → List Word → Walk
walk_by c w [] = w
walk_by c w (word ∷ rest) = walk_by c (walked_by c w word) rest

walk_is : (c : List Rule) (words : List Word) (w : Walk) → ArePlain words → fold (walked c []) w (map text_of words) ≡ walk_by c w words
walk_is c [] w are_plain = refl
walk_is c (word ∷ rest) w are_plain =
    ap (λ (v : Walk). fold (walked c []) v (map text_of rest)) (walked_is c w word are_plain.0) ∙ walk_is c rest (walked_by c w word) are_plain.1

-- ---- the faults of a word

abbrev pub fault_by : Shape → Walk → Word → Kinds
fault_by s w (plain text) = []
fault_by s w (given text) = word_fault s [] w.is_trailing w.waiting text w.held

fault_is : (s : Shape) (w : Walk) (word : Word) → IsPlain word → word_fault s [] w.is_trailing w.waiting (text_of word) w.held ≡ fault_by s w word
fault_is s w (given text) is_plain = refl
fault_is s w (plain text) is_plain = go w.is_trailing
  where
    go : (b : Bool) → (if b then [] else other_fault s (subcommand_met [] w.waiting text) text w.held) ≡ []
    go true = refl
    go false = rw (no_command w.waiting text, no_dashes text is_plain, not_long text is_plain, not_short text is_plain) refl

abbrev pub turn_by : Shape → Walk → Word → Kinds
turn_by s w word = if is_some w.stopped then []
    else or_else (fault_by s w word) (step_fault s w.position (met_by s.rules w word).0 (met_by s.rules w word).1)

turn_is : (s : Shape) (w : Walk) (word : Word) → IsPlain word → turn_fault s [] w (text_of word) ≡ turn_by s w word
turn_is s w word is_plain =
    ap₂ (λ (kinds : Kinds) (m : Held × Step). if is_some w.stopped then [] else or_else kinds (step_fault s w.position m.0 m.1))
    (fault_is s w word is_plain) (met_is s.rules w word is_plain)

abbrev pub faults_by : Shape → Walk → List Word → Kinds
faults_by s w [] = []
faults_by s w (word ∷ rest) = or_else (turn_by s w word) (faults_by s (walked_by s.rules w word) rest)

faults_are : (s : Shape) (words : List Word) (w : Walk) → ArePlain words → walk_fault s [] w (map text_of words) ≡ faults_by s w words
unfolding walk_fault
faults_are s [] w are_plain = refl
faults_are s (word ∷ rest) w are_plain =
    ap₂ (λ (now : Kinds) (v : Walk). or_else now (walk_fault s [] v (map text_of rest))) (turn_is s w word are_plain.0) (walked_is s.rules w word are_plain.0)
    ∙ ap (or_else (turn_by s w word)) (faults_are s rest (walked_by s.rules w word) are_plain.1)

-- ---- all the words

abbrev pub end_by : List Rule → List Word → Held
end_by c words = (walk_by c (walk_from nothing_held) words).held

abbrev pub level_by : Shape → List Word → Kinds
level_by s words =
    or_else (faults_by s (walk_from nothing_held) words)
    (or_else (settle_fault s.rules s.args_override_self (end_by s.rules words))
    (or_else (defaults_fault (settled s.rules (end_by s.rules words)).rows s.rules) (check_fault s (finished s.rules (end_by s.rules words)) false)))

pub level_is : (s : Shape) (words : List Word) → ArePlain words → level_fault s [] nothing_held (map text_of words) false [] ≡ level_by s words
level_is s words are_plain =
    ap₂ (λ (walking : Kinds) (end : Walk). or_else walking (or_else (settle_fault s.rules s.args_override_self end.held)
    (or_else (defaults_fault (settled s.rules end.held).rows s.rules) (check_fault s (finished s.rules end.held) false))))
    (faults_are s words (walk_from nothing_held) are_plain) (walk_is s.rules words (walk_from nothing_held) are_plain)

pub rows_are : (c : List Rule) (words : List Word) → ArePlain words → finished c (walk c [] nothing_held (map text_of words)).held ≡ finished c (end_by c words)
rows_are c words are_plain = ap (λ (end : Walk). finished c end.held) (walk_is c words (walk_from nothing_held) are_plain)
