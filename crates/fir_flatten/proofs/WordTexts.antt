-- The base name of a path is a word, where the path begins with a word and its further names have the bytes of words.
use Rattle.std.proofs.Common.{◌≡◌, ℕ, List, [], ◌∷◌, ◌++◌, true, false, refl, sym, ap, ◌∙◌, subst, arith}
use Rattle.std.specs.Prelude.{IsTrue, codes, decimal, flat_map, nat_eq, ◌||◌}
use Rattle.std.specs.List.{AllByRecursion, list_all}
use Rattle.std.proofs.lemmas.Bool.{and_parts, and_from}
use Rattle.std.proofs.lemmas.Bool.Decides.{nat_tests}
use Rattle.std.proofs.lemmas.List.Concat.{flat_map-append}
use Rattle.std.proofs.lemmas.List.Folds.{list_all-append}
use Rattle.fir_base.specs.Bytes.{is_word_start, is_word_byte}
use Rattle.ver_words.specs.Names.{is_word}
use Rattle.fir_meaning.specs.LeafPaths.{Step, LeafPath, named, element, step_text, path_text}
use Rattle.fir_net.specs.Paths.{named_byte, base_name}
use Rattle.fir_net_names.proofs.Unreserved.{inner_is_name}

-- a step that is a number, or a name with the bytes of words
abbrev pub StepHasWords : Step → Type 0
StepHasWords (named x) = IsTrue (list_all is_word_byte x)
StepHasWords (element i) = Unit {0}

-- bytes of words stay as they are
no_mark : (b : ℕ) → is_word_byte b ≡ true → (nat_eq b 46 || nat_eq b 91) ≡ false
no_mark b h = grind (arith, nat_tests)

no_end : (b : ℕ) → is_word_byte b ≡ true → nat_eq b 93 ≡ false
no_end b h = grind (arith, nat_tests)

byte_stays : (b : ℕ) → is_word_byte b ≡ true → named_byte b ≡ b ∷ []
byte_stays b h = rw (no_mark b h, no_end b h) refl

bytes_stay : (x : List ℕ) → list_all is_word_byte x ≡ true → base_name x ≡ x
bytes_stay [] h = refl
bytes_stay (b ∷ bs) h =
    let p = and_parts (is_word_byte b) (list_all is_word_byte bs) h in
    rw (byte_stays b p.0, bytes_stay bs p.1) refl

-- a text whose base name has the bytes of words
record IsPlainText (text : List ℕ) : Type 0 where
  bytes : list_all is_word_byte (base_name text) ≡ true

plain_bytes : (x : List ℕ) → list_all is_word_byte x ≡ true → IsPlainText x
plain_bytes x h = record { bytes = ap (list_all is_word_byte) (bytes_stay x h) ∙ h }

plain_joined : (x y : List ℕ) → IsPlainText x → IsPlainText y → IsPlainText (x ++ y)
plain_joined x y p q = record {
  bytes =
      ap (list_all is_word_byte) (flat_map-append named_byte x y) ∙ list_all-append is_word_byte (base_name x) (base_name y) ∙ and_from _ _ p.bytes q.bytes;
}

-- the steps behind the first name
decimal_bytes : (n : ℕ) → list_all is_word_byte (decimal n) ≡ true
decimal_bytes n = (inner_is_name n).spelled

plain_step : (s : Step) → StepHasWords s → IsPlainText (step_text s)
plain_step (named x) h = plain_joined (codes ".") x (record { bytes = refl }) (plain_bytes x h)
plain_step (element i) h =
    plain_joined (codes "[" ++ decimal i) (codes "]")
    (plain_joined (codes "[") (decimal i) (record { bytes = refl }) (plain_bytes (decimal i) (decimal_bytes i))) (record { bytes = refl })

plain_steps : (steps : LeafPath) → AllByRecursion StepHasWords steps → IsPlainText (flat_map step_text steps)
plain_steps [] h = record { bytes = refl }
plain_steps (s ∷ steps) h = plain_joined (step_text s) (flat_map step_text steps) (plain_step s h.0) (plain_steps steps h.1)

-- a word begins with a byte of a word
start_is_byte : (b : ℕ) → is_word_start b ≡ true → is_word_byte b ≡ true
start_is_byte b h = rw h refl

pub word_bytes : (x : List ℕ) → IsTrue (is_word x) → IsTrue (list_all is_word_byte x)
word_bytes [] h = refl
word_bytes (b ∷ bs) h =
    let p = and_parts (is_word_start b) (list_all is_word_byte bs) h in
    and_from _ _ (start_is_byte b p.0) p.1

pub word_path : (x : List ℕ) (steps : LeafPath) → IsTrue (is_word x) → AllByRecursion StepHasWords steps
    → IsTrue (is_word (base_name (path_text (named x ∷ steps))))
word_path [] steps h words = absurd (cc)
word_path (b ∷ bs) steps h words =
    let p = and_parts (is_word_start b) (list_all is_word_byte bs) h in
    let behind = plain_joined bs (flat_map step_text steps) (plain_bytes bs p.1) (plain_steps steps words) in
    rw (byte_stays b (start_is_byte b p.0)) (and_from _ _ p.0 behind.bytes)

-- a path that begins with a word and goes on with such steps
pub record IsWordPath (path : LeafPath) : Type 0 where
  pub name : List ℕ
  pub rest : LeafPath
  pub is : path ≡ named name ∷ rest
  pub word : IsTrue (is_word name)
  pub steps : AllByRecursion StepHasWords rest

pub path_word : (path : LeafPath) → IsWordPath path → IsTrue (is_word (base_name (path_text path)))
path_word path h = rw h.is (word_path h.name h.rest h.word h.steps)

-- names of instances, of which each is a word
abbrev pub IsWordStep : Step → Type 0
IsWordStep (named x) = IsTrue (is_word x)
IsWordStep (element i) = ⊥

abbrev pub AreWordSteps : LeafPath → Type 0
AreWordSteps = AllByRecursion IsWordStep

-- such a path behind them
pub path_behind : (at path : LeafPath) → AreWordSteps at → IsWordPath path → IsWordPath (at ++ path)
path_behind [] path steps h = h
path_behind (element i ∷ at) path steps h = absurd steps.0
path_behind (named x ∷ at) path steps h =
    let r = path_behind at path steps.1 h in
    record {
      name = x;
      rest = at ++ path;
      is = refl;
      word = steps.0;
      steps = subst (AllByRecursion StepHasWords) (sym r.is) (word_bytes r.name r.word, r.steps);
    }
