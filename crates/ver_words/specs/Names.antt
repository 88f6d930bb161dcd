-- Names (IEEE 1364-2005, 3.7).
-- A letter or an underscore, then letters, digits, underscores and dollar signs; no reserved word.
use Rattle.std.specs.Prelude.{ℕ, List, [], ◌∷◌, ◌++◌, codes, if◌then◌else◌, Bool, false, ◌&&◌, not, IsTrue}
use Rattle.std.specs.List.{list_all}
use Rattle.fir_base.specs.Bytes.{is_word_start, is_word_byte}
use Rattle.ver_words.specs.Reserved.{is_reserved}

abbrev pub is_word : List ℕ → Bool
is_word [] = false
is_word (b ∷ bs) = is_word_start b && list_all is_word_byte bs

-- spelled as a name, and not reserved
pub record IsName (name : List ℕ) : Type 0 where
  pub spelled : IsTrue (is_word name)
  pub free : IsTrue (not (is_reserved name))

-- the name of the module of a circuit with this name
abbrev pub module_name : List ℕ → List ℕ
module_name name = if is_reserved name then name ++ codes "_0" else name
