-- What stands between quotes, and what between square brackets (FIRRTL spec, "Details about Syntax", "Annotations").
-- Between quotes a backslash takes the byte behind it along, and no other quote or backslash stands there. Between square brackets stand JSON
-- strings, and square brackets outside of these, each opening one with the one that closes it.
use Rattle.std.specs.Prelude.{◌≡◌, ◌≢◌, ℕ, List, [], ◌∷◌, ◌++◌, All, flat_map, codes}

-- what a string is made of: a byte that stands for itself, or one behind a backslash
pub data Character : Type 0 where
  plain : ℕ → Character
  escaped : ℕ → Character

abbrev pub character_bytes : Character → List ℕ
character_bytes (plain b) = b ∷ []
character_bytes (escaped b) = codes "\\" ++ b ∷ []

-- neither a quote nor a backslash stands for itself
abbrev pub IsCharacter : Character → Type 0
IsCharacter (plain b) = (b ≢ 34) × (b ≢ 92)
IsCharacter (escaped b) = Unit {0}

abbrev pub AreCharacters : List ℕ → Type 0
AreCharacters content = (cs : List Character) × All IsCharacter cs × (content ≡ flat_map character_bytes cs)

-- what stands between two brackets: bytes, strings with their content, and brackets with what stands between them
pub data Nested : Type 0 where
  nothing : Nested
  byte_then : ℕ → Nested → Nested
  string_then : List ℕ → Nested → Nested
  brackets_then : Nested → Nested → Nested

abbrev pub nested_bytes : Nested → List ℕ
nested_bytes nothing = []
nested_bytes (byte_then b rest) = b ∷ nested_bytes rest
nested_bytes (string_then content rest) = codes "\"" ++ content ++ codes "\"" ++ nested_bytes rest
nested_bytes (brackets_then inner rest) = codes "[" ++ nested_bytes inner ++ codes "]" ++ nested_bytes rest

-- neither a quote nor a bracket stands for itself
abbrev pub IsNested : Nested → Type 0
IsNested nothing = Unit {0}
IsNested (byte_then b rest) = (b ≢ 34) × (b ≢ 91) × (b ≢ 93) × IsNested rest
IsNested (string_then content rest) = AreCharacters content × IsNested rest
IsNested (brackets_then inner rest) = IsNested inner × IsNested rest

-- the block with its own brackets
abbrev pub IsAnnotationBlock : List ℕ → Type 0
IsAnnotationBlock s = (inner : Nested) × IsNested inner × (s ≡ codes "%[" ++ nested_bytes inner ++ codes "]")
