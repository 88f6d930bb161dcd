-- The lines of a trace, and the words of a line.
-- A line ends with a newline; the last may lack it. Words are parted by single spaces, so that an empty word stands between two spaces and at a space at
-- either end.
use Rattle.std.specs.Prelude.{◌≡◌, ◌≢◌, ℕ, ◌≤◌, List, [], ◌∷◌, length, Bool, true, nat_eq}
use Rattle.std.specs.List.{before_first, after_first, slice_split}

-- the most bytes of a line without its newline
abbrev pub line_limit : ℕ
line_limit = 4096

abbrev pub is_newline : ℕ → Bool
is_newline b = nat_eq b 10

abbrev pub first_line : List ℕ → List ℕ
first_line = before_first is_newline

-- what stands behind the first line and its newline
abbrev pub later_lines : List ℕ → List ℕ
later_lines = after_first is_newline

-- these lines stand at the front, one after the other
abbrev pub AreTraceLines : List ℕ → List (List ℕ) → Type 0
AreTraceLines bytes [] = Unit {0}
AreTraceLines bytes (line ∷ lines) = (bytes ≢ []) × (line ≡ first_line bytes) × AreTraceLines (later_lines bytes) lines

-- what stands behind so many lines
abbrev pub bytes_behind : List ℕ → List (List ℕ) → List ℕ
bytes_behind bytes [] = bytes
bytes_behind bytes (line ∷ lines) = bytes_behind (later_lines bytes) lines

-- the lines are all that stands there
pub record AreAllLines (bytes : List ℕ) (lines : List (List ℕ)) : Type 0 where
  pub lines_are : AreTraceLines bytes lines
  pub whole : bytes_behind bytes lines ≡ []

abbrev pub words_of : List ℕ → List (List ℕ)
words_of = slice_split (λ b. nat_eq b 32)

-- an empty line, and one that begins with #
abbrev pub is_remark : List ℕ → Bool
is_remark [] = true
is_remark (b ∷ bs) = nat_eq b 35

-- a line that counts for nothing
pub record IsSkipped (line : List ℕ) : Type 0 where
  pub short : length line ≤ line_limit
  pub remark : is_remark line ≡ true
