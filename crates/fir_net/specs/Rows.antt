-- The ports and the words of the state of a net, as rows that can be compared. Leaves and arrays of no bits have none.
use Rattle.std.specs.Prelude.{ℕ, List, [], ◌∷◌, map, nat_eq, if◌then◌else◌}
use Rattle.fir_base.specs.declared.direction.Direction.{Direction}
use Rattle.ver_words.specs.declared.signal.Signal.{Signal}
use Rattle.ver_words.specs.declared.signal.Signal.TheVariants.{Bits, Clock}

-- a port's name before it is made one of Verilog, its direction, and what it carries
pub record Row : Type 0 where
  pub name : List ℕ
  pub direction : Direction
  pub signal : Signal

abbrev pub row : List ℕ → Direction → ℕ → List Row
row name d width = if nat_eq width 0 then [] else (record { name = name; direction = d; signal = Bits width } ∷ [])

abbrev pub clock_row : List ℕ → Direction → List Row
clock_row name d = record { name = name; direction = d; signal = Clock } ∷ []

-- a word of the state: its name before it is made one of Verilog, and its width
pub record Word : Type 0 where
  pub name : List ℕ
  pub width : ℕ

abbrev pub word : List ℕ → ℕ → List Word
word name width = if nat_eq width 0 then [] else (record { name = name; width = width } ∷ [])

-- an array of the state: its name before it is made one of Verilog, the width of its words, and how many there are
pub record ArrayRow : Type 0 where
  pub name : List ℕ
  pub width : ℕ
  pub depth : ℕ

abbrev pub row_names : List Row → List (List ℕ)
row_names = map (λ r. r.name)

abbrev pub word_names : List Word → List (List ℕ)
word_names = map (λ w. w.name)

abbrev pub word_widths : List Word → List ℕ
word_widths = map (λ w. w.width)

abbrev pub array_names : List ArrayRow → List (List ℕ)
array_names = map (λ a. a.name)

-- direction, and what is carried
abbrev pub PortKind : Type 0
PortKind = Direction × Signal

abbrev pub row_kinds : List Row → List PortKind
row_kinds = map (λ r. (r.direction, r.signal))
