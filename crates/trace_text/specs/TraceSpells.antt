-- Which bytes spell which initial state and ticks.
-- First stand the init lines, of which a later one for the same word counts; words that are not named start at 0. Then each line is a tick. Skipped lines
-- may stand anywhere.
use Rattle.std.specs.Prelude.{◌≡◌, ℕ, List, [], ◌∷◌, ◌++◌, length, slice_set, ◌⊎◌, replicate}
use Rattle.fir_base.specs.Ticks.{Tick}
use Rattle.trace_text.specs.Lines.{AreAllLines, IsSkipped}
use Rattle.trace_text.specs.Shapes.{TraceShape, state_widths}
use Rattle.trace_text.specs.SpelledLines.{IsInitLine, IsTickLine}

-- the lines give the state after from the one before
abbrev pub AreInits : TraceShape → List (List ℕ) → List ℕ → List ℕ → Type 0
AreInits shape [] before after = before ≡ after
AreInits shape (line ∷ lines) before after =
    (IsSkipped line × AreInits shape lines before after)
    ⊎ ((place : ℕ) × (value : ℕ) × IsInitLine shape line place value × AreInits shape lines (slice_set before place value) after)

abbrev pub AreTicks : TraceShape → List (List ℕ) → List Tick → Type 0
AreTicks shape [] ticks = ticks ≡ []
AreTicks shape (line ∷ lines) ticks =
    (IsSkipped line × AreTicks shape lines ticks)
    ⊎ ((tick : Tick) × (rest : List Tick) × (ticks ≡ tick ∷ rest) × IsTickLine shape line tick × AreTicks shape lines rest)

abbrev pub zeros : TraceShape → List ℕ
zeros shape = replicate (length (state_widths shape.state)) 0

-- the lines spell the initial state and the ticks
pub record LinesSpell (shape : TraceShape) (lines : List (List ℕ)) (init : List ℕ) (ticks : List Tick) : Type 0 where
  pub front : List (List ℕ)
  pub back : List (List ℕ)
  pub lines_are : lines ≡ front ++ back
  pub inits : AreInits shape front (zeros shape) init
  pub ticks_are : AreTicks shape back ticks

pub record TraceSpells (bytes : List ℕ) (shape : TraceShape) (init : List ℕ) (ticks : List Tick) : Type 0 where
  pub lines : List (List ℕ)
  pub all : AreAllLines bytes lines
  pub spelled : LinesSpell shape lines init ticks
