-- What the code reads of the words of a tick's line.
use Rattle.std.specs.Prelude.{◌≡◌, ℕ, ◌+◌, ◌≤◌, List, [], ◌∷◌, ◌++◌, length, take, drop, map, Option, Some, None, Result, Ok, Err}
use Rattle.std.specs.List.{AllByRecursion}
use Rattle.std.specs.Option.{option_or}
use Rattle.fir_base.specs.Ticks.{Tick}
use Rattle.trace_text.specs.declared.fault.Cause.{Cause}
use Rattle.trace_text.specs.declared.clock_list.ReadClocks.{ReadClocks}
use Rattle.trace_text.specs.declared.tick_words.ReadValues.{ReadValues}
use Rattle.trace_text.specs.Lines.{words_of}
use Rattle.trace_text.specs.Spelling.{hexadecimal_of, clocks_of}
use Rattle.trace_text.specs.Shapes.{TraceShape}
use Rattle.trace_text.specs.working.Shapes.{IsWidth}
use Rattle.trace_text.specs.LineFaults.{misspelled_values, wide_values, tick_faults}
use Rattle.trace_text.specs.working.ClockLists.{ReadsClockList}
use Rattle.trace_text.specs.working.Readings.{first_cause}

-- the widths of inputs
abbrev pub AreWidths : List ℕ → Type 0
AreWidths = AllByRecursion IsWidth

-- words, of which there is one for each input, are read up to those that are left
pub record ValuesFit (widths : List ℕ) (words left : List (List ℕ)) (read : ReadValues) (inputs : List ℕ) : Type 0 where
  pub misspelled : option_or read.misspelled (first_cause (misspelled_values (read.count + 2) left)) ≡ first_cause (misspelled_values 2 words)
  pub wide : read.misspelled ≡ None
      → option_or read.wide (first_cause (wide_values (read.count + 2) (drop read.count widths) left)) ≡ first_cause (wide_values 2 widths words)
  pub put : read.misspelled ≡ None → read.wide ≡ None → take read.count inputs ++ map hexadecimal_of left ≡ map hexadecimal_of words

-- words are read up to those that are left
pub record ValuesAreRead (widths : List ℕ) (words left : List (List ℕ)) (read : ReadValues) (inputs : List ℕ) : Type 0 where
  pub count : read.count + length left ≡ length words
  pub room : length inputs ≡ length widths
  pub fit : length words ≡ length widths → ValuesFit widths words left read inputs

-- the first word of a line and those behind it are read
pub record WordsAreRead (shape : TraceShape) (w : List ℕ) (ws : List (List ℕ)) (clocks : Option ReadClocks) (room : List ℕ) (values : ReadValues) (inputs : List ℕ) : Type 0 where
  pub clocks_read : ReadsClockList w clocks room
  pub room_is : length room ≡ shape.clocks
  pub values_read : ValuesAreRead shape.inputs ws [] values inputs

-- how many clocks such words name, or the first thing that is wrong with them
abbrev pub JudgesWords : TraceShape → List ℕ → List (List ℕ) → List ℕ → List ℕ → Result ℕ Cause → Type 0
JudgesWords shape w ws room inputs (Ok named) =
    (tick_faults shape w ws ≡ []) × (named ≤ length room) × (take named room ≡ clocks_of w) × (inputs ≡ map hexadecimal_of ws)
JudgesWords shape w ws room inputs (Err cause) = first_cause (tick_faults shape w ws) ≡ Some cause

-- the tick that words spell
abbrev pub tick_of : List ℕ → List (List ℕ) → Tick
tick_of w ws = record { inputs = map hexadecimal_of ws; clocks = clocks_of w }

-- what comes of words that should be a tick: the tick is changed only where nothing is wrong
abbrev pub GivesTick : TraceShape → List ℕ → List (List ℕ) → Tick → Tick → Result (Unit {0}) Cause → Type 0
GivesTick shape w ws old new (Ok u) = (tick_faults shape w ws ≡ []) × (new ≡ tick_of w ws)
GivesTick shape w ws old new (Err cause) = (first_cause (tick_faults shape w ws) ≡ Some cause) × (new ≡ old)

abbrev pub ReadsTickWords : TraceShape → List ℕ → Tick → Tick → Result (Unit {0}) Cause → Type 0
ReadsTickWords shape line old new result = (w : List ℕ) × (ws : List (List ℕ)) × (words_of line ≡ w ∷ ws) × GivesTick shape w ws old new result
