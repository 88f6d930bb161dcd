-- What the code reads of a clock list into the room of a tick.
use Rattle.std.specs.Prelude.{◌≡◌, ℕ, ◌≤◌, List, ◌++◌, length, take, map, true, false, Option, None, MatchOption}
use Rattle.std.specs.Option.{option_or}
use Rattle.trace_text.specs.declared.clock_list.Clock.{Clock}
use Rattle.trace_text.specs.declared.clock_list.ReadClocks.{ReadClocks}
use Rattle.trace_text.specs.Spelling.{is_decimal, decimal_of, is_clock_list, clocks_of}
use Rattle.trace_text.specs.LineFaults.{absent_clocks, absent_in_list}
use Rattle.trace_text.specs.working.Numbers.{IsNumber}
use Rattle.trace_text.specs.working.Readings.{first_cause}

-- decimal digits, and their number
pub record IsClock (clock : Clock) : Type 0 where
  pub spelled : is_decimal clock.digits.now ≡ true
  pub number : IsNumber clock.number (decimal_of clock.digits.now)

-- the pieces of a list are read up to those that are left, of which the first begins at the place
pub record ClocksAreRead (pieces left : List (List ℕ)) (place : ℕ) (read : ReadClocks) (room : List ℕ) : Type 0 where
  pub within : read.named ≤ length room
  pub absent : option_or read.absent (first_cause (absent_clocks (length room) place left)) ≡ first_cause (absent_clocks (length room) 0 pieces)
  pub named : read.absent ≡ None → take read.named room ++ map decimal_of left ≡ map decimal_of pieces

-- the first so many of the room are the clocks of the list, where each is there
pub record ReadsClocks (word : List ℕ) (read : ReadClocks) (room : List ℕ) : Type 0 where
  pub spelled : is_clock_list word ≡ true
  pub within : read.named ≤ length room
  pub absent : read.absent ≡ first_cause (absent_in_list (length room) word)
  pub named : read.absent ≡ None → take read.named room ≡ clocks_of word

abbrev pub ReadsClockList : List ℕ → Option ReadClocks → List ℕ → Type 0
ReadsClockList word read room = MatchOption read (is_clock_list word ≡ false) (λ clocks. ReadsClocks word clocks room)
