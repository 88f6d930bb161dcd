-- What is left of the statuses of the program where no read and no write fails.
-- Of words that are not taken 2; of `check` and `emit` 0, 1 and 8; of `sim` also 6, for a bad line of the trace; of `vsim` 0, 6, 7 and 8. 5 is want of memory.
use Rattle.std.specs.Prelude.{◌≡◌, ◌⊎◌, ℕ, Option, Some, None}
use Rattle.fir_words.specs.Commands.{Command, check, emit, sim, vsim}

abbrev pub IsLeft : Option Command → ℕ → Type 0
IsLeft None answer = (answer ≡ 2) ⊎ (answer ≡ 5)
IsLeft (Some (check name)) answer = (answer ≡ 0) ⊎ (answer ≡ 1) ⊎ (answer ≡ 5) ⊎ (answer ≡ 8)
IsLeft (Some (emit name)) answer = (answer ≡ 0) ⊎ (answer ≡ 1) ⊎ (answer ≡ 5) ⊎ (answer ≡ 8)
IsLeft (Some (sim s)) answer = (answer ≡ 0) ⊎ (answer ≡ 1) ⊎ (answer ≡ 5) ⊎ (answer ≡ 6) ⊎ (answer ≡ 8)
IsLeft (Some (vsim s)) answer = (answer ≡ 0) ⊎ (answer ≡ 5) ⊎ (answer ≡ 6) ⊎ (answer ≡ 7) ⊎ (answer ≡ 8)
