-- A round is a list that has the number of each process at least once, in any order (IEEE 1364-2005, 11.4.2).
-- A list holds some number of rounds where so many stand in it one after the other, whatever else stands between and within them.
use Rattle.std.specs.Prelude.{◌≡◌, ℕ, zero, suc, ◌<◌, List, ◌++◌}
use Rattle.fir_base.specs.Lists.{In}

-- a round of n processes
abbrev pub IsRound : ℕ → List ℕ → Type 0
IsRound n round = (k : ℕ) → k < n → In round k

-- so many rounds of n processes
abbrev pub HasRounds : ℕ → ℕ → List ℕ → Type 0
HasRounds n zero list = Unit {0}
HasRounds n (suc count) list = (round : List ℕ) × (rest : List ℕ) × (list ≡ round ++ rest) × IsRound n round × HasRounds n count rest
