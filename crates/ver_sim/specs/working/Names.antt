-- Names and their numbers.
use Rattle.std.specs.Prelude.{◌≡◌, ℕ, List, slice_get, Option, Some, None}
use Rattle.std.specs.BTreeMap.{get}
use Rattle.std.specs.Cmp.Lexicographic.{slice_cmp}
use Rattle.std.specs.Ordering.{nat_cmp}
use Rattle.fir_base.specs.Lists.{In}
use Rattle.ver_sim.specs.declared.names.Numbers.{Numbers}

-- the number of a name
abbrev pub number_in : Numbers → List ℕ → Option ℕ
number_in numbers name = get (slice_cmp nat_cmp) numbers.numbers name

-- each name of the list has a number, and it stands at that place
pub record IsNumbering (names : List (List ℕ)) (numbers : Numbers) : Type 0 where
  pub found : (n : List ℕ) (i : ℕ) → number_in numbers n ≡ Some i → slice_get names i ≡ Some n
  pub missed : (n : List ℕ) → number_in numbers n ≡ None → In names n → ⊥
