-- Names and their numbers.
use Rattle.std.specs.Prelude.{◌≡◌, ℕ, List, slice_get, Option, Some, None}
use Rattle.std.specs.Str.{bytes_eq}
use Rattle.indexmap.specs.IndexMap.{get_by}
use Rattle.fir_base.specs.Lists.{In}
use Rattle.ver_valid.specs.declared.numbers.Numbers.{Numbers}

-- the number of a name
abbrev pub number_in : Numbers → List ℕ → Option ℕ
number_in numbers name = get_by (λ known. bytes_eq name known.items) numbers.numbers

-- each name of the list has a number, and it stands at that place
pub record IsNumbering (names : List (List ℕ)) (numbers : Numbers) : Type 0 where
  pub found : (n : List ℕ) (i : ℕ) → number_in numbers n ≡ Some i → slice_get names i ≡ Some n
  pub missed : (n : List ℕ) → number_in numbers n ≡ None → In names n → ⊥
