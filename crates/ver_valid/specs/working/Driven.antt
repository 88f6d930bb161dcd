-- The names that have a driver.
use Rattle.std.specs.Prelude.{◌≡◌, ℕ, List, Bool, true}
use Rattle.std.specs.Str.{bytes_eq}
use Rattle.indexmap.specs.IndexSet.{contains_by}
use Rattle.fir_base.specs.Lists.{In, Distinct}
use Rattle.ver_valid.specs.declared.driven.Driven.{Driven}

abbrev pub has : Driven → List ℕ → Bool
has driven name = contains_by (λ known. bytes_eq name known.items) driven.names

-- the set has the names of the list, each of which stands there once
pub record Drives (driven : Driven) (ns : List (List ℕ)) : Type 0 where
  pub only : (n : List ℕ) → has driven n ≡ true → In ns n
  pub each : (n : List ℕ) → In ns n → has driven n ≡ true
  pub once : Distinct ns
