-- A set of names in the code, as a list, and what is done with it.
use Rattle.std.specs.Prelude.{◌≡◌, ℕ, ◌+◌, ◌^◌, ◌<◌, ◌≤◌, List, ◌∷◌, ◌++◌, length, map, Bool, true, false, Option, Some, None, decimal}
use Rattle.std.specs.BTreeMap.{BTreeMap, get}
use Rattle.std.specs.BTreeSet.{BTreeSet, contains}
use Rattle.std.specs.Cmp.Lexicographic.{slice_cmp}
use Rattle.std.specs.Ordering.{nat_cmp}
use Rattle.fir_base.specs.Words.{is_among}
use Rattle.fir_base.specs.Lists.{In}
use Rattle.fir_net_names.specs.declared.numbered.Numbered.{Numbered}
use Rattle.fir_net_names.specs.Names.{suffixed, AreNamed, IsNameFor}
use Rattle.fir_net_names.specs.working.LeafNamed.{somes, name_at}

-- whether the set has the name
abbrev pub has : BTreeSet (List ℕ) → List ℕ → Bool
has set n = contains (slice_cmp nat_cmp) set n

pub record Holds (set : BTreeSet (List ℕ)) (names : List (List ℕ)) : Type 0 where
  pub each : (n : List ℕ) → contains (slice_cmp nat_cmp) set n ≡ is_among names n

-- the set has all names of the base with numbers below this one
abbrev pub IsPassed : BTreeSet (List ℕ) → List ℕ → ℕ → Type 0
IsPassed set base number = (k : ℕ) → k < number → has set (suffixed base k) ≡ true

-- so for each base with its number
pub record ArePassed (set : BTreeSet (List ℕ)) (numbers : BTreeMap (List ℕ) ℕ) : Type 0 where
  pub each : (base : List ℕ) (number : ℕ) → get (slice_cmp nat_cmp) numbers base ≡ Some number → IsPassed set base number

-- the first name from that number on which the set lacks, of this front and a number: this one
pub record IsFirstUntaken (set : BTreeSet (List ℕ)) (front : List ℕ) (from : ℕ) (found : Numbered) : Type 0 where
  pub low : from ≤ found.number
  pub high : found.number < from + 2 ^ 63
  pub few : length set.keys < 2 ^ 63
  pub is : found.name ≡ front ++ decimal found.number
  pub free : has set found.name ≡ false
  pub before : (k : ℕ) → from ≤ k → k < found.number → has set (front ++ decimal k) ≡ true

-- a base gets this name, and the set has it besides then
pub record TakesName (old new : BTreeSet (List ℕ)) (base name : List ℕ) : Type 0 where
  pub named : (names : List (List ℕ)) → Holds old names → IsNameFor names base name
  pub held : (names : List (List ℕ)) → Holds old names → Holds new (name ∷ names)

-- these numbers, and no others, have names, which they took of their bases in this order and behind names that were taken before, and the set has all these
pub record HasNames (base : ℕ → List ℕ) (before : List (List ℕ)) (order : List ℕ) (names : List (Option (List ℕ))) (set : BTreeSet (List ℕ)) : Type 0 where
  pub named : AreNamed before (map base order) (somes (map (name_at names) order))
  pub has : (k : ℕ) → In order k → (name : List ℕ) × (name_at names k ≡ Some name)
  pub only : (k : ℕ) → (In order k → ⊥) → name_at names k ≡ None
  pub held : Holds set (before ++ somes (map (name_at names) order))
