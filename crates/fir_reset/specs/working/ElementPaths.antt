-- Paths of leaves, where the numbers of elements do not count.
use Rattle.std.specs.Prelude.{◌≡◌, ℕ, ◌++◌, map, take, drop}
use Rattle.fir_meaning.specs.LeafPaths.{Step, LeafPath, named, element}
use Rattle.fir_meaning.specs.ResetItems.{End, leaf_item}

-- a path in which all elements are one
abbrev pub any_element : Step → Step
any_element (named x) = named x
any_element (element i) = element 0

-- the path with the first element for each behind so many steps
abbrev pub firsts_behind : ℕ → LeafPath → LeafPath
firsts_behind kept path = take kept path ++ map any_element (drop kept path)

-- two leaves of one module whose paths are one but for the numbers of elements
pub record DifferInElements (a b : End) : Type 0 where
  pub number : ℕ
  pub path : LeafPath
  pub other : LeafPath
  pub one_is : a.item ≡ leaf_item number path
  pub other_is : b.item ≡ leaf_item number other
  pub same : map any_element path ≡ map any_element other
  pub ground_type : a.ground_type ≡ b.ground_type
  pub place : a.place ≡ b.place
