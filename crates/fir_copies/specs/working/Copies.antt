-- The modules of a design, the main one first, each before those of its instances, in the order of their statements: of each its number, and from which numbers
-- on the leaves of its ports, its other leaves and its arrays stand in the design's circuit (FIRRTL spec, "Instances", "Memories").
use Rattle.std.specs.Prelude.{ℕ, ◌+◌, List, [], ◌∷◌, ◌++◌, length}
use Rattle.fir_meaning.specs.working.Designs.{Item, drive, when, instance, Items, done, then, Design, made_of}
use Rattle.fir_meaning.specs.working.FlatDesigns.{array_count, array_count_all, count, count_all, inner_leaves}
use Rattle.fir_meaning.specs.working.Numberings.{Numbering, number, numbering}

pub record Copy : Type 0 where
  pub module_number : ℕ
  pub first : ℕ
  pub own : ℕ
  pub array : ℕ

-- by where the leaves of the module stand that holds it; `free` is the first number that is not taken, `array` that of arrays
abbrev mutual
  pub copies_in : Numbering → ℕ → ℕ → Item → List Copy
  copies_in n free array (drive p b ps t) = []
  copies_in n free array (when p c a b) = all_copies_in n free array a ++ all_copies_in n (free + count_all a) (array + array_count_all a) b
  copies_in n free array (instance i d) = copies_below i.module_number (number n i.first) free array d

  pub all_copies_in : Numbering → ℕ → ℕ → Items → List Copy
  all_copies_in n free array done = []
  all_copies_in n free array ((then) i is) = copies_in n free array i ++ all_copies_in n (free + count i) (array + array_count i) is

  -- of a design of the module of a number, whose ports have the leaves from another on
  pub copies_below : ℕ → ℕ → ℕ → ℕ → Design → List Copy
  copies_below x first free array (made_of m is) =
      record { module_number = x; first = first; own = free; array = array }
      ∷ all_copies_in (numbering m first free) (free + length (inner_leaves m)) (array + length m.arrays) is

-- all of them, where the main module has this number
abbrev pub copies_of : ℕ → Design → List Copy
copies_of x (made_of m is) = copies_below x 0 m.port_leaves 0 (made_of m is)
