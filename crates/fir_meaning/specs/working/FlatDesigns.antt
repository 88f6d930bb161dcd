-- The statements of a design as one block (FIRRTL spec, "Instances").
-- A module's own leaves come first, then those of its instances in the order of their statements; arrays likewise. An instance's body stands in the place of
-- its statement, within the whens round it; its leaves count these in their depths, so none of them conditions what it stores.
use Rattle.std.specs.Prelude.{ℕ, ◌+◌, List, drop, length}
use Rattle.fir_meaning.specs.working.LeafBlocks.{LeafBlock, joined}
use Rattle.fir_meaning.specs.working.LeafBlocks as over
use Rattle.fir_meaning.specs.working.LeafModules.{LeafDeclared, LeafModule}
use Rattle.fir_meaning.specs.working.Designs.{Item, drive, when, instance, Items, done, then, Design, made_of}
use Rattle.fir_meaning.specs.working.Numberings.{Numbering, moved, moved_picks, number, numbering}

-- the leaves that are no ports
abbrev pub inner_leaves : LeafModule → List LeafDeclared
inner_leaves m = drop m.port_leaves m.leaves

-- how many leaves the instances have besides those of their ports
abbrev mutual
  pub count : Item → ℕ
  count (drive p b ps t) = 0
  count (when p c a b) = count_all a + count_all b
  count (instance i d) = count_below d

  pub count_all : Items → ℕ
  count_all done = 0
  count_all ((then) i is) = count i + count_all is

  pub count_below : Design → ℕ
  count_below (made_of m is) = length (inner_leaves m) + count_all is

-- and how many arrays
abbrev mutual
  pub array_count : Item → ℕ
  array_count (drive p b ps t) = 0
  array_count (when p c a b) = array_count_all a + array_count_all b
  array_count (instance i d) = array_count_below d

  pub array_count_all : Items → ℕ
  array_count_all done = 0
  array_count_all ((then) i is) = array_count i + array_count_all is

  pub array_count_below : Design → ℕ
  array_count_below (made_of m is) = length m.arrays + array_count_all is

-- the statements; `free` is the first number that is not taken
abbrev mutual
  pub flat : Numbering → ℕ → Item → LeafBlock
  flat n free (drive p b ps t) = over.then (over.drive p (number n b) (moved_picks n ps) (moved n t)) over.done
  flat n free (when p c a b) = over.then (over.when p (moved n c) (flat_all n free a) (flat_all n (free + count_all a) b)) over.done
  flat n free (instance i d) = flat_below (number n i.first) free d

  pub flat_all : Numbering → ℕ → Items → LeafBlock
  flat_all n free done = over.done
  flat_all n free ((then) i is) = joined (flat n free i) (flat_all n (free + count i) is)

  -- of a design whose ports have the leaves from a number on
  pub flat_below : ℕ → ℕ → Design → LeafBlock
  flat_below first free (made_of m is) = flat_all (numbering m first free) (free + length (inner_leaves m)) is
