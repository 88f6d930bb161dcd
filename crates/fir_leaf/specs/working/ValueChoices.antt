-- The choice that values make for a leaf: each when by its condition, each statement through indices by whether it hits the leaf.
use Rattle.std.specs.Prelude.{ℕ, [], ◌∷◌, Bool, true, false, Option, Some, None, nat_eq}
use Rattle.fir_meaning.specs.working.TermValues.{Holds, is_true, leaf_of}
use Rattle.fir_meaning.specs.working.LeafBlocks.{LeafStatement, LeafBlock, drive, when, instance, done, then}
use Rattle.fir_meaning.specs.working.Choices.{Choice}

abbrev pub hits : Option ℕ → ℕ → Bool
hits None x = false
hits (Some y) x = nat_eq y x

module _ (holds : Holds) (numbers : ℕ → ℕ) (x : ℕ) where
  abbrev mutual
    pub choice_of : LeafStatement → Choice
    choice_of (drive p b ps t) way = hits (leaf_of holds numbers b ps) x
    choice_of (when p c a b) [] = is_true holds numbers c
    choice_of (when p c a b) (false ∷ way) = choice_of_all a way
    choice_of (when p c a b) (true ∷ way) = choice_of_all b way
    choice_of (instance i) way = false

    pub choice_of_all : LeafBlock → Choice
    choice_of_all done way = false
    choice_of_all ((then) s b) [] = false
    choice_of_all ((then) s b) (false ∷ way) = choice_of s way
    choice_of_all ((then) s b) (true ∷ way) = choice_of_all b way
