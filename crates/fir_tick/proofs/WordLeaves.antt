-- The leaf of a word of the state that a walk over the state has come to.
use Rattle.std.proofs.Common.{◌≡◌, ℕ, ◌+◌, ◌<◌, List, [], ◌∷◌, ◌++◌, get_or, length, take, true, Some, sym, ap, ◌∙◌, subst}
use Rattle.std.specs.Prelude.{slice_get}
use Rattle.std.proofs.lemmas.Option.{slice_get-get_or, slice_get_within}
use Rattle.fir_net.specs.declared.leaf.Leaf.{Leaf}
use Rattle.fir_net.specs.declared.net.FlatNet.{FlatNet}
use Rattle.fir_net.specs.working.IsNet.{IsNet, is_word}
use Rattle.fir_tick.proofs.Lists.{item_stands, item_next}

module _ (net : FlatNet) (whole : IsNet net) (leaves : List Leaf) (all_leaves : leaves ≡ net.leaves) (state : List ℕ) (all_words : state ≡ net.state) (i word : ℕ) (within : i < length state) (is : word ≡ get_or state i word) where
  -- it stands in the state
  pub word_stands : slice_get net.state i ≡ Some word
  word_stands = item_stands state net.state all_words i word word within is

  -- and it is the next one
  pub word_next : take (i + 1) net.state ≡ take i net.state ++ word ∷ []
  word_next = item_next state net.state all_words i word word within is

  module _ (number : ℕ) (named : number ≡ word) where
    found : (l : Leaf) × (slice_get leaves number ≡ Some l) × (is_word l ≡ true)
    found =
        let f = whole.state.only i word word_stands in
        (f.0, ap (λ (ls : List Leaf). slice_get ls number) all_leaves ∙ ap (slice_get net.leaves) named ∙ f.1, f.2)

    -- there is a leaf of that number
    pub word_within : number < length leaves
    word_within = slice_get_within leaves number found.0 found.1

    -- and it is a register or a pipe that has bits
    module _ (leaf : Leaf) (read : leaf ≡ get_or leaves number leaf) where
      there : slice_get leaves number ≡ Some leaf
      there = slice_get-get_or leaves number leaf word_within ∙ ap Some (sym read)

      pub word_leaf : slice_get net.leaves number ≡ Some leaf
      word_leaf = subst (λ (ls : List Leaf). slice_get ls number ≡ Some leaf) all_leaves there

      pub leaf_is_word : is_word leaf ≡ true
      leaf_is_word = let same : Some found.0 ≡ Some leaf = sym found.1 ∙ there in let one : found.0 ≡ leaf = cc in ap is_word (sym one) ∙ found.2
