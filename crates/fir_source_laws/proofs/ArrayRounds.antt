-- What the next state holds at an address of an array is the word that the array has after the writes.
use Rattle.std.proofs.Common.{◌≡◌, ℕ, zero, suc, ◌+◌, ◌<◌, List, [], ◌∷◌, ◌++◌, true, false, length, map, flat_map, refl, sym, ap, ap₂, subst, ◌∙◌, inl, inr, arith, append_assoc, length-append}
use Rattle.std.specs.Prelude.{slice_index}
use Rattle.std.proofs.lemmas.List.{get_or-append-add, get_or_append_left, length-map}
use Rattle.fir_base.specs.Lists.{Distinct, In}
use Rattle.fir_base.proofs.Members.{in_map}
use Rattle.fir_meaning.specs.MemoryWords.{addresses, word_behind}
use Rattle.fir_meaning.specs.SourceAllows.{array_next, word_after, word_next, word_written, word_written_in, words_next}
use Rattle.fir_meaning.specs.SourceCircuits.{PlacedArray, PlacedLeaf, all_arrays, array_path, leaf_path, state_arrays, state_words}
use Rattle.fir_meaning.specs.SourceDesigns.{SourceDesign}
use Rattle.fir_meaning.specs.SourceValues.{PathEnv, begins_on, word_before, words_on}
use Rattle.fir_meaning.specs.SamePaths.{same_path}
use Rattle.fir_source_laws.specs.working.StateWords.{array_behind_tick}
use Rattle.fir_source_laws.proofs.StatePaths.{path_equal, path_other}

as_many : (from n : ℕ) → length (addresses from n) ≡ n
unfolding addresses
as_many from zero = refl
as_many from (suc n) = ap suc (as_many (from + 1) n)

at_address : (g : ℕ → ℕ) (from n i j : ℕ) → i < n → from + i ≡ j → slice_index (map g (addresses from n)) i ≡ g j
unfolding addresses
at_address g from zero i j h e = absurd (omega (arith, h))
at_address g from (suc n) zero j h e = let is : from ≡ j = omega (arith, e) in ap g is
at_address g from (suc n) (suc i) j h e = at_address g (from + 1) n i j (omega (arith, h)) (omega (arith, e))

-- the first of the arrays is that of the path, or none of that path is
test_first : (a b : PlacedArray) → b ≡ a → same_path (array_path b) (array_path a) ≡ true
test_first a b e = path_equal (array_path b) (array_path a) (ap array_path e)

test_other : (a b : PlacedArray) (arrays : List PlacedArray) → Distinct (map array_path (b ∷ arrays)) → In arrays a
    → same_path (array_path b) (array_path a) ≡ false
test_other a b arrays once among =
    path_other (array_path b) (array_path a) (λ e. once.0 (subst (In (map array_path arrays)) (sym e) (in_map array_path arrays a among)))

-- lists as long as the arrays have words, one behind the other
module _ (f : PlacedArray → List ℕ) (long : (a : PlacedArray) → length (f a) ≡ a.array.words) where
  laid : (front : List ℕ) (place : ℕ) (arrays : List PlacedArray) (a : PlacedArray) (address : ℕ) → length front ≡ place → In arrays a
      → Distinct (map array_path arrays) → address < a.array.words
      → word_behind (front ++ flat_map f arrays) (begins_on place arrays (array_path a)) address ≡ slice_index (f a) address
  laid front place [] a address l among once lt = absurd among
  laid front place (b ∷ arrays) a address l (inl is) once lt =
      let here = test_first a b is in
      let inside : address < length (f b) = rw (long b, is) lt in
      let whole : slice_index (front ++ (f b ++ flat_map f arrays)) (length front + address) ≡ slice_index (f b ++ flat_map f arrays) address =
      get_or-append-add front (f b ++ flat_map f arrays) address 0 in
      let left : slice_index (f b ++ flat_map f arrays) address ≡ slice_index (f b) address = get_or_append_left (f b) (flat_map f arrays) 0 address inside in
      rw (here, ← l) (whole ∙ left ∙ ap (λ (y : PlacedArray). slice_index (f y) address) is)
  laid front place (b ∷ arrays) a address l (inr m) once lt =
      let other = test_other a b arrays once m in
      let long_front : length (front ++ f b) ≡ place + b.array.words = length-append front (f b) ∙ ap₂ (λ x y. x + y) l (long b) in
      rw (other, ← append_assoc front (f b) (flat_map f arrays))
      (laid (front ++ f b) (place + b.array.words) arrays a address long_front m once.1 lt)

module _ (t : SourceDesign) (state edges : List ℕ) (env : PathEnv) where
  as_long : (a : PlacedArray) → length (array_next t state edges env a) ≡ a.array.words
  as_long a = length-map (addresses 0 a.array.words) (word_written t state edges env (array_path a)) ∙ as_many 0 a.array.words

  words_long : length (words_next t state edges env) ≡ length (state_words t)
  words_long = length-map (state_words t) (λ (p : PlacedLeaf). word_next t state edges env p.at (leaf_path p) p.leaf.role)

  written : (arrays : List PlacedArray) (a : PlacedArray) (address word : ℕ) → In arrays a → Distinct (map array_path arrays)
      → word_written_in t state edges env arrays (array_path a) address word ≡ word_after t state edges env a.at a.array.writings address word
  written [] a address word among once = absurd among
  written (b ∷ arrays) a address word (inl is) once =
      let here = test_first a b is in rw here (ap (λ (y : PlacedArray). word_after t state edges env y.at y.array.writings address word) is)
  written (b ∷ arrays) a address word (inr m) once =
      let other = test_other a b arrays once m in rw other (written arrays a address word m once.1)

  pub next_written : (a : PlacedArray) (address : ℕ) → In (state_arrays t) a → Distinct (map array_path (state_arrays t)) → address < a.array.words
      → array_behind_tick t state edges env (array_path a) address ≡ word_written t state edges env (array_path a) address
  next_written a address stored once lt =
      laid (array_next t state edges env) as_long (words_next t state edges env) (length (state_words t)) (state_arrays t) a address words_long stored once lt
      ∙ at_address (word_written t state edges env (array_path a)) 0 a.array.words address address lt (omega arith)

  pub next_array : (a : PlacedArray) (address : ℕ) → In (state_arrays t) a → Distinct (map array_path (state_arrays t))
      → In (all_arrays t) a → Distinct (map array_path (all_arrays t)) → address < a.array.words
      → array_behind_tick t state edges env (array_path a) address
      ≡ word_after t state edges env a.at a.array.writings address (word_before t state (array_path a) address)
  next_array a address stored once_stored among once lt =
      next_written a address stored once_stored lt ∙ written (all_arrays t) a address (word_before t state (array_path a) address) among once

pub words_found : (arrays : List PlacedArray) (a : PlacedArray) → In arrays a → Distinct (map array_path arrays)
    → words_on arrays (array_path a) ≡ a.array.words
words_found [] a among once = absurd among
words_found (b ∷ arrays) a (inl is) once = let here = test_first a b is in rw here (ap (λ (y : PlacedArray). y.array.words) is)
words_found (b ∷ arrays) a (inr m) once = let other = test_other a b arrays once m in rw other (words_found arrays a m once.1)
