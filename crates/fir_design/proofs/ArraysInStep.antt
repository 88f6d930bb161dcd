-- A circuit and a tree that go in step have the same arrays by number and by path.
use Rattle.std.proofs.Common.{◌≡◌, ℕ, ◌+◌, ◌<◌, List, [], ◌∷◌, Bool, if◌then◌else◌, length, map, slice_get, Option, Some, refl, sym, ap, ap₂, ◌∙◌, subst}
use Rattle.std.proofs.lemmas.List.{length-map}
use Rattle.std.proofs.lemmas.Option.{same_Some, slice_get_within}
use Rattle.fir_base.specs.Lists.{In}
use Rattle.fir_base.proofs.Elements.{get_in, number_of, there}
use Rattle.fir_meaning.specs.LeafPaths.{LeafPath}
use Rattle.fir_leaf.specs.working.DesignStates.{array_at}
use Rattle.fir_meaning.specs.working.LeafCircuits.{LeafCircuit}
use Rattle.fir_meaning.specs.working.LeafStates.{array_of}
use Rattle.fir_meaning.specs.working.Memories.{begins_from, word_before}
use Rattle.fir_meaning.specs.MemoryWords.{word_behind}
use Rattle.fir_meaning.specs.SamePaths.{same_path}
use Rattle.fir_meaning.specs.SourceCircuits.{PlacedArray, all_arrays, all_leaves, array_path, state_arrays, state_words}
use Rattle.fir_meaning.specs.SourceDesigns.{SourceDesign}
use Rattle.fir_meaning.specs.SourceValues as tree
use Rattle.fir_meaning.specs.SourceValues.{begins_on, words_on}
use Rattle.fir_design.proofs.InStep.{InStep}
use Rattle.fir_design.proofs.PathLookups.{found, found_at, same_test}

-- the path of an array
abbrev pub path_of_array : LeafCircuit → ℕ → LeafPath
path_of_array c k = (array_at c.arrays k).path

module _ (c : LeafCircuit) (t : SourceDesign) (s : InStep c t) where
  pub array_there : (k : ℕ) → k < length c.arrays → (a : PlacedArray) × (slice_get (all_arrays t) k ≡ Some a)
  array_there k lt = there (all_arrays t) k (subst (λ n. k < n) s.many_arrays lt)

  pub array_within : (k : ℕ) (a : PlacedArray) → slice_get (all_arrays t) k ≡ Some a → k < length c.arrays
  array_within k a e = subst (λ n. k < n) (sym s.many_arrays) (slice_get_within (all_arrays t) k a e)

  one_array : (a b : PlacedArray) → In (all_arrays t) a → In (all_arrays t) b → array_path a ≡ array_path b → a ≡ b
  one_array a b m n e =
      let x = number_of (all_arrays t) a m in
      let y = number_of (all_arrays t) b n in
      let same : x.0 ≡ y.0 =
      s.arrays_once x.0 y.0 (array_within x.0 a x.1) (array_within y.0 b y.1)
      ((s.each_array x.0 a x.1).path ∙ e ∙ sym (s.each_array y.0 b y.1).path) in
      same_Some a b (sym x.1 ∙ ap (slice_get (all_arrays t)) same ∙ y.1)

  -- what is found by the path of an array
  pub array_found : {B : Type 0} → (give : PlacedArray → B) (none : B) (k : ℕ) (a : PlacedArray) → slice_get (all_arrays t) k ≡ Some a
      → found array_path give none (all_arrays t) (path_of_array c k) ≡ give a
  array_found give none k a e =
      let among = get_in (all_arrays t) k a e in
      ap (found array_path give none (all_arrays t)) (s.each_array k a e).path
      ∙ found_at array_path give none (all_arrays t) a among (λ b m same. ap give (one_array b a m among same))

  pub words_same : (k : ℕ) → k < length c.arrays → (array_of c k).words ≡ words_on (all_arrays t) (path_of_array c k)
  words_same k lt =
      let a = array_there k lt in
      (s.each_array k a.0 a.1).words ∙ sym (array_found (λ (b : PlacedArray). b.array.words) 0 k a.0 a.1)

  -- where it begins in the state
  begins_same : (k : ℕ) → k < length c.arrays → (place : ℕ) (ms : List ℕ) (others : List PlacedArray)
      → map (slice_get (all_arrays t)) ms ≡ map Some others → begins_from c place ms k ≡ begins_on place others (path_of_array c k)
  begins_same k lt place [] [] e = refl
  begins_same k lt place [] (a ∷ others) e = cc
  begins_same k lt place (m ∷ ms) [] e = cc
  begins_same k lt place (m ∷ ms) (a ∷ others) e =
      let here : slice_get (all_arrays t) m ≡ Some a = cc in
      let rest : map (slice_get (all_arrays t)) ms ≡ map Some others = cc in
      let same = s.each_array m a here in
      ap₂ (λ (test : Bool) (o : Option ℕ). if test then Some place else o)
      (same_test (path_of_array c) m k (s.arrays_once m k (array_within m a here) lt) ∙ ap (λ p. same_path p (path_of_array c k)) same.path)
      (begins_same k lt (place + (array_of c m).words) ms others rest
      ∙ ap (λ n. begins_on (place + n) others (path_of_array c k)) same.words)

  words_long : length c.words ≡ length (state_words t)
  words_long = sym (length-map c.words (slice_get (all_leaves t))) ∙ ap length s.words ∙ length-map (state_words t) Some

  pub word_before_same : (state : List ℕ) (k : ℕ) → k < length c.arrays → (address : ℕ)
      → word_before c state k address ≡ tree.word_before t state (path_of_array c k) address
  word_before_same state k lt address =
      ap (λ o. word_behind state o address)
      (begins_same k lt (length c.words) c.array_order (state_arrays t) s.array_order
      ∙ ap (λ n. begins_on n (state_arrays t) (path_of_array c k)) words_long)
