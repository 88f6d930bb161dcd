-- The array that a walk over the order of the arrays has come to.
use Rattle.std.proofs.Common.{◌≡◌, ℕ, ◌+◌, ◌<◌, ◌≤◌, List, [], ◌∷◌, ◌++◌, get_or, length, take, drop, Some, refl, sym, ap, subst, unwrap_or, option_map, inl, inr, arith}
use Rattle.std.specs.Prelude.{slice_get, Option}
use Rattle.std.specs.List.{sum_by}
use Rattle.std.proofs.lemmas.List.{drop_more}
use Rattle.std.proofs.lemmas.List.Sums.{sum_by-cons}
use Rattle.fir_base.specs.Lists.{In}
use Rattle.std.proofs.lemmas.Option.{slice_get_within}
use Rattle.fir_base.proofs.Elements.{all_there}
use Rattle.fir_net.specs.declared.array.Array.{Array}
use Rattle.fir_net.specs.declared.net.FlatNet.{FlatNet}
use Rattle.fir_net.specs.working.Arrays.{word_width, words_of}
use Rattle.fir_net.specs.working.IsNet.{IsArray, IsNet}
use Rattle.fir_tick.proofs.Lists.{item_stands, item_next}

module _ (net : FlatNet) (whole : IsNet net) (order : List ℕ) (all_order : order ≡ net.array_order) (i : ℕ) (within : i < length order) where
  abbrev number : ℕ
  number = get_or order i 0

  -- it stands in the order
  pub array_stands : slice_get net.array_order i ≡ Some number
  array_stands = item_stands order net.array_order all_order i number 0 within refl

  -- and it is the next one
  pub array_next : take (i + 1) net.array_order ≡ take i net.array_order ++ number ∷ []
  array_next = item_next order net.array_order all_order i number 0 within refl

  pub array_ahead : drop i net.array_order ≡ number ∷ drop (i + 1) net.array_order
  array_ahead = subst (λ (ks : List ℕ). drop i ks ≡ number ∷ drop (i + 1) ks) all_order (drop_more order i 0 within)

  found : (a : Array) × (slice_get net.arrays number ≡ Some a) × (1 ≤ a.width)
  found = whole.array_state.only i number array_stands

  -- there is an array of that number
  pub array_within : number < length net.arrays
  array_within = slice_get_within net.arrays number found.0 found.1

-- the array of a number
module _ (net : FlatNet) (number : ℕ) (there : number < length net.arrays) (arrays : List Array) (all_arrays : arrays ≡ net.arrays) where
  pub array_below : number < length arrays
  array_below = subst (λ (all : List Array). number < length all) (sym all_arrays) there

  pub array_at : (array : Array) → array ≡ get_or arrays number array → slice_get net.arrays number ≡ Some array
  array_at array read = item_stands arrays net.arrays all_arrays number array array array_below read

  -- its words are those that the net counts
  pub array_words : (array : Array) → array ≡ get_or arrays number array → words_of net.arrays number ≡ array.words
  array_words array read = ap (λ (o : Option Array). unwrap_or (option_map (λ (a : Array). a.words) o) 0) (array_at array read)

  pub array_width : (array : Array) → array ≡ get_or arrays number array → word_width net.arrays number ≡ array.width
  array_width array read = ap (λ (o : Option Array). unwrap_or (option_map (λ (a : Array). a.width) o) 0) (array_at array read)

  pub array_whole : IsNet net → (array : Array) → array ≡ get_or arrays number array → IsArray net.leaves net.nodes array
  array_whole whole array read = all_there (IsArray net.leaves net.nodes) net.arrays whole.arrays number array (array_at array read)

-- the words of an array are some of those of all
some_of : (f : ℕ → ℕ) (ks : List ℕ) (k : ℕ) → In ks k → f k ≤ sum_by f ks
some_of f [] k m = absurd m
some_of f (j ∷ ks) k (inl e) = let sum = sum_by-cons f j ks in let same = ap f e in omega (arith, sum, same)
some_of f (j ∷ ks) k (inr m) = let sum = sum_by-cons f j ks in let rest = some_of f ks k m in omega (arith, sum, rest)

pub few_each : (net : FlatNet) → IsNet net → (k : ℕ) → In net.array_order k → words_of net.arrays k ≤ 4194304
few_each net whole k m = let few = whole.few_words in let own = some_of (words_of net.arrays) net.array_order k m in omega (arith, few, own)
