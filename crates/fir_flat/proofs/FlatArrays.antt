-- The arrays of a circuit in its flat net: each has its words, of their width, and its words stand at the same places of the state.
use Rattle.std.proofs.Common.{◌≡◌, ℕ, ◌+◌, ◌<◌, ◌≤◌, zero, suc, List, [], ◌∷◌, ◌++◌, length, replicate, flat_map, nat_eq, if◌then◌else◌, slice_get, refl, sym, ap, ◌∙◌, ⊎_elim, arith}
use Rattle.std.specs.Prelude.{Option, Some, None, unwrap_or, option_map}
use Rattle.std.proofs.lemmas.Bool.{cases_lt}
use Rattle.std.proofs.lemmas.List.{get_or_past}
use Rattle.std.proofs.lemmas.Option.{slice_get-get_or, slice_get_past}
use Rattle.fir_base.proofs.Elements.{there}
use Rattle.fir_meaning.specs.LeafTypes.{LeafType, a_clock, number, number_type}
use Rattle.fir_meaning.specs.MemoryWords.{word_behind}
use Rattle.fir_meaning.specs.MemoryWords.{addresses as memory_addresses}
use Rattle.fir_meaning.specs.working.LeafCircuits.{LeafCircuit}
use Rattle.fir_meaning.specs.working.LeafModules.{LeafArray}
use Rattle.fir_meaning.specs.working.LeafStates.{array_of, array_width, no_array, widths_in}
use Rattle.fir_meaning.specs.working.Memories.{begins_at, begins_from, word_before}
use Rattle.fir_net.specs.declared.array.Array.{Array}
use Rattle.fir_net.specs.declared.net.FlatNet.{FlatNet}
use Rattle.fir_net.specs.working.Arrays.{addresses, array_widths, begin_from, begin_of, widths_of, word_in, word_width, words_of}
use Rattle.fir_flat.specs.working.FlatCircuits.{HasWordsOf, IsArrayOf, IsFlatOf}

pub addresses_same : (from n : ℕ) → addresses from n ≡ memory_addresses from n
unfolding addresses memory_addresses
addresses_same from zero = refl
addresses_same from (suc n) = ap (λ (xs : List ℕ). from ∷ xs) (addresses_same (from + 1) n)

pub no_addresses : memory_addresses 0 0 ≡ []
unfolding memory_addresses
no_addresses = refl

-- functions that agree give one list
pub flat_map_same : (f g : ℕ → List ℕ) → ((k : ℕ) → f k ≡ g k) → (ks : List ℕ) → flat_map f ks ≡ flat_map g ks
flat_map_same f g same [] = refl
flat_map_same f g same (k ∷ ks) = ap (λ (xs : List ℕ). xs ++ flat_map f ks) (same k) ∙ ap (λ (xs : List ℕ). g k ++ xs) (flat_map_same f g same ks)

word_at : (state : List ℕ) (begin : Option ℕ) (address : ℕ) → word_in state begin address ≡ word_behind state begin address
word_at state None address = refl
word_at state (Some place) address = refl

wide_as : (a : Array) (h : LeafType) → HasWordsOf a h → a.width ≡ (number_type h).width
wide_as a (number t) has = has.1
wide_as a a_clock has = absurd has

abbrev count_in : Option Array → ℕ
count_in o = unwrap_or (option_map (λ (a : Array). a.words) o) 0

abbrev width_in : Option Array → ℕ
width_in o = unwrap_or (option_map (λ (a : Array). a.width) o) 0

module _ (c : LeafCircuit) (net : FlatNet) (flat : IsFlatOf c net) where
  -- an array of both
  pub record ArrayAt (k : ℕ) : Type 0 where
    pub array : Array
    pub at : slice_get net.arrays k ≡ Some array
    pub own_at : slice_get c.arrays k ≡ Some (array_of c k)
    pub is : IsArrayOf net.nodes array (array_of c k)

  pub array_there : (k : ℕ) → k < length c.arrays → ArrayAt k
  array_there k inside =
      let count = flat.array_count in
      let own = there net.arrays k (omega (arith, inside, count)) in
      let own_at = slice_get-get_or c.arrays k no_array inside in
      record { array = own.0; at = own.1; own_at = own_at; is = flat.arrays k own.0 (array_of c k) own.1 own_at }

  -- past the end
  pub no_more_arrays : (k : ℕ) → length c.arrays ≤ k → slice_get net.arrays k ≡ None
  no_more_arrays k past = let count = flat.array_count in slice_get_past net.arrays k (omega (arith, past, count))

  pub no_more_words : (k : ℕ) → length c.arrays ≤ k → array_of c k ≡ no_array
  no_more_words k past = get_or_past c.arrays k no_array past

  pub array_words : (k : ℕ) → words_of net.arrays k ≡ (array_of c k).words
  array_words k =
      ⊎_elim
      (λ (inside : k < length c.arrays). let both = array_there k inside in ap count_in both.at ∙ both.is.words)
      (λ (past : length c.arrays ≤ k). ap count_in (no_more_arrays k past) ∙ sym (ap (λ (a : LeafArray). a.words) (no_more_words k past)))
      (cases_lt k (length c.arrays))

  array_wide : (k : ℕ) → word_width net.arrays k ≡ array_width c k
  array_wide k =
      ⊎_elim
      (λ (inside : k < length c.arrays). let both = array_there k inside in ap width_in both.at ∙ wide_as both.array (array_of c k).holds both.is.holds)
      (λ (past : length c.arrays ≤ k).
      ap width_in (no_more_arrays k past) ∙ sym (ap (λ (a : LeafArray). (number_type a.holds).width) (no_more_words k past)))
      (cases_lt k (length c.arrays))

  widths_are : (k : ℕ) → widths_of net k ≡ widths_in c k
  widths_are k =
      ap (λ (n : ℕ). replicate n (word_width net.arrays k)) (array_words k) ∙ ap (λ (w : ℕ). replicate (array_of c k).words w) (array_wide k)

  -- so the arrays have the widths that they have in the circuit
  pub array_widths_are : array_widths net ≡ flat_map (widths_in c) c.array_order
  array_widths_are =
      flat_map_same (widths_of net) (widths_in c) widths_are net.array_order ∙ ap (λ (ks : List ℕ). flat_map (widths_in c) ks) flat.array_order

  begins_same : (ms : List ℕ) (place k : ℕ) → begin_from net.arrays place ms k ≡ begins_from c place ms k
  begins_same [] place k = refl
  begins_same (m ∷ ms) place k =
      ap (λ (o : Option ℕ). if nat_eq m k then Some place else o)
      (ap (λ (n : ℕ). begin_from net.arrays (place + n) ms k) (array_words m) ∙ begins_same ms (place + (array_of c m).words) k)

  begins_are : (k : ℕ) → begin_of net k ≡ begins_at c k
  begins_are k =
      ap (λ (ks : List ℕ). begin_from net.arrays (length ks) net.array_order k) flat.words
      ∙ ap (λ (ks : List ℕ). begin_from net.arrays (length c.words) ks k) flat.array_order ∙ begins_same c.array_order (length c.words) k

  -- the word at an address
  pub word_is : (state : List ℕ) (k address : ℕ) → word_in state (begin_of net k) address ≡ word_before c state k address
  word_is state k address = ap (λ (o : Option ℕ). word_in state o address) (begins_are k) ∙ word_at state (begins_at c k) address
