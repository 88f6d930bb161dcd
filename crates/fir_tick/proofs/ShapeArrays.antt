-- The arrays in the shape of a net's traces: what they are made of is what the net says.
use Rattle.std.proofs.Common.{◌≡◌, ℕ, ◌≤◌, List, [], ◌∷◌, ◌++◌, map, refl, sym, ap, ap₂, ◌∙◌, inl, inr, subst, arith, unwrap_or, option_map, Option, Some}
use Rattle.std.specs.Prelude.{flat_map, sum_by, slice_get, IsTrue}
use Rattle.std.specs.List.{AllByRecursion}
use Rattle.std.proofs.lemmas.List.Sums.{sum_by-cons}
use Rattle.fir_base.specs.Lists.{In}
use Rattle.fir_base.proofs.Elements.{number_of, all_there}
use Rattle.ver_words.specs.Names.{is_word, IsName}
use Rattle.fir_net.specs.declared.array.Array.{Array}
use Rattle.fir_net.specs.declared.net.FlatNet.{FlatNet}
use Rattle.fir_net.specs.Rows.{ArrayRow}
use Rattle.fir_net.specs.working.Arrays.{widths_of, word_width, words_of}
use Rattle.fir_net.specs.working.IsNet.{IsArray, IsNet}
use Rattle.fir_net.specs.working.Rows.{array_row}
use Rattle.fir_net_names.specs.declared.name_table.NameTable.{NameTable}
use Rattle.fir_net_names.specs.working.IsTable.{IsTable}
use Rattle.fir_net_names.specs.working.LeafNamed.{somes}
use Rattle.trace_text.specs.declared.shape.StateWord.{StateWord}
use Rattle.trace_text.specs.Shapes.{state_widths, WordKind, word_kinds}
use Rattle.trace_text.specs.working.Shapes.{IsStateWord, AreArrays, array_size}
use Rattle.fir_tick.specs.working.StateWords.{array_word}
use Rattle.fir_tick.proofs.ShapeNames.{array_named, name_spelled}

-- an array has a depth
abbrev pub of_array : ArrayRow → WordKind
of_array a = (a.width, Some a.depth)

-- an array of the state
pub record ArrayAt (net : FlatNet) (k : ℕ) : Type 0 where
  pub array : Array
  pub at : slice_get net.arrays k ≡ Some array
  pub has_bits : 1 ≤ array.width

pub array_there : (net : FlatNet) → IsNet net → (k : ℕ) → In net.array_order k → ArrayAt net k
array_there net whole k m = let n = number_of net.array_order k m in let found = whole.array_state.only n.0 k n.1 in record { array = found.0; at = found.1; has_bits = found.2 }

module _ (net : FlatNet) (names : List (Option (List ℕ))) where
  abbrev arrays : List ℕ → List StateWord
  arrays = map (array_word net names)

  pub are_arrays : (ks : List ℕ) → AreArrays (arrays ks)
  are_arrays [] = tt
  are_arrays (k ∷ ks) = (refl, are_arrays ks)

  pub array_sizes : (ks : List ℕ) → sum_by array_size (arrays ks) ≡ sum_by (words_of net.arrays) ks
  array_sizes [] = refl
  array_sizes (k ∷ ks) =
      let rest = array_sizes ks in
      let own = sum_by-cons array_size (array_word net names k) (arrays ks) in
      let all = sum_by-cons (words_of net.arrays) k ks in
      omega (arith, rest, own, all)

  pub array_widths_are : (ks : List ℕ) → state_widths (arrays ks) ≡ flat_map (widths_of net) ks
  array_widths_are [] = refl
  array_widths_are (k ∷ ks) = ap (λ (ws : List ℕ). widths_of net k ++ ws) (array_widths_are ks)

  pub array_kinds : (ks : List ℕ) → ((k : ℕ) → In ks k → ArrayAt net k) → word_kinds (arrays ks) ≡ map of_array (flat_map (λ k. array_row (slice_get net.arrays k)) ks)
  array_kinds [] are = refl
  array_kinds (k ∷ ks) are =
      let a = are k (inl refl) in
      let wide : word_width net.arrays k ≡ a.array.width = ap (λ (o : Option Array). unwrap_or (option_map (λ (b : Array). b.width) o) 0) a.at in
      let words : words_of net.arrays k ≡ a.array.words = ap (λ (o : Option Array). unwrap_or (option_map (λ (b : Array). b.words) o) 0) a.at in
      let own : ◌≡◌ {A = WordKind} (word_width net.arrays k, Some (words_of net.arrays k)) (a.array.width, Some a.array.words) = rw (wide, words) refl in
      ap₂ (λ (kind : WordKind) (kinds : List WordKind). kind ∷ kinds) own (array_kinds ks (λ j m. are j (inr m)))
      ∙ sym (ap (λ (first : List ArrayRow). map of_array (first ++ flat_map (λ j. array_row (slice_get net.arrays j)) ks)) (ap array_row a.at))

-- each is one that a trace can have
pub array_is_word : (net : FlatNet) (table : NameTable) → IsNet net → IsTable net table → AllByRecursion IsName (somes table.arrays) → (k : ℕ) → In net.array_order k → IsStateWord (array_word net table.arrays k)
array_is_word net table whole is spelled k m =
    let a = array_there net whole k m in
    let has = array_named net table is k m in
    let own = all_there (IsArray net.leaves net.nodes) net.arrays whole.arrays k a.array a.at in
    let narrow = own.narrow in
    let bits = a.has_bits in
    let filled = own.has_words in
    let wide : word_width net.arrays k ≡ a.array.width = ap (λ (o : Option Array). unwrap_or (option_map (λ (b : Array). b.width) o) 0) a.at in
    let words : words_of net.arrays k ≡ a.array.words = ap (λ (o : Option Array). unwrap_or (option_map (λ (b : Array). b.words) o) 0) a.at in
    record {
      word = subst (λ (o : Option (List ℕ)). IsTrue (is_word (unwrap_or o []))) (sym has.1) (name_spelled table.arrays spelled k has.0 has.1).spelled;
      narrow = (omega arith, omega arith);
      filled = omega arith;
    }
