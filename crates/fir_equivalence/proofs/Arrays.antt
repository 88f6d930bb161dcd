-- The arrays of a net that is another one written anew: they have the same names, widths and words, and begin at the same places of the state.
use Rattle.std.proofs.Common.{◌≡◌, ℕ, zero, suc, ◌+◌, List, [], ◌∷◌, flat_map, length, nat_eq, replicate, if◌then◌else◌, refl, sym, ap, ◌∙◌, unwrap_or, option_map}
use Rattle.std.specs.Prelude.{slice_get, Option, Some, None}
use Rattle.std.proofs.lemmas.List.{length-map}
use Rattle.fir_net.specs.declared.array.Array.{Array}
use Rattle.fir_net.specs.declared.net.FlatNet.{FlatNet}
use Rattle.fir_net.specs.working.Arrays.{array_widths, begin_from, begin_of, widths_of, word_width, words_of}
use Rattle.fir_net.specs.working.Rows.{array_row, net_arrays}
use Rattle.fir_equivalence.specs.working.Rewrites.{AreSameArrays, IsSameArray, Rewrites}

pub flat_same : {A B : Type 0} → (f g : A → List B) (xs : List A) → ((x : A) → f x ≡ g x) → flat_map f xs ≡ flat_map g xs
flat_same f g [] h = refl
flat_same f g (x ∷ xs) h = rw (h x, flat_same f g xs h) refl

module _ (net other : FlatNet) (number : ℕ → ℕ) where
  -- what two lists of arrays have at a place
  pub data AreBeside : Option Array → Option Array → Type 0 where
    none : AreBeside None None
    arrays : (a b : Array) → IsSameArray net other number a b → AreBeside (Some a) (Some b)

  pub beside : (first second : List Array) → AreSameArrays net other number first second → (k : ℕ) → AreBeside (slice_get first k) (slice_get second k)
  beside [] [] h k = none
  beside [] (b ∷ second) h k = absurd h
  beside (a ∷ first) [] h k = absurd h
  beside (a ∷ first) (b ∷ second) h zero = arrays a b h.0
  beside (a ∷ first) (b ∷ second) h (suc k) = beside first second h.1 k

  words_beside : (o p : Option Array) → AreBeside o p → unwrap_or (option_map (λ (a : Array). a.words) p) 0 ≡ unwrap_or (option_map (λ (a : Array). a.words) o) 0
  words_beside _ _ none = refl
  words_beside _ _ (arrays a b s) = s.words

  widths_beside : (o p : Option Array) → AreBeside o p → unwrap_or (option_map (λ (a : Array). a.width) p) 0 ≡ unwrap_or (option_map (λ (a : Array). a.width) o) 0
  widths_beside _ _ none = refl
  widths_beside _ _ (arrays a b s) = s.width

  row_beside : (o p : Option Array) → AreBeside o p → array_row p ≡ array_row o
  row_beside _ _ none = refl
  row_beside _ _ (arrays a b s) = rw (s.path, s.width, s.words) refl

module _ (net other : FlatNet) (number : ℕ → ℕ) (R : Rewrites net other number) where
  pub array_beside : (k : ℕ) → AreBeside net other number (slice_get net.arrays k) (slice_get other.arrays k)
  array_beside k = beside net other number net.arrays other.arrays R.arrays k

  pub words_same : (k : ℕ) → words_of other.arrays k ≡ words_of net.arrays k
  words_same k = words_beside net other number (slice_get net.arrays k) (slice_get other.arrays k) (array_beside k)

  width_same : (k : ℕ) → word_width other.arrays k ≡ word_width net.arrays k
  width_same k = widths_beside net other number (slice_get net.arrays k) (slice_get other.arrays k) (array_beside k)

  begin_same_from : (place : ℕ) (order : List ℕ) (k : ℕ) → begin_from other.arrays place order k ≡ begin_from net.arrays place order k
  begin_same_from place [] k = refl
  begin_same_from place (m ∷ ms) k =
      ap (λ (w : ℕ). if nat_eq m k then Some place else begin_from other.arrays (place + w) ms k) (words_same m)
      ∙ ap (λ (o : Option ℕ). if nat_eq m k then Some place else o) (begin_same_from (place + words_of net.arrays m) ms k)

  state_long : length other.state ≡ length net.state
  state_long = sym (length-map other.state number) ∙ ap (length {A = ℕ}) R.state

  pub begin_same : (k : ℕ) → begin_of other k ≡ begin_of net k
  begin_same k =
      ap (λ (place : ℕ). begin_from other.arrays place other.array_order k) state_long
      ∙ ap (λ (order : List ℕ). begin_from other.arrays (length net.state) order k) R.array_order
      ∙ begin_same_from (length net.state) net.array_order k

  pub array_widths_same : array_widths other ≡ array_widths net
  array_widths_same =
      ap (flat_map (widths_of other)) R.array_order
      ∙ flat_same (widths_of other) (widths_of net) net.array_order
      (λ k. ap (λ (n : ℕ). replicate n (word_width other.arrays k)) (words_same k) ∙ ap (replicate (words_of net.arrays k)) (width_same k))

  pub array_rows_same : net_arrays other ≡ net_arrays net
  array_rows_same =
      ap (flat_map (λ (k : ℕ). array_row (slice_get other.arrays k))) R.array_order
      ∙ flat_same (λ (k : ℕ). array_row (slice_get other.arrays k)) (λ (k : ℕ). array_row (slice_get net.arrays k)) net.array_order
      (λ k. row_beside net other number (slice_get net.arrays k) (slice_get other.arrays k) (array_beside k))
