-- The words of arrays in the state: each has the width of its array, before a tick and after it.
use Rattle.std.proofs.Common.{◌≡◌, ℕ, zero, suc, ◌+◌, ◌^◌, ◌<◌, ◌≤◌, List, [], ◌∷◌, ◌++◌, length, take, map, flat_map, replicate, Bool, true, false, nat_eq, if◌then◌else◌, refl, ap, ◌∙◌, subst, arith}
use Rattle.std.specs.Prelude.{slice_get, slice_index, Option, Some, None, unwrap_or, option_map}
use Rattle.std.proofs.lemmas.Nat.{pow_pos}
use Rattle.std.proofs.lemmas.Option.{same_Some}
use Rattle.fir_base.specs.Ticks.{FitEach}
use Rattle.fir_net.specs.declared.array.Array.{Array}
use Rattle.fir_net.specs.declared.array.ArrayRead.{ArrayRead}
use Rattle.fir_net.specs.declared.array.ArrayWrite.{ArrayWrite}
use Rattle.fir_net.specs.declared.leaf.Leaf.{Leaf}
use Rattle.fir_net.specs.declared.net.FlatNet.{FlatNet}
use Rattle.fir_net.specs.working.Arrays.{addresses, array_widths, begin_from, begin_of, widths_of, word_in, word_width, words_of}
use Rattle.fir_net.specs.working.IsNet.{IsReadOf}
use Rattle.fir_net.specs.working.Next.{array_after, arrays_next, is_written, word_after}
use Rattle.fir_net.specs.working.Settled.{is_read, registers, shape, value_at, word_read}
use Rattle.fir_net.specs.working.Values.{at_width, leaf_width}

-- the front of a state fits the front of its widths
pub front_fits : (w : ℕ → ℕ) (ks us vs : List ℕ) → FitEach (map w ks ++ us) vs → FitEach (map w ks) (take (length ks) vs)
front_fits w [] us vs f = tt
front_fits w (k ∷ ks) us [] f = absurd f
front_fits w (k ∷ ks) us (v ∷ vs) f = (f.0, front_fits w ks us vs f.1)

-- where a list of values fits, each one does; past the end there are no bits
fit_at : (ws vs : List ℕ) → FitEach ws vs → (k : ℕ) → slice_index vs k < 2 ^ slice_index ws k
fit_at [] [] f k = pow_pos 0
fit_at [] (v ∷ vs) f k = absurd f
fit_at (w ∷ ws) [] f k = absurd f
fit_at (w ∷ ws) (v ∷ vs) f zero = f.0
fit_at (w ∷ ws) (v ∷ vs) f (suc k) = fit_at ws vs f.1 k

index_behind : (w : ℕ → ℕ) (ks us : List ℕ) (i : ℕ) → slice_index (map w ks ++ us) (length ks + i) ≡ slice_index us i
index_behind w [] us i = ap (slice_index us) (omega arith)
index_behind w (k ∷ ks) us i = let e : suc (length ks) + i ≡ suc (length ks + i) = omega arith in rw e (index_behind w ks us i)

index_within : (n w : ℕ) (us : List ℕ) (i : ℕ) → i < n → slice_index (replicate n w ++ us) i ≡ w
index_within zero w us i l = absurd (omega (arith, l))
index_within (suc n) w us zero l = refl
index_within (suc n) w us (suc i) l = index_within n w us i (omega (arith, l))

index_past : (n w : ℕ) (us : List ℕ) (i : ℕ) → slice_index (replicate n w ++ us) (n + i) ≡ slice_index us i
index_past zero w us i = ap (slice_index us) (omega arith)
index_past (suc n) w us i = let e : suc n + i ≡ suc (n + i) = omega arith in rw e (index_past n w us i)

module _ (net : FlatNet) where
  -- a word of an array has its width, where the array begins at a place behind a base
  record Placed (ms : List ℕ) (k i base place : ℕ) : Type 0 where
    offset : ℕ
    is : place ≡ base + offset
    wide : slice_index (flat_map (widths_of net) ms) (offset + i) ≡ word_width net.arrays k

  placed : (k i : ℕ) → i < words_of net.arrays k → (ms : List ℕ) (base place : ℕ) → begin_from net.arrays base ms k ≡ Some place → Placed ms k i base place
  placed k i l [] base place e = absurd cc
  placed k i l (m ∷ ms) base place e = go (nat_eq m k) refl e (placed k i l ms (base + words_of net.arrays m) place)
    where
      go : (b : Bool) → nat_eq m k ≡ b → (if b then Some base else begin_from net.arrays (base + words_of net.arrays m) ms k) ≡ Some place
          → (begin_from net.arrays (base + words_of net.arrays m) ms k ≡ Some place → Placed ms k i (base + words_of net.arrays m) place)
          → Placed (m ∷ ms) k i base place
      go true q s rest =
          let same : m ≡ k = grind arith in
          let here : base ≡ place = same_Some base place s in
          let start : 0 + i ≡ i = omega arith in
          record {
            offset = 0;
            is = omega (arith, here);
            wide = rw (same, start) (index_within (words_of net.arrays k) (word_width net.arrays k) (flat_map (widths_of net) ms) i l);
          }
      go false q s rest =
          let r = rest s in
          let n = words_of net.arrays m in
          let e : (n + r.offset) + i ≡ n + (r.offset + i) = omega arith in
          record {
            offset = n + r.offset;
            is = omega (arith, r.is);
            wide = rw e (index_past n (word_width net.arrays m) (flat_map (widths_of net) ms) (r.offset + i) ∙ r.wide);
          }

  module _ (state : List ℕ) (fits : FitEach (shape net).state state) where
    -- each word fits its array
    pub word_fits : (k i : ℕ) → i < words_of net.arrays k → word_in state (begin_of net k) i < 2 ^ word_width net.arrays k
    word_fits k i l = go (begin_of net k) refl
      where
        go : (o : Option ℕ) → begin_of net k ≡ o → word_in state o i < 2 ^ word_width net.arrays k
        go None e = pow_pos (word_width net.arrays k)
        go (Some place) e =
            let p = placed k i l net.array_order (length net.state) place e in
            let at : place + i ≡ length (registers net) + (p.offset + i) = omega (arith, p.is) in
            let wide : slice_index (shape net).state (place + i) ≡ word_width net.arrays k =
            ap (slice_index (shape net).state) at ∙ index_behind (leaf_width net.leaves) (registers net) (array_widths net) (p.offset + i) ∙ p.wide in
            subst (λ (w : ℕ). slice_index state (place + i) < 2 ^ w) wide (fit_at (shape net).state state fits (place + i))

    -- what is read of it too
    pub read_fits : (env : ℕ → ℕ) (r : ArrayRead) (l : Leaf) → IsReadOf net.arrays l r → word_read net state env r < 2 ^ l.width
    read_fits env r l of = go (is_read net env r) refl
      where
        number : ℕ
        number = (value_at net env r.address).value.number

        wide : word_width net.arrays r.array ≡ l.width
        wide = ap (λ (o : Option Array). unwrap_or (option_map (λ (a : Array). a.width) o) 0) of.1 ∙ of.2

        go : (b : Bool) → is_read net env r ≡ b → (if b then word_in state (begin_of net r.array) number else 0) < 2 ^ l.width
        go false e = pow_pos l.width
        go true e =
            let within : number < words_of net.arrays r.array = grind arith in
            subst (λ (w : ℕ). word_in state (begin_of net r.array) number < 2 ^ w) wide (word_fits r.array number within)

    fit_joined : (ws us vs ts : List ℕ) → FitEach ws vs → FitEach us ts → FitEach (ws ++ us) (vs ++ ts)
    fit_joined [] us [] ts f g = g
    fit_joined [] us (v ∷ vs) ts f g = absurd f
    fit_joined (w ∷ ws) us [] ts f g = absurd f
    fit_joined (w ∷ ws) us (v ∷ vs) ts f g = (f.0, fit_joined ws us vs ts f.1 g)

    fit_flat_map : (w v : ℕ → List ℕ) (ks : List ℕ) → ((k : ℕ) → FitEach (w k) (v k)) → FitEach (flat_map w ks) (flat_map v ks)
    fit_flat_map w v [] h = tt
    fit_flat_map w v (k ∷ ks) h = fit_joined (w k) (flat_map w ks) (v k) (flat_map v ks) (h k) (fit_flat_map w v ks h)

    fit_addresses : (n from w : ℕ) (v : ℕ → ℕ) → ((i : ℕ) → from ≤ i → i < from + n → v i < 2 ^ w) → FitEach (replicate n w) (map v (addresses from n))
    unfolding addresses
    fit_addresses zero from w v h = tt
    fit_addresses (suc n) from w v h =
        (h from (omega arith) (omega arith), fit_addresses n (from + 1) w v (λ i l m. h i (omega (arith, l)) (omega (arith, m))))

    module _ (env : ℕ → ℕ) (clock : ℕ → Option ℕ) (named : List ℕ) where
      -- what is written fits, where what is given does
      written_fits : (width : ℕ) (ws : List ArrayWrite) (address word : ℕ) → ((i : ℕ) (w : ArrayWrite) → slice_get ws i ≡ Some w → at_width (value_at net env w.given) width < 2 ^ width)
          → word < 2 ^ width → word_after net env clock named width ws address word < 2 ^ width
      written_fits width [] address word given l = l
      written_fits width (w ∷ ws) address word given l = written_fits width ws address _ (λ i v at. given (suc i) v at) (go (is_written net env clock named w address))
        where
          go : (b : Bool) → (if b then at_width (value_at net env w.given) width else word) < 2 ^ width
          go true = given 0 w refl
          go false = l

      -- so the arrays after a tick have their shape
      pub arrays_fit : ((k i : ℕ) (a : Array) (w : ArrayWrite) → slice_get net.arrays k ≡ Some a → slice_get a.writes i ≡ Some w → at_width (value_at net env w.given) a.width < 2 ^ a.width)
          → FitEach (array_widths net) (arrays_next net env clock named state)
      arrays_fit given = fit_flat_map (widths_of net) (λ k. array_after net env clock named state k (slice_get net.arrays k)) net.array_order (λ k. one k (slice_get net.arrays k) refl)
        where
          one : (k : ℕ) (o : Option Array) → slice_get net.arrays k ≡ o
              → FitEach (replicate (unwrap_or (option_map (λ (a : Array). a.words) o) 0) (unwrap_or (option_map (λ (a : Array). a.width) o) 0)) (array_after net env clock named state k o)
          one k None at = tt
          one k (Some a) at =
              let words : words_of net.arrays k ≡ a.words = ap (λ (o : Option Array). unwrap_or (option_map (λ (b : Array). b.words) o) 0) at in
              let wide : word_width net.arrays k ≡ a.width = ap (λ (o : Option Array). unwrap_or (option_map (λ (b : Array). b.width) o) 0) at in
              fit_addresses a.words 0 a.width (λ i. word_after net env clock named a.width a.writes i (word_in state (begin_of net k) i))
              (λ i l m. written_fits a.width a.writes i (word_in state (begin_of net k) i) (λ j w e. given k j a w at e)
              (subst (λ (w : ℕ). word_in state (begin_of net k) i < 2 ^ w) wide (word_fits k i (omega (arith, words, m)))))
