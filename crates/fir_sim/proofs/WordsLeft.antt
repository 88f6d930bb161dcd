-- The words of arrays behind those of registers and pipes: before the writes of a tick those of the old state, and after them what the writes leave.
use Rattle.std.proofs.Common.{◌≡◌, ℕ, zero, suc, ◌+◌, ◌-◌, ◌<◌, ◌≤◌, List, [], ◌∷◌, ◌++◌, length, map, flat_map, drop, Bool, true, false, nat_eq, if◌then◌else◌, slice_index, Option, Some, None, refl, sym, ap, ◌∙◌, arith, unwrap_or, option_map, inl, inr}
use Rattle.std.specs.Prelude.{slice_get}
use Rattle.std.proofs.lemmas.Bool.{eqb-true, eq-eqb}
use Rattle.std.proofs.lemmas.List.{get_or_append_left, get_or-append-add, get_or-drop}
use Rattle.std.proofs.lemmas.Option.{same_Some}
use Rattle.fir_base.specs.Lists.{In}
use Rattle.fir_base.proofs.Elements.{get_in}
use Rattle.fir_net.specs.declared.array.Array.{Array}
use Rattle.fir_net.specs.declared.array.ArrayRead.{ArrayRead}
use Rattle.fir_net.specs.declared.net.FlatNet.{FlatNet}
use Rattle.fir_net.specs.working.Arrays.{addresses, begin_from, begin_of, word_in, words_of}
use Rattle.fir_net.specs.working.IsNet.{IsNet}
use Rattle.fir_net.specs.working.Next.{array_after, arrays_next, read_left, word_after, word_left}
use Rattle.fir_net.specs.working.Settled.{is_read, value_at, word_read}
use Rattle.fir_sim.proofs.OneArray.{addresses_long}

-- the word at an address among those of all
address_at : (g : ℕ → ℕ) (n from i : ℕ) → i < n → slice_index (map g (addresses from n)) i ≡ g (from + i)
unfolding addresses
address_at g zero from i l = absurd (omega (arith, l))
address_at g (suc n) from zero l = let here : from ≡ from + 0 = omega arith in ap g here
address_at g (suc n) from (suc i) l = let on : from + 1 + i ≡ from + suc i = omega arith in address_at g n (from + 1) i (omega (arith, l)) ∙ ap g on

module _ (net : FlatNet) where
  -- where an array begins that stands in an order
  starts_in : (ks : List ℕ) (base k : ℕ) → In ks k → begin_from net.arrays base ks k ≡ None → ⊥
  starts_in [] base k m e = absurd m
  starts_in (j ∷ ks) base k m e = go (nat_eq j k) refl m e (starts_in ks (base + words_of net.arrays j) k)
    where
      go : (b : Bool) → nat_eq j k ≡ b → In (j ∷ ks) k → (if b then Some base else begin_from net.arrays (base + words_of net.arrays j) ks k) ≡ None
          → (In ks k → begin_from net.arrays (base + words_of net.arrays j) ks k ≡ None → ⊥) → ⊥
      go true q i s rest = absurd (cc)
      go false q (inl same) s rest = let yes : nat_eq j k ≡ true = eq-eqb j k same in absurd (cc)
      go false q (inr i) s rest = rest i s

  -- it begins behind the words of registers and pipes
  starts_behind : (ks : List ℕ) (base place k : ℕ) → begin_from net.arrays base ks k ≡ Some place → base ≤ place
  starts_behind [] base place k e = absurd (cc)
  starts_behind (j ∷ ks) base place k e = go (nat_eq j k) e (starts_behind ks (base + words_of net.arrays j) place k)
    where
      go : (b : Bool) → (if b then Some base else begin_from net.arrays (base + words_of net.arrays j) ks k) ≡ Some place
          → (begin_from net.arrays (base + words_of net.arrays j) ks k ≡ Some place → base + words_of net.arrays j ≤ place) → base ≤ place
      go true s rest = let here = same_Some base place s in omega (arith, here)
      go false s rest = let on = rest s in omega (arith, on)

  -- lists of the arrays' words one behind the other: the words of one of them
  record Found (f : ℕ → List ℕ) (ks : List ℕ) (k i base place : ℕ) : Type 0 where
    offset : ℕ
    is : place ≡ base + offset
    at : slice_index (flat_map f ks) (offset + i) ≡ slice_index (f k) i

  found : (f : ℕ → List ℕ) → ((m : ℕ) → length (f m) ≡ words_of net.arrays m) → (k i : ℕ) → i < words_of net.arrays k → (ks : List ℕ) (base place : ℕ) → begin_from net.arrays base ks k ≡ Some place → Found f ks k i base place
  found f long k i l [] base place e = absurd (cc)
  found f long k i l (m ∷ ks) base place e = go (nat_eq m k) refl e (found f long k i l ks (base + words_of net.arrays m) place)
    where
      go : (b : Bool) → nat_eq m k ≡ b → (if b then Some base else begin_from net.arrays (base + words_of net.arrays m) ks k) ≡ Some place
          → (begin_from net.arrays (base + words_of net.arrays m) ks k ≡ Some place → Found f ks k i (base + words_of net.arrays m) place) → Found f (m ∷ ks) k i base place
      go true q s rest =
          let same : m ≡ k = eqb-true m k q in
          let here : base ≡ place = same_Some base place s in
          let start : 0 + i ≡ i = omega arith in
          let own = long k in
          record {
            offset = 0;
            is = omega (arith, here);
            at =
                ap (slice_index (f m ++ flat_map f ks)) start ∙ ap (λ (j : ℕ). slice_index (f j ++ flat_map f ks) i) same
                ∙ get_or_append_left (f k) (flat_map f ks) 0 i (omega (arith, own, l));
          }
      go false q s rest =
          let r = rest s in
          let own = long m in
          let on : (words_of net.arrays m + r.offset) + i ≡ length (f m) + (r.offset + i) = omega (arith, own) in
          record {
            offset = words_of net.arrays m + r.offset;
            is = omega (arith, r.is);
            at = ap (slice_index (f m ++ flat_map f ks)) on ∙ get_or-append-add (f m) (flat_map f ks) (r.offset + i) 0 ∙ r.at;
          }

  module _ (front : List ℕ) (front_long : length front ≡ length net.state) where
    -- before the writes a word of an array is that of the old state
    word_kept : (state : List ℕ) (k i : ℕ) → word_in (front ++ drop (length net.state) state) (begin_of net k) i ≡ word_in state (begin_of net k) i
    word_kept state k i = go (begin_of net k) refl
      where
        go : (o : Option ℕ) → begin_of net k ≡ o → word_in (front ++ drop (length net.state) state) o i ≡ word_in state o i
        go None e = refl
        go (Some place) e =
            let behind : length net.state ≤ place = starts_behind net.array_order (length net.state) place k e in
            let offset = place - length net.state in
            let here : place + i ≡ length front + (offset + i) = omega (arith, behind, front_long) in
            let old : length net.state + (offset + i) ≡ place + i = omega (arith, behind) in
            ap (slice_index (front ++ drop (length net.state) state)) here ∙ get_or-append-add front (drop (length net.state) state) (offset + i) 0
            ∙ get_or-drop (length net.state) state (offset + i) 0 ∙ ap (slice_index state) old

    pub read_kept : (state : List ℕ) (env : ℕ → ℕ) (r : ArrayRead) → word_read net (front ++ drop (length net.state) state) env r ≡ word_read net state env r
    read_kept state env r = ap (λ (x : ℕ). if is_read net env r then x else 0) (word_kept state r.array (value_at net env r.address).value.number)

    module _ (env : ℕ → ℕ) (clock : ℕ → Option ℕ) (named state : List ℕ) where
      abbrev after : ℕ → List ℕ
      after k = array_after net env clock named state k (slice_get net.arrays k)

      after_long : (k : ℕ) (o : Option Array) → slice_get net.arrays k ≡ o → length (array_after net env clock named state k o) ≡ words_of net.arrays k
      after_long k None at = sym (ap (λ (o : Option Array). unwrap_or (option_map (λ (a : Array). a.words) o) 0) at)
      after_long k (Some a) at =
          addresses_long (λ i. word_after net env clock named a.width a.writes i (word_in state (begin_of net k) i)) a.words 0
          ∙ sym (ap (λ (o : Option Array). unwrap_or (option_map (λ (b : Array). b.words) o) 0) at)

      word_here : (k i : ℕ) (o : Option Array) → slice_get net.arrays k ≡ o → i < words_of net.arrays k → slice_index (array_after net env clock named state k o) i ≡ word_left net env clock named state k i o
      word_here k i None at l =
          let none : words_of net.arrays k ≡ 0 = ap (λ (o : Option Array). unwrap_or (option_map (λ (a : Array). a.words) o) 0) at in
          absurd (omega (arith, l, none))
      word_here k i (Some a) at l =
          let words : words_of net.arrays k ≡ a.words = ap (λ (o : Option Array). unwrap_or (option_map (λ (b : Array). b.words) o) 0) at in
          let plain : 0 + i ≡ i = omega arith in
          address_at (λ j. word_after net env clock named a.width a.writes j (word_in state (begin_of net k) j)) a.words 0 i (omega (arith, words, l))
          ∙ ap (λ (j : ℕ). word_after net env clock named a.width a.writes j (word_in state (begin_of net k) j)) plain

      -- after them, of an array that has bits, it is what they leave
      word_taken : (k i : ℕ) → In net.array_order k → i < words_of net.arrays k → word_in (front ++ arrays_next net env clock named state) (begin_of net k) i ≡ word_left net env clock named state k i (slice_get net.arrays k)
      word_taken k i there l = go (begin_of net k) refl
        where
          go : (o : Option ℕ) → begin_of net k ≡ o → word_in (front ++ arrays_next net env clock named state) o i ≡ word_left net env clock named state k i (slice_get net.arrays k)
          go None e = absurd (starts_in net.array_order (length net.state) k there e)
          go (Some place) e =
              let r = found after (λ m. after_long m (slice_get net.arrays m) refl) k i l net.array_order (length net.state) place e in
              let here : place + i ≡ length front + (r.offset + i) = omega (arith, r.is, front_long) in
              ap (slice_index (front ++ arrays_next net env clock named state)) here ∙ get_or-append-add front (arrays_next net env clock named state) (r.offset + i) 0
              ∙ r.at ∙ word_here k i (slice_get net.arrays k) refl l

      pub read_taken : (r : ArrayRead) → In net.array_order r.array → word_read net (front ++ arrays_next net env clock named state) env r ≡ read_left net env clock named state r
      read_taken r there = go (is_read net env r) refl
        where
          number : ℕ
          number = (value_at net env r.address).value.number

          go : (b : Bool) → is_read net env r ≡ b
              → (if b then word_in (front ++ arrays_next net env clock named state) (begin_of net r.array) number else 0) ≡ (if b then word_left net env clock named state r.array number (slice_get net.arrays r.array) else 0)
          go false e = refl
          go true e = let within : number < words_of net.arrays r.array = grind arith in word_taken r.array number there within

  -- an array of bits stands in the order
  pub stands_in_order : IsNet net → (k : ℕ) (a : Array) → slice_get net.arrays k ≡ Some a → 1 ≤ a.width → In net.array_order k
  stands_in_order whole k a at wide = let place = whole.array_state.all k a at wide in get_in net.array_order place.0 k place.1
