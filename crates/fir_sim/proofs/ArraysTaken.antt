-- The words of all arrays after the writes are those that settled values give.
use Rattle.std.proofs.Common.{◌≡◌, ℕ, ◌+◌, ◌<◌, List, [], ◌∷◌, ◌++◌, length, map, take, drop, Bool, true, false, nat_eq, if◌then◌else◌, slice_index, refl, sym, ap, ◌∙◌, subst, arith, inl, inr, unwrap_or, option_map, append_assoc, length-append}
use Rattle.std.specs.Prelude.{Option, Some, None, slice_get, flat_map}
use Rattle.std.specs.List.{AllZip}
use Rattle.std.proofs.lemmas.Bool.{eq-eqb}
use Rattle.std.proofs.lemmas.Bool.Decides.{nat_tests}
use Rattle.std.proofs.lemmas.List.{get_or-take, get_or-drop, length-take-le, length-drop, length-replicate, take-append-drop}
use Rattle.fir_base.specs.Lists.{In, Distinct}
use Rattle.fir_bits.specs.declared.values.Num.{Num}
use Rattle.fir_bits.specs.working.Laws.{HasItsType}
use Rattle.fir_net.specs.declared.array.Array.{Array}
use Rattle.fir_net.specs.declared.array.ArrayWrite.{ArrayWrite}
use Rattle.fir_net.specs.declared.net.FlatNet.{FlatNet}
use Rattle.fir_net.specs.working.Arrays.{addresses, begin_from, begin_of, widths_of, word_in, word_width, words_of}
use Rattle.fir_net.specs.working.IsNet.{IsNet}
use Rattle.fir_net.specs.working.Laws.{NodesHaveTheirTypes, NodesHaveTheirValues}
use Rattle.fir_net.specs.working.Next.{array_after, ticks, word_after}
use Rattle.fir_net.specs.working.Settled.{value_at}
use Rattle.fir_net.specs.working.Values.{at_width}
use Rattle.fir_work.specs.working.Numbers.{number_at}
use Rattle.fir_tick.specs.declared.spans.ArraySpan.{ArraySpan}
use Rattle.fir_tick.specs.declared.write_plans.WritePlan.{WritePlan}
use Rattle.fir_tick.specs.working.ArraySpans.{span_at}
use Rattle.fir_tick.specs.working.Roots.{root_at}
use Rattle.fir_tick.specs.working.Settling.{IsSettled}
use Rattle.fir_tick.specs.working.WritePlans.{write_of, writes_at, writes_of, IsWritePlan}
use Rattle.fir_sim.proofs.OneArray.{addresses_long, addresses_same, all_within, DoesWrite}
use Rattle.fir_sim.proofs.SettledValues.{same_high, same_read}
use Rattle.fir_sim.proofs.Words.{fit_is}
use Rattle.fir_sim.proofs.Written.{put_all}

-- pairs with joined lists fall apart
record Apart {A B : Type 0} (R : A → B → Type 0) (xs : List A) (ys zs : List B) : Type 0 where
  first : List A
  second : List A
  is : xs ≡ first ++ second
  with_first : AllZip R first ys
  with_second : AllZip R second zs

pairs_apart : {A B : Type 0} → (R : A → B → Type 0) (xs : List A) (ys zs : List B) → AllZip R xs (ys ++ zs) → Apart R xs ys zs
pairs_apart R xs [] zs pairs = record { first = []; second = xs; is = refl; with_first = tt; with_second = pairs }
pairs_apart R [] (y ∷ ys) zs pairs = absurd pairs
pairs_apart R (x ∷ xs) (y ∷ ys) zs pairs =
    let r = pairs_apart R xs ys zs pairs.1 in
    record { first = x ∷ r.first; second = r.second; is = ap (λ (us : List _). x ∷ us) r.is; with_first = (pairs.0, r.with_first); with_second = r.with_second }

pairs_from : {A B C : Type 0} → (R : A → B → Type 0) (S : A → C → Type 0) (f : C → B) → ((x : A) (z : C) → R x (f z) → S x z) → (xs : List A) (zs : List C) → AllZip R xs (map f zs) → AllZip S xs zs
pairs_from R S f by [] [] pairs = tt
pairs_from R S f by [] (z ∷ zs) pairs = absurd pairs
pairs_from R S f by (x ∷ xs) [] pairs = absurd pairs
pairs_from R S f by (x ∷ xs) (z ∷ zs) pairs = (by x z pairs.0, pairs_from R S f by xs zs pairs.1)

put_joined : (net : FlatNet) (ns named : List ℕ) (ps qs : List WritePlan) (words : List ℕ) → put_all net ns named (ps ++ qs) words ≡ put_all net ns named qs (put_all net ns named ps words)
put_joined net ns named [] qs words = refl
put_joined net ns named (p ∷ ps) qs words = put_joined net ns named ps qs _

module _ (has : HasItsType) (types : NodesHaveTheirTypes) (law : NodesHaveTheirValues) (net : FlatNet) (whole : IsNet net) (state start ns : List ℕ) (s : IsSettled net state start ns) (roots : List (Option ℕ)) (named : List ℕ) where
  abbrev env : ℕ → ℕ
  env = number_at ns

  abbrev clock : ℕ → Option ℕ
  clock = root_at roots

  abbrev after : ℕ → List ℕ
  after k = array_after net env clock named state k (slice_get net.arrays k)

  -- a plan does what its write says
  does : (k begin width : ℕ) → begin_of net k ≡ Some begin → word_width net.arrays k ≡ width → (p : WritePlan) (w : ArrayWrite) → IsWritePlan net roots p (write_of k w) → DoesWrite net ns env clock named begin (words_of net.arrays k) width p w
  does k begin width begins wide p w i =
      let span : p.span ≡ record { begin = begin; words = words_of net.arrays k } = i.span ∙ ap (span_at (words_of net.arrays k)) begins in
      record {
        begins = ap (λ (x : ArraySpan). x.begin) span;
        long = ap (λ (x : ArraySpan). x.words) span;
        clocked = ap (ticks named) i.clock;
        high = ap (λ (j : ℕ). nat_eq (number_at ns j) 1) i.condition ∙ same_high has types law net whole state start ns s w.condition i.can.addressed.enable;
        address = ap (number_at ns) i.address ∙ ap (λ (v : Num). v.value.number) (same_read has types law net whole state start ns s w.address i.can.addressed.address);
        given = fit_is has types law net whole state start ns s (word_width net.arrays k) w.given p.given i.can.given i.given ∙ ap (at_width (value_at net env w.given)) wide;
      }

  -- the writes of one array, whose words stand behind those
  one_array : (k : ℕ) (done own tail : List ℕ) → begin_of net k ≡ Some (length done) → length own ≡ words_of net.arrays k → ((i : ℕ) → i < words_of net.arrays k → slice_index state (length done + i) ≡ slice_index own i)
      → (o : Option Array) → slice_get net.arrays k ≡ o → (ps : List WritePlan) → AllZip (IsWritePlan net roots) ps (map (write_of k) (writes_at o))
      → put_all net ns named ps (done ++ (own ++ tail)) ≡ done ++ (array_after net env clock named state k o ++ tail)
  one_array k done [] tail begins long stands None at [] pairs = refl
  one_array k done (x ∷ own) tail begins long stands None at [] pairs =
      let none : words_of net.arrays k ≡ 0 = ap (λ (o : Option Array). unwrap_or (option_map (λ (a : Array). a.words) o) 0) at in
      absurd (omega (arith, long, none))
  one_array k done own tail begins long stands None at (p ∷ ps) pairs = absurd pairs
  one_array k done own tail begins long stands (Some a) at ps pairs =
      let words : words_of net.arrays k ≡ a.words = ap (λ (o : Option Array). unwrap_or (option_map (λ (b : Array). b.words) o) 0) at in
      let wide : word_width net.arrays k ≡ a.width = ap (λ (o : Option Array). unwrap_or (option_map (λ (b : Array). b.width) o) 0) at in
      let same = pairs_from (IsWritePlan net roots) (DoesWrite net ns env clock named (length done) (words_of net.arrays k) a.width) (write_of k) (does k (length done) a.width begins wide) ps a.writes pairs in
      all_within net ns env clock named done tail (words_of net.arrays k) a.width a.writes ps own same long
      ∙ ap (λ (xs : List ℕ). done ++ (xs ++ tail))
      (addresses_same (λ i. word_after net env clock named a.width a.writes i (slice_index own i)) (λ i. word_after net env clock named a.width a.writes i (word_in state (begin_of net k) i)) (words_of net.arrays k) 0
      (λ i low l.
      let below : i < words_of net.arrays k = omega (arith, l) in
      ap (word_after net env clock named a.width a.writes i) (sym (stands i below) ∙ ap (λ (o : Option ℕ). word_in state o i) (sym begins)))
      ∙ ap (λ (n : ℕ). map (λ i. word_after net env clock named a.width a.writes i (word_in state (begin_of net k) i)) (addresses 0 n)) words)

  after_long : (k : ℕ) (o : Option Array) → slice_get net.arrays k ≡ o → length (array_after net env clock named state k o) ≡ words_of net.arrays k
  after_long k None at = sym (ap (λ (o : Option Array). unwrap_or (option_map (λ (a : Array). a.words) o) 0) at)
  after_long k (Some a) at =
      addresses_long (λ i. word_after net env clock named a.width a.writes i (word_in state (begin_of net k) i)) a.words 0
      ∙ sym (ap (λ (o : Option Array). unwrap_or (option_map (λ (b : Array). b.words) o) 0) at)

  pub arrays_put : (ks : List ℕ) (ps : List WritePlan) (done rest : List ℕ) → AllZip (IsWritePlan net roots) ps (flat_map (writes_of net) ks) → length rest ≡ length (flat_map (widths_of net) ks) → Distinct ks
      → ((k : ℕ) → In ks k → begin_of net k ≡ begin_from net.arrays (length done) ks k) → ((i : ℕ) → slice_index state (length done + i) ≡ slice_index rest i)
      → put_all net ns named ps (done ++ rest) ≡ done ++ flat_map after ks
  arrays_put [] [] done [] pairs long once places stands = refl
  arrays_put [] [] done (x ∷ rest) pairs long once places stands = absurd (omega (arith, long))
  arrays_put [] (p ∷ ps) done rest pairs long once places stands = absurd pairs
  arrays_put (k ∷ ks) ps done rest pairs long once places stands =
      ap (λ (qs : List WritePlan). put_all net ns named qs (done ++ rest)) parts.is
      ∙ put_joined net ns named parts.first parts.second (done ++ rest)
      ∙ ap (put_all net ns named parts.second) (ap (λ (xs : List ℕ). put_all net ns named parts.first (done ++ xs)) (sym (take-append-drop n rest)) ∙ one ∙ sym (append_assoc done (after k) tail))
      ∙ arrays_put ks parts.second (done ++ after k) tail parts.with_second tail_long once.1 places_on stands_on
      ∙ append_assoc done (after k) (flat_map after ks)
    where
      n : ℕ
      n = words_of net.arrays k

      tail : List ℕ
      tail = drop n rest

      parts : Apart (IsWritePlan net roots) ps (writes_of net k) (flat_map (writes_of net) ks)
      parts = pairs_apart (IsWritePlan net roots) ps (writes_of net k) (flat_map (writes_of net) ks) pairs

      all_long : length rest ≡ n + length (flat_map (widths_of net) ks)
      all_long = long ∙ length-append (widths_of net k) (flat_map (widths_of net) ks) ∙ ap (λ (m : ℕ). m + length (flat_map (widths_of net) ks)) (length-replicate n (word_width net.arrays k))

      own_long : length (take n rest) ≡ n
      own_long = length-take-le n rest (omega (arith, all_long))

      tail_long : length (drop n rest) ≡ length (flat_map (widths_of net) ks)
      tail_long = let cut = length-drop n rest in omega (arith, all_long, cut)

      begins : begin_of net k ≡ Some (length done)
      begins = let same : nat_eq k k ≡ true = eq-eqb k k refl in places k (inl refl) ∙ ap (λ (b : Bool). if b then Some (length done) else begin_from net.arrays (length done + n) ks k) same

      one : put_all net ns named parts.first (done ++ (take n rest ++ drop n rest)) ≡ done ++ (after k ++ drop n rest)
      one =
          one_array k done (take n rest) (drop n rest) begins own_long (λ i l. stands i ∙ sym (get_or-take n rest i 0 l)) (slice_get net.arrays k) refl parts.first parts.with_first

      done_long : length (done ++ after k) ≡ length done + n
      done_long = length-append done (after k) ∙ ap (λ (m : ℕ). length done + m) (after_long k (slice_get net.arrays k) refl)

      places_on : (m : ℕ) → In ks m → begin_of net m ≡ begin_from net.arrays (length (done ++ after k)) ks m
      places_on m here =
          let apart : nat_eq k m ≡ false = by (nat_eq k m) refl in
          places m (inr here) ∙ ap (λ (b : Bool). if b then Some (length done) else begin_from net.arrays (length done + n) ks m) apart
          ∙ ap (λ (j : ℕ). begin_from net.arrays j ks m) (sym done_long)
        where
          by : (b : Bool) → nat_eq k m ≡ b → b ≡ false
          by true e = let same : k ≡ m = grind (arith, nat_tests) in absurd (once.0 (subst (In ks) (sym same) here))
          by false e = refl

      stands_on : (i : ℕ) → slice_index state (length (done ++ after k) + i) ≡ slice_index (drop n rest) i
      stands_on i =
          let e : length (done ++ after k) + i ≡ length done + (n + i) = omega (arith, done_long) in
          ap (slice_index state) e ∙ stands (n + i) ∙ sym (get_or-drop n rest i 0)
