-- Where the words of an array stand: the widths of the state fall into those before them, theirs, and those behind them.
use Rattle.std.proofs.Common.{◌≡◌, ℕ, suc, ◌+◌, ◌<◌, ◌≤◌, List, [], ◌∷◌, ◌++◌, length, map, flat_map, Bool, true, false, nat_eq, if◌then◌else◌, refl, sym, ap, ◌∙◌, arith, append_assoc, length-append}
use Rattle.std.specs.Prelude.{slice_get, Option, Some, None}
use Rattle.std.proofs.lemmas.List.{length-map, length-replicate}
use Rattle.std.proofs.lemmas.Option.{same_Some}
use Rattle.fir_base.specs.Ticks.{FitEach}
use Rattle.fir_base.proofs.Elements.{get_left}
use Rattle.fir_base.proofs.Writes.{get-replicate}
use Rattle.fir_net.specs.declared.net.FlatNet.{FlatNet}
use Rattle.fir_net.specs.working.Arrays.{begin_from, begin_of, widths_of, word_width, words_of}
use Rattle.fir_net.specs.working.Settled.{registers, shape}
use Rattle.fir_net.specs.working.Values.{leaf_width}
use Rattle.fir_tick.specs.working.ArraySpans.{span_at, span_of}
use Rattle.fir_tick.proofs.Fits.{fit_long}

get_right : {A : Type 0} → (xs ys : List A) (i : ℕ) → slice_get (xs ++ ys) (length xs + i) ≡ slice_get ys i
get_right [] ys i = let e : 0 + i ≡ i = omega arith in ap (slice_get ys) e
get_right (x ∷ xs) ys i = let e : suc (length xs) + i ≡ suc (length xs + i) = omega arith in rw e (get_right xs ys i)

module _ (net : FlatNet) where
  -- the array of that number begins at a place, of these of which the first begins at a base
  record Stands (ms : List ℕ) (k base place : ℕ) : Type 0 where
    before : List ℕ
    after : List ℕ
    is : place ≡ base + length before
    parts : flat_map (widths_of net) ms ≡ before ++ (widths_of net k ++ after)

  stands : (k : ℕ) (ms : List ℕ) (base place : ℕ) → begin_from net.arrays base ms k ≡ Some place → Stands ms k base place
  stands k [] base place e = absurd (cc)
  stands k (m ∷ ms) base place e = go (nat_eq m k) refl e (stands k ms (base + words_of net.arrays m) place)
    where
      n : ℕ
      n = words_of net.arrays m

      go : (b : Bool) → nat_eq m k ≡ b → (if b then Some base else begin_from net.arrays (base + words_of net.arrays m) ms k) ≡ Some place
          → (begin_from net.arrays (base + words_of net.arrays m) ms k ≡ Some place → Stands ms k (base + words_of net.arrays m) place) → Stands (m ∷ ms) k base place
      go true q s rest =
          let same : m ≡ k = grind arith in
          let here : base ≡ place = same_Some base place s in
          record { before = []; after = flat_map (widths_of net) ms; is = omega (arith, here); parts = ap (λ (j : ℕ). widths_of net j ++ flat_map (widths_of net) ms) same }
      go false q s rest =
          let r = rest s in
          let long : length (widths_of net m ++ r.before) ≡ words_of net.arrays m + length r.before = length-append (widths_of net m) r.before ∙ ap (λ (l : ℕ). l + length r.before) (length-replicate (words_of net.arrays m) (word_width net.arrays m)) in
          record {
            before = widths_of net m ++ r.before;
            after = r.after;
            is = omega (arith, r.is, long);
            parts = ap (λ (ws : List ℕ). widths_of net m ++ ws) r.parts ∙ sym (append_assoc (widths_of net m) r.before (widths_of net k ++ r.after));
          }

  module _ (k place : ℕ) (begins : begin_of net k ≡ Some place) where
    here : Stands net.array_order k (length net.state) place
    here = stands k net.array_order (length net.state) place begins

    abbrev front : List ℕ
    front = map (leaf_width net.leaves) (registers net) ++ here.before

    front_long : length front ≡ place
    front_long = let long = length-append (map (leaf_width net.leaves) (registers net)) here.before in let words = length-map (registers net) (leaf_width net.leaves) in omega (arith, here.is, long, words)

    all_parts : (shape net).state ≡ front ++ (widths_of net k ++ here.after)
    all_parts =
        ap (λ (ws : List ℕ). map (leaf_width net.leaves) (registers net) ++ ws) here.parts
        ∙ sym (append_assoc (map (leaf_width net.leaves) (registers net)) here.before (widths_of net k ++ here.after))

    -- there are so many words from there on
    words_within : place + words_of net.arrays k ≤ length (shape net).state
    words_within =
        let all = ap length all_parts in
        let first = length-append front (widths_of net k ++ here.after) in
        let own = length-append (widths_of net k) here.after in
        let long = length-replicate (words_of net.arrays k) (word_width net.arrays k) in
        omega (arith, all, first, own, long, front_long)

    -- and each is as wide as the words of the array
    pub word_wide : (i : ℕ) → i < words_of net.arrays k → slice_get (shape net).state (place + i) ≡ Some (word_width net.arrays k)
    word_wide i l =
        let long = length-replicate (words_of net.arrays k) (word_width net.arrays k) in
        let within : i < length (widths_of net k) = omega (arith, l, long) in
        ap (slice_get (shape net).state) (ap (λ (n : ℕ). n + i) (sym front_long)) ∙ ap (λ (ws : List ℕ). slice_get ws (length front + i)) all_parts
        ∙ get_right front (widths_of net k ++ here.after) i ∙ get_left (widths_of net k) here.after i within ∙ get-replicate (words_of net.arrays k) i (word_width net.arrays k) l

  -- an array stands within a state of the net's shape
  pub span_within : (k : ℕ) (state : List ℕ) → FitEach (shape net).state state → (span_of net k).begin + (span_of net k).words ≤ length state
  span_within k state fits = go (begin_of net k) refl
    where
      go : (o : Option ℕ) → begin_of net k ≡ o → (span_at (words_of net.arrays k) o).begin + (span_at (words_of net.arrays k) o).words ≤ length state
      go None e = omega arith
      go (Some place) e = let long = fit_long (shape net).state state fits in let within = words_within k place e in omega (arith, long, within)
