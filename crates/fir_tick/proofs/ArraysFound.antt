-- The walk that finds where arrays stand: one more, and what it has found in the end.
use Rattle.std.proofs.Common.{◌≡◌, ℕ, ◌+◌, ◌<◌, List, [], ◌∷◌, length, set, replicate, Bool, true, false, nat_eq, if◌then◌else◌, refl, sym, ap, ◌∙◌, subst, arith, inl, inr, length-set}
use Rattle.std.specs.Prelude.{slice_get, Option, Some, None}
use Rattle.std.proofs.lemmas.Bool.{eqb-true, eqb-false}
use Rattle.std.proofs.lemmas.List.{length-replicate}
use Rattle.fir_base.specs.Lists.{In, Distinct}
use Rattle.fir_base.proofs.Writes.{write_same, write_other, get-replicate}
use Rattle.fir_net.specs.declared.array.Array.{Array}
use Rattle.fir_net.specs.declared.net.FlatNet.{FlatNet}
use Rattle.fir_net.specs.working.Arrays.{begin_from, words_of}
use Rattle.fir_net.specs.working.IsNet.{IsNet}
use Rattle.fir_tick.specs.declared.spans.ArraySpan.{ArraySpan}
use Rattle.fir_tick.specs.working.ArraySpans.{no_span, span_at, AreSpans}

module _ (arrays : List Array) where
  -- so many words from there on
  abbrev pub span_from : ℕ → ℕ → ArraySpan
  span_from begin k = record { begin = begin; words = words_of arrays k }

  -- what is found along these
  abbrev pub found_from : ℕ → List ℕ → List ArraySpan → List ArraySpan
  found_from begin [] spans = spans
  found_from begin (k ∷ ks) spans = found_from (begin + words_of arrays k) ks (set spans k (span_from begin k))

  -- the place that was found, or what stood there before
  abbrev found_or : ℕ → ArraySpan → Option ℕ → ArraySpan
  found_or k old None = old
  found_or k old (Some place) = span_from place k

  not_there : (begin : ℕ) (ks : List ℕ) (k : ℕ) → (In ks k → ⊥) → begin_from arrays begin ks k ≡ None
  not_there begin [] k new = refl
  not_there begin (m ∷ ks) k new = go (nat_eq m k) refl (not_there (begin + words_of arrays m) ks k (λ i. new (inr i)))
    where
      go : (b : Bool) → nat_eq m k ≡ b → begin_from arrays (begin + words_of arrays m) ks k ≡ None → (if b then Some begin else begin_from arrays (begin + words_of arrays m) ks k) ≡ None
      go true q rest = absurd (new (inl (eqb-true m k q)))
      go false q rest = rest

  found_at : (ks : List ℕ) (begin : ℕ) (spans : List ArraySpan) (k : ℕ) (old : ArraySpan) → Distinct ks → k < length spans → slice_get spans k ≡ Some old
      → slice_get (found_from begin ks spans) k ≡ Some (found_or k old (begin_from arrays begin ks k))
  found_at [] begin spans k old once within at = at
  found_at (m ∷ ks) begin spans k old once within at =
      go (nat_eq m k) refl (λ now is. found_at ks (begin + words_of arrays m) (set spans m (span_from begin m)) k now once.1 below is)
    where
      long : length (set spans m (span_from begin m)) ≡ length spans
      long = length-set spans m (span_from begin m)

      below : k < length (set spans m (span_from begin m))
      below = omega (arith, within, long)

      go : (b : Bool) → nat_eq m k ≡ b
          → ((now : ArraySpan) → slice_get (set spans m (span_from begin m)) k ≡ Some now → slice_get (found_from (begin + words_of arrays m) ks (set spans m (span_from begin m))) k ≡ Some (found_or k now (begin_from arrays (begin + words_of arrays m) ks k)))
          → slice_get (found_from (begin + words_of arrays m) ks (set spans m (span_from begin m))) k ≡ Some (found_or k old (if b then Some begin else begin_from arrays (begin + words_of arrays m) ks k))
      go true q rest =
          let same : m ≡ k = eqb-true m k q in
          let here : slice_get (set spans m (span_from begin m)) k ≡ Some (span_from begin k) = subst (λ (j : ℕ). slice_get (set spans j (span_from begin j)) k ≡ Some (span_from begin k)) (sym same) (write_same spans k (span_from begin k) within) in
          rest (span_from begin k) here
          ∙ ap (λ (o : Option ℕ). Some (found_or k (span_from begin k) o)) (not_there (begin + words_of arrays m) ks k (subst (λ (j : ℕ). In ks j → ⊥) same once.0))
      go false q rest = rest old (write_other spans m (span_from begin m) k (λ e. eqb-false m k q (sym e)) ∙ at)

-- in the end each is found
pub all_found : (net : FlatNet) → IsNet net → (spans : List ArraySpan) → spans ≡ found_from net.arrays (length net.state) net.array_order (replicate (length net.arrays) no_span) → AreSpans net spans
all_found net whole spans is = record { each = each }
  where
    each : (k : ℕ) → k < length net.arrays → slice_get spans k ≡ Some (span_at (words_of net.arrays k) (begin_from net.arrays (length net.state) net.array_order k))
    each k within =
        let long = length-replicate (length net.arrays) no_span in
        ap (λ (ss : List ArraySpan). slice_get ss k) is
        ∙ found_at net.arrays net.array_order (length net.state) (replicate (length net.arrays) no_span) k no_span whole.array_state.once (omega (arith, within, long)) (get-replicate (length net.arrays) k no_span within)
        ∙ ap (λ (s : ArraySpan). Some s) (same (begin_from net.arrays (length net.state) net.array_order k))
      where
        same : (o : Option ℕ) → found_or net.arrays k no_span o ≡ span_at (words_of net.arrays k) o
        same None = refl
        same (Some place) = refl
