-- One value more of a tick's line is read: it is put, or told to be too wide.
use Rattle.std.proofs.Common.{◌≡◌, ℕ, ◌+◌, ◌^◌, ◌<◌, ◌≤◌, List, [], ◌∷◌, ◌++◌, length, length-set, take, drop, set, map, get_or, Bool, true, false, nat_lt, Option, Some, refl, sym, ap, ◌∙◌, append_assoc, arith}
use Rattle.std.specs.Option.{option_or}
use Rattle.std.proofs.lemmas.Bool.{lt-ltb, le-ltb}
use Rattle.std.proofs.lemmas.List.{take_more_set, drop_more}
use Rattle.trace_text.specs.declared.fault.Cause.{Cause}
use Rattle.trace_text.specs.declared.fault.Cause.TheVariants.{Wide}
use Rattle.trace_text.specs.declared.tick_words.ReadValues.{ReadValues}
use Rattle.trace_text.specs.Spelling.{is_value, hexadecimal_of}
use Rattle.trace_text.specs.LineFaults.{unless, misspelled_values, wide_values}
use Rattle.trace_text.specs.working.Readings.{first_cause}
use Rattle.trace_text.specs.working.TickWords.{ValuesAreRead}
use Rattle.trace_text.proofs.Told.{or_assoc, or_some}

module _ (widths : List ℕ) (words left : List (List ℕ)) (w : List ℕ) (old : ReadValues) (inputs : List ℕ) (within : old.count < length widths) (spelled : is_value w ≡ true)
    (so_far : ValuesAreRead widths words (w ∷ left) old inputs) where
  abbrev k : ℕ
  k = old.count

  abbrev width : ℕ
  width = get_or widths k 0

  next : k + 2 + 1 ≡ k + 1 + 2
  next = omega arith

  counted : k + 1 + length left ≡ length words
  counted = let n = so_far.count in omega arith

  spelled_on : first_cause (misspelled_values (k + 2) (w ∷ left)) ≡ first_cause (misspelled_values (k + 1 + 2) left)
  spelled_on = rw (spelled, next) refl

  wide_on : (fits : Bool) → nat_lt (hexadecimal_of w) (2 ^ width) ≡ fits
      → first_cause (wide_values (k + 2) (drop k widths) (w ∷ left)) ≡ first_cause (unless fits (Wide (k + 2) width) ++ wide_values (k + 1 + 2) (drop (k + 1) widths) left)
  wide_on fits e =
      ap (λ ns. first_cause (wide_values (k + 2) ns (w ∷ left))) (drop_more widths k 0 within) ∙ rw (e, next) refl

  pub value_put : (value : ℕ) → value ≡ hexadecimal_of w → hexadecimal_of w < 2 ^ width
      → ValuesAreRead widths words left (record { count = k + 1; misspelled = old.misspelled; wide = old.wide }) (set inputs k value)
  value_put value is fits = record {
    count = counted;
    room = length-set inputs k value ∙ so_far.room;
    fit = λ as_many.
        let h = so_far.fit as_many in
        let room = so_far.room in
        let more : take (k + 1) (set inputs k value) ≡ take k inputs ++ value ∷ [] = take_more_set inputs k value (omega arith) in
        record {
          misspelled = ap (option_or old.misspelled) (sym spelled_on) ∙ h.misspelled;
          wide = λ none. ap (option_or old.wide) (sym (wide_on true (lt-ltb (hexadecimal_of w) (2 ^ width) fits))) ∙ h.wide none;
          put = λ none narrow.
              ap (λ front. front ++ map hexadecimal_of left) more ∙ append_assoc (take k inputs) (value ∷ []) (map hexadecimal_of left)
              ∙ ap (λ n. take k inputs ++ n ∷ map hexadecimal_of left) is ∙ h.put none narrow;
        };
  }

  pub value_wide : (told : Option Cause) → told ≡ option_or old.wide (Some (Wide (k + 2) width)) → 2 ^ width ≤ hexadecimal_of w
      → ValuesAreRead widths words left (record { count = k + 1; misspelled = old.misspelled; wide = told }) inputs
  value_wide told is great = record {
    count = counted;
    room = so_far.room;
    fit = λ as_many.
        let h = so_far.fit as_many in
        let later = first_cause (wide_values (k + 1 + 2) (drop (k + 1) widths) left) in
        record {
          misspelled = ap (option_or old.misspelled) (sym spelled_on) ∙ h.misspelled;
          wide = λ none.
              ap (λ o. option_or o later) is ∙ or_assoc old.wide (Some (Wide (k + 2) width)) later
              ∙ ap (option_or old.wide) (sym (wide_on false (le-ltb (hexadecimal_of w) (2 ^ width) great))) ∙ h.wide none;
          put = λ none narrow. absurd (or_some old.wide (Wide (k + 2) width) (sym is ∙ narrow));
        };
  }
