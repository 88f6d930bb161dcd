-- What is told of the words of a tick's line.
use Rattle.std.proofs.Common.{◌≡◌, ℕ, ◌+◌, List, [], ◌∷◌, length, drop, true, nat_eq, Some, None, refl, sym, ap, ◌∙◌, arith}
use Rattle.std.specs.Option.{option_or}
use Rattle.std.proofs.lemmas.Bool.{eq-eqb}
use Rattle.trace_text.specs.declared.fault.Cause.TheVariants.{Misspelled}
use Rattle.trace_text.specs.declared.clock_list.ReadClocks.{ReadClocks}
use Rattle.trace_text.specs.declared.tick_words.ReadValues.{ReadValues}
use Rattle.trace_text.specs.Spelling.{is_clock_list}
use Rattle.trace_text.specs.Shapes.{TraceShape}
use Rattle.trace_text.specs.LineFaults.{unless, tick_count, misspelled_values, absent_in_list, wide_values, tick_faults}
use Rattle.trace_text.specs.working.Readings.{first_cause}
use Rattle.trace_text.specs.working.TickWords.{ValuesFit, WordsAreRead}
use Rattle.trace_text.proofs.Told.{first_of_five, or_none, alike_behind_two}

-- none of no words is too wide
no_more : (k : ℕ) (widths : List ℕ) → wide_values k widths [] ≡ []
no_more k [] = refl
no_more k (width ∷ widths) = refl

module _ (shape : TraceShape) (w : List ℕ) (ws : List (List ℕ)) (clocks : ReadClocks) (room : List ℕ) (values : ReadValues) (held widths : List ℕ) (widths_are : shape.inputs ≡ widths)
    (read : WordsAreRead shape w ws (Some clocks) room values held) (same : values.count ≡ length widths) where
  as_many : length ws ≡ length shape.inputs
  as_many = let n = read.values_read.count in omega (arith, ap length widths_are)

  fit : ValuesFit shape.inputs ws [] values held
  fit = read.values_read.fit as_many

  counted : first_cause (tick_count (1 + length shape.inputs) (1 + length ws)) ≡ None
  counted = let t : nat_eq (1 + length ws) (1 + length shape.inputs) ≡ true = eq-eqb _ _ (omega (arith, as_many)) in rw t refl

  listed : first_cause (unless (is_clock_list w) (Misspelled 1)) ≡ None
  listed = let t = read.clocks_read.spelled in rw t refl

  misspelled : values.misspelled ≡ first_cause (misspelled_values 2 ws)
  misspelled = sym (or_none values.misspelled) ∙ fit.misspelled

  absent : clocks.absent ≡ first_cause (absent_in_list shape.clocks w)
  absent = read.clocks_read.absent ∙ ap (λ n. first_cause (absent_in_list n w)) read.room_is

  wide : values.misspelled ≡ None → values.wide ≡ first_cause (wide_values 2 shape.inputs ws)
  wide none =
      sym (or_none values.wide) ∙ sym (ap (λ later. option_or values.wide (first_cause later)) (no_more (values.count + 2) (drop values.count shape.inputs))) ∙ fit.wide none

  pub told_in_order : first_cause (tick_faults shape w ws) ≡ option_or (option_or values.misspelled clocks.absent) values.wide
  told_in_order =
      first_of_five (tick_count (1 + length shape.inputs) (1 + length ws)) (unless (is_clock_list w) (Misspelled 1)) (misspelled_values 2 ws)
      (absent_in_list shape.clocks w) (wide_values 2 shape.inputs ws)
      ∙ rw (counted, listed, ← misspelled, ← absent) (sym (alike_behind_two values.misspelled clocks.absent values.wide (first_cause (wide_values 2 shape.inputs ws)) wide))
