-- A line is spelled in its place exactly where nothing is wrong with it.
-- No line of a tick begins with `init`, so the first word tells which rules a line is judged by.
use Rattle.std.proofs.Common.{nat_eq, ◌≡◌, ℕ, ◌≤◌, List, [], ◌∷◌, length, Bool, true, false, nat_le, if◌then◌else◌, refl, arith, codes, ◌⊎◌, inl, inr, ap, sym, ◌∙◌, subst}
use Rattle.std.specs.Str.{bytes_eq}
use Rattle.std.proofs.lemmas.Bool.{leb-true, le-leb, false_from_ne_true}
use Rattle.std.proofs.lemmas.List.Splits.{length-slice_split}
use Rattle.fir_base.specs.Ticks.{AreClocks, FitEach, Tick}
use Rattle.trace_text.specs.declared.fault.Cause.{Cause}
use Rattle.trace_text.specs.declared.fault.Cause.TheVariants.{Long}
use Rattle.trace_text.specs.Lines.{line_limit, words_of, is_remark, IsSkipped}
use Rattle.trace_text.specs.Spelling.{is_clock_list}
use Rattle.trace_text.specs.Shapes.{TraceShape}
use Rattle.trace_text.specs.SpelledLines.{IsInitLine, IsTickLine}
use Rattle.trace_text.specs.LineFaults.{unless, init_faults, tick_faults, word_faults, line_faults}
use Rattle.trace_text.specs.working.Laws.{LineIsSpelledOrBad}
use Rattle.trace_text.specs.working.TickWords.{tick_of}
use Rattle.fir_base.proofs.Tests.{chosen}
use Rattle.fir_base.proofs.SameNames.{name_is}
use Rattle.trace_text.proofs.EmptyLists.{parts, joined, passes, passed}
use Rattle.trace_text.proofs.TickLines.{tick_spelled, tick_faultless}
use Rattle.trace_text.proofs.InitLines.{init_spelled, register_faultless, array_faultless}

abbrev pub Spelled : TraceShape → Bool → List ℕ → Type 0
Spelled shape after line = IsSkipped line ⊎ (((after ≡ false) × ((place : ℕ) × (value : ℕ) × IsInitLine shape line place value)) ⊎ ((tick : Tick) × IsTickLine shape line tick))

-- a line has a word at least
some_word : (line : List ℕ) → words_of line ≡ [] → ⊥
some_word line e = let n = length-slice_split (λ b. nat_eq b 32) line in let m : length (words_of line) ≡ 0 = ap length e in omega arith

-- a clock list is not `init`
no_init : (w : List ℕ) → is_clock_list w ≡ true → bytes_eq w (codes "init") ≡ false
no_init w h = false_from_ne_true (bytes_eq w (codes "init")) (λ t. let e : is_clock_list (codes "init") ≡ true = subst (λ v. is_clock_list v ≡ true) (name_is w (codes "init") t) h in let f : false ≡ true = e in cc)

module _ (shape : TraceShape) (after : Bool) (line : List ℕ) where
  words_judged : (ws : List (List ℕ)) → length line ≤ line_limit → words_of line ≡ ws → word_faults shape after ws ≡ [] → Spelled shape after line
  words_judged [] short words h = absurd (some_word line words)
  words_judged (w ∷ ws) short words h =
      elim (chosen (bytes_eq w (codes "init")) (init_faults shape after ws) (tick_faults shape w ws) [] h) [
        | inl a ↦
            let e : words_of line ≡ codes "init" ∷ ws = words ∙ ap (λ v. v ∷ ws) (name_is w (codes "init") a.0) in
            inr (inl (init_spelled shape line short after ws e a.1))
        | inr a ↦ inr (inr (tick_of w ws, tick_spelled shape w ws line short words a.1))
      ]

  abbrev long : List Cause
  long = unless (nat_le (length line) line_limit) Long

  abbrev told : List Cause
  told = if is_remark line then [] else word_faults shape after (words_of line)

  judged : line_faults shape after line ≡ [] → Spelled shape after line
  judged h =
      let p = parts long told h in
      let short = leb-true (length line) line_limit (passes (nat_le (length line) line_limit) Long p.0) in
      elim (chosen (is_remark line) [] (word_faults shape after (words_of line)) [] p.1) [
        | inl a ↦ inl (record { short = short; remark = a.0 })
        | inr a ↦ words_judged (words_of line) short refl a.1
      ]

  faultless_at : (remark : Bool) → word_faults shape after (words_of line) ≡ [] → (if remark then [] else word_faults shape after (words_of line)) ≡ []
  faultless_at true h = refl
  faultless_at false h = h

  -- a short line whose words have no fault
  words_faultless : length line ≤ line_limit → word_faults shape after (words_of line) ≡ [] → line_faults shape after line ≡ []
  words_faultless short h = joined long told (passed (nat_le (length line) line_limit) Long (le-leb (length line) line_limit short)) (faultless_at (is_remark line) h)

  skipped_faultless : IsSkipped line → line_faults shape after line ≡ []
  skipped_faultless s =
      joined long told (passed (nat_le (length line) line_limit) Long (le-leb (length line) line_limit s.short)) (rw s.remark refl)

  tick_line_faultless : (tick : Tick) → IsTickLine shape line tick → line_faults shape after line ≡ []
  tick_line_faultless tick i =
      let rise = subst (AreClocks 0 shape.clocks) (sym i.clocks_are) i.clocks_rise in
      let fit = subst (FitEach shape.inputs) (sym i.values_are) i.inputs_fit in
      words_faultless i.short (rw (i.words, no_init i.clock_list i.clocks_spelled) (tick_faultless shape i.clock_list i.values i.clocks_spelled rise i.values_spelled fit))

init_line_faultless : (shape : TraceShape) (line : List ℕ) (place value : ℕ) → IsInitLine shape line place value → line_faults shape false line ≡ []
init_line_faultless shape line place value (inl i) = words_faultless shape false line i.short (rw i.words (register_faultless shape line place value i))
init_line_faultless shape line place value (inr i) = words_faultless shape false line i.short (rw i.words (array_faultless shape line place value i))

pub spelled_faultless : (shape : TraceShape) (after : Bool) (line : List ℕ) → Spelled shape after line → line_faults shape after line ≡ []
spelled_faultless shape after line (inl s) = skipped_faultless shape after line s
spelled_faultless shape after line (inr (inl i)) = rw i.0 (init_line_faultless shape line i.1.0 i.1.1 i.1.2)
spelled_faultless shape after line (inr (inr t)) = tick_line_faultless shape after line t.0 t.1

pub line_judged : LineIsSpelledOrBad
line_judged shape after line = (judged shape after line, spelled_faultless shape after line)
