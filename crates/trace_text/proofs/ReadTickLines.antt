-- A line that is read as the words of a tick is one, or this is what is wrong with it.
use Rattle.std.proofs.Common.{◌≡◌, ℕ, ◌≤◌, List, ◌∷◌, length, true, false, nat_le, codes, Result, Ok, Err, refl, sym, ap, ◌∙◌, subst}
use Rattle.std.specs.Str.{bytes_eq}
use Rattle.std.proofs.lemmas.Bool.{le-leb}
use Rattle.fir_base.specs.Ticks.{Tick}
use Rattle.trace_text.specs.declared.fault.Cause.{Cause}
use Rattle.trace_text.specs.Lines.{line_limit, words_of, is_remark}
use Rattle.trace_text.specs.Shapes.{TraceShape}
use Rattle.trace_text.specs.SpelledLines.{IsTickLine}
use Rattle.trace_text.specs.LineFaults.{tick_faults, word_faults, line_faults}
use Rattle.trace_text.specs.working.Readings.{first_cause, is_skipped, begins_with_init, is_init_line, ReadsTickLine}
use Rattle.trace_text.specs.working.TickWords.{ReadsTickWords}
use Rattle.trace_text.proofs.TickLines.{tick_spelled}

module _ (shape : TraceShape) (line : List ℕ) (short : length line ≤ line_limit) (counts : is_skipped line ≡ false) (no_init : is_init_line line ≡ false) where
  -- such a line is judged as a tick
  judged : (words ws : List (List ℕ)) (w : List ℕ) → words ≡ w ∷ ws → begins_with_init words ≡ false → word_faults shape true words ≡ tick_faults shape w ws
  judged words ws w e h = let t : bytes_eq w (codes "init") ≡ false = sym (ap begins_with_init e) ∙ h in ap (word_faults shape true) e ∙ rw t refl

  faults : (ws : List (List ℕ)) (w : List ℕ) → words_of line ≡ w ∷ ws → line_faults shape true line ≡ tick_faults shape w ws
  faults ws w words =
      let within : nat_le (length line) line_limit ≡ true = le-leb (length line) line_limit short in
      let remark : is_remark line ≡ false = rw within at counts in
      rw (within, remark) (judged (words_of line) ws w words no_init)

  pub words_read : (old new : Tick) (result : Result (Unit {0}) Cause) → ReadsTickWords shape line old new result → ReadsTickLine shape line old new result
  words_read old new (Ok u) (w, ws, words, gives) = subst (IsTickLine shape line) (sym gives.1) (tick_spelled shape w ws line short words gives.0)
  words_read old new (Err cause) (w, ws, words, gives) = (ap first_cause (faults ws w words) ∙ gives.0, gives.1)
