-- What is told of a line that begins with `init` where no tick came before it.
-- It is no remark, so after its length its words are judged.
use Rattle.std.proofs.Common.{◌≡◌, ℕ, ◌+◌, ◌<◌, ◌≤◌, List, [], ◌∷◌, ◌++◌, length, true, false, codes, Some, Result, Ok, Err, ap, ◌∙◌, arith}
use Rattle.std.proofs.lemmas.Bool.{false_from_ne_true, le-leb, lt-leb}
use Rattle.fir_base.specs.declared.refused.Refused.{Refused}
use Rattle.fir_base.specs.declared.refused.Refused.TheVariants.{Fault, Memory}
use Rattle.trace_text.specs.declared.fault.Cause.{Cause}
use Rattle.trace_text.specs.declared.fault.Cause.TheVariants.{Long}
use Rattle.trace_text.specs.declared.init_line.InitWord.{InitWord}
use Rattle.trace_text.specs.Lines.{line_limit, words_of, is_remark}
use Rattle.trace_text.specs.Shapes.{TraceShape}
use Rattle.trace_text.specs.LineFaults.{init_count, init_words, init_faults, line_faults}
use Rattle.trace_text.specs.working.Readings.{begins_with_init, is_init_line, first_cause, ReadsInitLine}
use Rattle.trace_text.specs.working.InitWords.{ReadsInitWords}
use Rattle.fir_base.proofs.SameNames.{name_is}
use Rattle.trace_text.proofs.LineKinds.{remark_word}

no_remark : (line : List ℕ) (ws : List (List ℕ)) → words_of line ≡ codes "init" ∷ ws → is_remark line ≡ false
no_remark line ws h = false_from_ne_true (is_remark line) (λ r. let e : false ≡ true = remark_word line (codes "init") ws r h in cc)

begins : (words : List (List ℕ)) → begins_with_init words ≡ true → (ws : List (List ℕ)) × (words ≡ codes "init" ∷ ws)
begins [] h = cc
begins (w ∷ ws) h = (ws, ap (λ v. v ∷ ws) (name_is w (codes "init") h))

module _ (shape : TraceShape) (line : List ℕ) where
  pub long_told : line_limit < length line → first_cause (line_faults shape false line) ≡ Some Long
  long_told h = rw (lt-leb (length line) line_limit h)

  words_judged : (ws : List (List ℕ)) → length line ≤ line_limit → words_of line ≡ codes "init" ∷ ws → line_faults shape false line ≡ init_faults shape false ws
  words_judged ws short words = rw (le-leb (length line) line_limit short, no_remark line ws words, words)

  pub count_told : (cause : Cause) → length line ≤ line_limit → is_init_line line ≡ true → init_count (length (words_of line)) ≡ cause ∷ [] → first_cause (line_faults shape false line) ≡ Some cause
  count_told cause short init count =
      let words = begins (words_of line) init in
      let ws = words.0 in
      let many : length (words_of line) ≡ 1 + length ws = omega (arith, ap length words.1) in
      let told : init_count (1 + length ws) ≡ cause ∷ [] = rw many at count in
      rw (words_judged ws short words.1) (ap (λ causes. first_cause (causes ++ init_words shape ws)) told)

  -- three words or four
  pub words_told : (ws : List (List ℕ)) (result : Result InitWord (Refused Cause)) → length line ≤ line_limit → words_of line ≡ codes "init" ∷ ws → init_count (1 + length ws) ≡ [] → ReadsInitWords shape ws result
      → ReadsInitLine shape line result
  words_told ws (Ok word) short words count read = (read.0 line short words, read.1)
  words_told ws (Err (Fault cause)) short words count read = rw (words_judged ws short words) (ap (λ causes. first_cause (causes ++ init_words shape ws)) count ∙ read)
  words_told ws (Err Memory) short words count read = tt
