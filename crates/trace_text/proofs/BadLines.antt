-- Bytes spell one trace or have one first bad line at most, and not both.
use Rattle.std.proofs.Common.{◌≡◌, ℕ, ◌+◌, ◌-◌, List, [], ◌∷◌, ◌++◌, length, false, inl, inr, ap, sym, ◌∙◌, subst}
use Rattle.fir_base.specs.Ticks.{Tick}
use Rattle.trace_text.specs.declared.fault.Cause.{Cause}
use Rattle.trace_text.specs.declared.fault.TraceFault.{TraceFault}
use Rattle.trace_text.specs.Lines.{bytes_behind}
use Rattle.trace_text.specs.Shapes.{TraceShape}
use Rattle.trace_text.specs.LineFaults.{line_faults}
use Rattle.trace_text.specs.TraceSpells.{zeros, LinesSpell}
use Rattle.trace_text.specs.BadLine.{are_some, BadLine}
use Rattle.trace_text.specs.working.Laws.{SpelledIsNotBad, SpellsOneTrace, ShowsOneBadLine}
use Rattle.trace_text.proofs.ReadLines.{AreRead, spelled_read}
use Rattle.trace_text.proofs.OneReading.{one_reading, before_all, read_faultless}
use Rattle.trace_text.proofs.LineFronts.{front_of_all, one_whole, SameEnd, compare_ends}

module _ (shape : TraceShape) where
  -- a line that is read behind spelled lines is not bad
  pub read_not_bad : (lines front : List (List ℕ)) (line : List ℕ) (back : List (List ℕ)) (init other : List ℕ) (ticks others : List Tick) (cause : Cause) (later : List Cause)
      → LinesSpell shape lines init ticks → lines ≡ (front ++ line ∷ []) ++ back → LinesSpell shape front other others → line_faults shape (are_some others) line ≡ cause ∷ later → ⊥
  read_not_bad lines front line back init other ticks others cause later s e t f =
      let r = subst (λ ls. AreRead shape false ls (zeros shape) init ticks) e (spelled_read shape lines init ticks s) in
      let q = spelled_read shape front other others t in
      let none = read_faultless shape false front line back (zeros shape) (zeros shape) init other ticks others r q in
      let g : [] ≡ cause ∷ later = sym none ∙ ap (λ a. line_faults shape a line) (before_all others) ∙ f in
      cc

  one_spelled : (lines : List (List ℕ)) (init other : List ℕ) (ticks others : List Tick) → LinesSpell shape lines init ticks → LinesSpell shape lines other others → (init ≡ other) × (ticks ≡ others)
  one_spelled lines init other ticks others s t = one_reading shape false lines (zeros shape) init other ticks others (spelled_read shape lines init ticks s) (spelled_read shape lines other others t)

pub spelled_not_bad : SpelledIsNotBad
spelled_not_bad bytes shape init other ticks others fault s b =
    let r = front_of_all bytes s.lines (b.before ++ b.bad ∷ []) s.all.lines_are s.all.whole b.lines in
    read_not_bad shape s.lines b.before b.bad r.0 init other ticks others fault.cause b.later s.spelled r.1 b.spelled b.first

pub one_trace : SpellsOneTrace
one_trace bytes shape init other ticks others s t =
    let e = one_whole bytes s.lines t.lines s.all t.all in
    let r = subst (λ ls. LinesSpell shape ls init ticks) e s.spelled in
    one_spelled shape t.lines init other ticks others r t.spelled

abbrev fault_at : ℕ → ℕ → Cause → TraceFault
fault_at line start cause = record { line = line; start = start; cause = cause }

same_fault : (k l m n : ℕ) (c d : Cause) → k ≡ l → m ≡ n → c ≡ d → fault_at k m c ≡ fault_at l n d
same_fault k l m n c d h i j = cc

-- two bad lines behind the same lines have one fault
module _ (bytes : List ℕ) (shape : TraceShape) (init other : List ℕ) (ticks others : List Tick) (fault another : TraceFault) where
  one_at_end : (b : BadLine bytes shape init ticks fault) (c : BadLine bytes shape other others another) → SameEnd b.before c.before b.bad c.bad → (init ≡ other) × (ticks ≡ others) × (fault ≡ another)
  one_at_end b c s =
      let r = subst (λ ls. LinesSpell shape ls init ticks) s.lines b.spelled in
      let e = one_spelled shape c.before init other ticks others r c.spelled in
      let faults : fault.cause ∷ b.later ≡ another.cause ∷ c.later = sym b.first ∙ ap (λ ts. line_faults shape (are_some ts) b.bad) e.1 ∙ ap (λ l. line_faults shape (are_some others) l) s.ends ∙ c.first in
      let cause : fault.cause ≡ another.cause = cc in
      let number = b.number ∙ ap (λ ls. length ls + 1) s.lines ∙ sym c.number in
      let start = b.start ∙ ap (λ ls. length bytes - length (bytes_behind bytes ls)) s.lines ∙ sym c.start in
      (e.0, e.1, same_fault fault.line another.line fault.start another.start fault.cause another.cause number start cause)

pub one_bad_line : ShowsOneBadLine
one_bad_line bytes shape init other ticks others fault another b c =
    elim (compare_ends bytes b.before c.before b.bad c.bad b.lines c.lines) [
      | inl s ↦ one_at_end bytes shape init other ticks others fault another b c s
      | inr (inl s) ↦ absurd (read_not_bad shape c.before b.before b.bad s.0 other init others ticks fault.cause b.later c.spelled s.1 b.spelled b.first)
      | inr (inr s) ↦ absurd (read_not_bad shape b.before c.before c.bad s.0 init other ticks others another.cause c.later b.spelled s.1 c.spelled c.first)
    ]
