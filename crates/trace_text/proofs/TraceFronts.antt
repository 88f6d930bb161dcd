-- Lines at the front of a trace spell the first of what it says.
use Rattle.std.proofs.Common.{◌≡◌, ℕ, List, [], ◌∷◌, ◌++◌, Bool, true, false, refl, ◌⊎◌, inl, inr, ap, sym, ◌∙◌, subst, append_assoc}
use Rattle.std.specs.Prelude.{slice_set}
use Rattle.std.proofs.lemmas.List.{append-nil}
use Rattle.fir_base.specs.Ticks.{Tick}
use Rattle.trace_text.specs.declared.fault.TraceFault.{TraceFault}
use Rattle.trace_text.specs.Lines.{later_lines, AreTraceLines}
use Rattle.trace_text.specs.Shapes.{TraceShape}
use Rattle.trace_text.specs.TraceSpells.{LinesSpell, zeros}
use Rattle.trace_text.specs.BadLine.{BadLine}
use Rattle.trace_text.specs.working.Fronts.{Says, IsFirstOf, FrontSpellsFirst}
use Rattle.trace_text.proofs.ReadLines.{AreRead, spelled_read, only_ticks}
use Rattle.trace_text.proofs.OneReading.{alike}
use Rattle.trace_text.proofs.LineFronts.{front_lines, front_of_all, last_is}
use Rattle.trace_text.proofs.BadLines.{read_not_bad}

module _ (shape : TraceShape) where
  -- the first of lines that are read give the first of the ticks
  first_read : (after : Bool) (lines more : List (List ℕ)) (before init whole_init : List ℕ) (ticks whole : List Tick)
      → AreRead shape after (lines ++ more) before whole_init whole → AreRead shape after lines before init ticks → IsFirstOf init ticks whole_init whole
  first_read after [] more before init whole_init ticks whole r s =
      record { front = record { back = whole; parts = ap (λ ts. ts ++ whole) (sym s.1) }; same_init = λ filled. absurd (filled s.1) }
  first_read after (line ∷ lines) more before init whole_init ticks whole r s =
      elim (alike shape after line (lines ++ more) lines before before whole_init init whole ticks r s) [
        | inl k ↦ first_read after lines more before init whole_init ticks whole k.first k.second
        | inr (inl k) ↦ first_read false lines more (slice_set before k.place k.value) init whole_init ticks whole k.first k.second
        | inr (inr k) ↦
            let f = first_read true lines more before init whole_init k.more k.rest k.first k.second in
            let parts : whole ≡ ticks ++ f.front.back =
            k.ticks_are ∙ ap (λ ts. k.tick ∷ ts) f.front.parts ∙ ap (λ ts. ts ++ f.front.back) (sym k.others_are) in
            record {
              front = record { back = f.front.back; parts = parts };
              same_init =
                  λ filled.
                  sym (only_ticks shape lines before init k.more k.second).0 ∙ (only_ticks shape (lines ++ more) before whole_init k.rest k.first).0;
            }
      ]

  first_spelled : (lines more all : List (List ℕ)) (init whole_init : List ℕ) (ticks whole : List Tick) → all ≡ lines ++ more
      → LinesSpell shape lines init ticks → LinesSpell shape all whole_init whole → IsFirstOf init ticks whole_init whole
  first_spelled lines more all init whole_init ticks whole e s w =
      first_read false lines more (zeros shape) init whole_init ticks whole
      (subst (λ ls. AreRead shape false ls (zeros shape) whole_init whole) e (spelled_read shape all whole_init whole w))
      (spelled_read shape lines init ticks s)

-- of two lists of lines that stand there one is a front of the other
one_in_front : (bytes : List ℕ) (xs ys : List (List ℕ)) → AreTraceLines bytes xs → AreTraceLines bytes ys
    → ((more : List (List ℕ)) × (ys ≡ xs ++ more)) ⊎ ((more : List (List ℕ)) × (xs ≡ ys ++ more))
one_in_front bytes [] ys h k = inl (ys, refl)
one_in_front bytes (x ∷ xs) [] h k = inr (x ∷ xs, refl)
one_in_front bytes (x ∷ xs) (y ∷ ys) h k =
    let first : x ≡ y = h.1 ∙ sym k.1 in
    elim (one_in_front (later_lines bytes) xs ys h.2 k.2) [
      | inl m ↦ let e = m.1 in inl (m.0, (cc))
      | inr m ↦ let e = m.1 in inr (m.0, (cc))
    ]

module _ (bytes : List ℕ) (shape : TraceShape) (lines : List (List ℕ)) (init whole_init : List ℕ) (ticks whole : List Tick) (there : AreTraceLines bytes lines)
    (spelled : LinesSpell shape lines init ticks) where
  -- no more lines are spelled than stand before a bad one
  within_bad : (fault : TraceFault) (b : BadLine bytes shape whole_init whole fault) (more : List (List ℕ)) → lines ≡ b.before ++ more
      → IsFirstOf init ticks whole_init whole
  within_bad fault b [] e =
      first_spelled shape lines [] b.before init whole_init ticks whole (sym (append-nil b.before) ∙ sym e ∙ sym (append-nil lines)) spelled b.spelled
  within_bad fault b (line ∷ more) e =
      let joined : lines ≡ (b.before ++ line ∷ []) ++ more = e ∙ sym (append_assoc b.before (line ∷ []) more) in
      let stand : AreTraceLines bytes (b.before ++ line ∷ []) = front_lines bytes (b.before ++ line ∷ []) more (subst (AreTraceLines bytes) joined there) in
      let bad : line ≡ b.bad = last_is bytes b.before line stand ∙ sym (last_is bytes b.before b.bad b.lines) in
      absurd
      (read_not_bad shape lines b.before b.bad more init whole_init ticks whole fault.cause b.later spelled
      (joined ∙ ap (λ l. (b.before ++ l ∷ []) ++ more) bad) b.spelled b.first)

  by_says : Says bytes shape whole_init whole → IsFirstOf init ticks whole_init whole
  by_says (inl t) =
      let r = front_of_all bytes t.lines lines t.all.lines_are t.all.whole there in
      first_spelled shape lines r.0 t.lines init whole_init ticks whole r.1 spelled t.spelled
  by_says (inr (fault, b)) =
      elim (one_in_front bytes lines b.before there (front_lines bytes b.before (b.bad ∷ []) b.lines)) [
        | inl m ↦ first_spelled shape lines m.0 b.before init whole_init ticks whole m.1 spelled b.spelled
        | inr m ↦ within_bad fault b m.0 m.1
      ]

pub front_spells_first : FrontSpellsFirst
front_spells_first bytes shape lines init whole_init ticks whole there spelled says = by_says bytes shape lines init whole_init ticks whole there spelled says
