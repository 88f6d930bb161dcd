use Rattle.std.proofs.Common.{ap, ◌∙◌}
use Rattle.fir_types.specs.working.Notes.{of_reference}
use Rattle.std.specs.Prelude.{option_map}
use Rattle.fir_types.specs.working.Noted.{range_seen}
use Rattle.fir_infer_resets.proofs.NotesPassed.{a_note, no_range, range_in}
use Rattle.fir_infer_resets.proofs.meets.Walk.next_range.Goals as goal

pub returns-in_err-range : goal.returns-in_err-range
returns-in_err-range c = λ ts range rest ahead. absurd (a_note _ (c.in_err-range.ensures ts (of_reference range) rest ahead).is)

pub returns-in-Reference : goal.returns-in-Reference
returns-in-Reference c = λ ts range rest ahead.
    let note = c.in_ok-range.ensures ts (of_reference range) rest ahead in
    record {
      is = ap (λ r. of_reference (option_map (range_seen ts) r)) c.as_ref.ensures.value ∙ range_in ts c.in_ok-range.field-0.now range c.in-Reference.range c.in-Reference.is note.is;
      passes = note.passes;
    }

pub returns-in-Expression : goal.returns-in-Expression
returns-in-Expression c = λ ts range rest ahead.
    absurd (no_range ts c.in_ok-range.field-0.now range c.in-Expression.field-0 c.in-Expression.is (c.in_ok-range.ensures ts (of_reference range) rest ahead).is)
