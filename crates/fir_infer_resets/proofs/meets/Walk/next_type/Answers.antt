use Rattle.fir_types.specs.working.Notes.{of_expression}
use Rattle.fir_infer_resets.proofs.NotesPassed.{a_note, no_type, type_in}
use Rattle.fir_infer_resets.proofs.meets.Walk.next_type.Goals as goal

pub returns-in_err-found : goal.returns-in_err-found
returns-in_err-found c = λ ts t rest ahead. absurd (a_note _ (c.in_err-found.ensures ts (of_expression t) rest ahead).is)

pub returns-in-Expression : goal.returns-in-Expression
returns-in-Expression c = λ ts t rest ahead.
    let note = c.in_ok-found.ensures ts (of_expression t) rest ahead in
    record { is = type_in ts c.in_ok-found.field-0.now t c.in-Expression.found c.in-Expression.is note.is; passes = note.passes }

pub returns-in-Reference : goal.returns-in-Reference
returns-in-Reference c = λ ts t rest ahead.
    absurd (no_type ts c.in_ok-found.field-0.now t c.in-Reference.field-0 c.in-Reference.is (c.in_ok-found.ensures ts (of_expression t) rest ahead).is)
