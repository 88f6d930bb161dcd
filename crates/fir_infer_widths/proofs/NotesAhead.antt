-- The first of the notes that are ahead is read.
use Rattle.std.proofs.Common.{◌≡◌, List, [], ◌∷◌, get_or, ap, ◌∙◌}
use Rattle.fir_ast.specs.Types.{DataType}
use Rattle.fir_types.specs.declared.note.Note.{Note as NoteOfCode}
use Rattle.fir_types.specs.working.Notes.{Note}
use Rattle.fir_types.specs.working.Noted.{note_seen, saturated_note}
use Rattle.fir_infer_widths.specs.working.Walks.{Ahead}

pub first_seen : (ts : List DataType) (notes : List NoteOfCode) (n : Note) (rest : List Note) → Ahead ts notes (n ∷ rest) → (x : NoteOfCode) → x ≡ get_or notes 0 x
    → note_seen ts x ≡ saturated_note n
first_seen ts [] n rest h x is = cc
first_seen ts (y ∷ ys) n rest h x is = ap (note_seen ts) is ∙ (cc)
