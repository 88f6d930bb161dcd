-- Notes as they come, one list behind the other, and as the table of types grows.
use Rattle.std.proofs.Common.{◌≡◌, List, [], ◌∷◌, ◌++◌, map, Some, None, Result, Ok, Err, refl, sym, ap, ◌∙◌, append_assoc}
use Rattle.std.specs.Prelude.{OnOk}
use Rattle.std.specs.List.{AllByRecursion}
use Rattle.std.proofs.lemmas.List.{map-append}
use Rattle.std.proofs.lemmas.Option.{same_Some}
use Rattle.fir_base.proofs.Each.{all_joined}
use Rattle.fir_ast.specs.Types.{DataType}
use Rattle.fir_type_table.specs.working.Tables.{types_of}
use Rattle.fir_types.specs.declared.found.Found.{Found}
use Rattle.fir_types.specs.declared.note.LeafRange.{LeafRange as RangeOfCode}
use Rattle.fir_types.specs.declared.note.Note.{Note as NoteOfCode}
use Rattle.fir_types.specs.declared.note.Note.TheVariants as code
use Rattle.fir_types.specs.declared.scope.Scope.{Scope}
use Rattle.fir_types.specs.working.Notes.{Note, of_expression, of_reference}
use Rattle.fir_types.specs.working.Noted.{IsNoteHeld, Noted, note_seen, pick_seen, range_seen, saturated_note}
use Rattle.fir_types.specs.working.Seen.{found_type}
use Rattle.fir_types.specs.working.Walked.{GoesOnWith, IsHeld}
use Rattle.fir_types.proofs.GrownScopes.{append_none, held_grown, seen_grown}

pub noted_none : (ts : List DataType) (xs : List NoteOfCode) → Noted ts xs xs []
noted_none ts xs = record { more = []; grown = append_none xs; held = tt; are = refl }

pub noted_one : (ts : List DataType) (old new : List NoteOfCode) (x : NoteOfCode) (n : Note) → new ≡ old ++ x ∷ [] → IsNoteHeld ts x → note_seen ts x ≡ saturated_note n
    → Noted ts old new (n ∷ [])
noted_one ts old new x n pushed held is = record { more = x ∷ []; grown = pushed; held = (held, tt); are = ap (λ y. y ∷ []) is }

pub noted_then : (ts : List DataType) (a b c : List NoteOfCode) (m n : List Note) → Noted ts a b m → Noted ts b c n → Noted ts a c (m ++ n)
noted_then ts a b c m n one two = record {
  more = one.more ++ two.more;
  grown = two.grown ∙ ap (λ xs. xs ++ two.more) one.grown ∙ append_assoc a one.more two.more;
  held = all_joined (IsNoteHeld ts) one.more two.more one.held two.held;
  are =
      map-append (note_seen ts) one.more two.more ∙ ap (λ xs. xs ++ map (note_seen ts) two.more) one.are
      ∙ ap (λ xs. map saturated_note m ++ xs) two.are ∙ sym (map-append saturated_note m n);
}

-- and then those of a call that may fail
pub noted_on : {A E : Type 0} (ts : List DataType) (a b c : List NoteOfCode) (m n : List Note) (result : Result A E) → Noted ts a b m → OnOk result (Noted ts b c n)
    → OnOk result (Noted ts a c (m ++ n))
noted_on ts a b c m n (Ok x) one two = noted_then ts a b c m n one two
noted_on ts a b c m n (Err e) one two = tt

-- three and four of them
pub noted_three : (ts : List DataType) (a b c d : List NoteOfCode) (k m n : List Note) → Noted ts a b k → Noted ts b c m → Noted ts c d n → Noted ts a d (k ++ m ++ n)
noted_three ts a b c d k m n one two three = noted_then ts a c d (k ++ m) n (noted_then ts a b c k m one two) three

pub noted_four : (ts : List DataType) (a b c d e : List NoteOfCode) (k l m n : List Note) → Noted ts a b k → Noted ts b c l → Noted ts c d m → Noted ts d e n
    → Noted ts a e (k ++ l ++ m ++ n)
noted_four ts a b c d e k l m n one two three four = noted_then ts a d e (k ++ l ++ m) n (noted_three ts a b c d k l m one two three) four

-- where the table grows
found_grown : (ts more : List DataType) (x : Found) → IsHeld ts (Some x) → found_type (ts ++ more) x ≡ found_type ts x
found_grown ts more x h = same_Some (found_type (ts ++ more) x) (found_type ts x) (seen_grown ts more (Some x) h)

range_grown : (ts more : List DataType) (r : RangeOfCode) → IsHeld ts (Some r.found) → range_seen (ts ++ more) r ≡ range_seen ts r
range_grown ts more r h =
    ap
    (λ t. record { declaration = r.declaration; data_type = t; offset = r.offset; shared_offset = r.shared_offset; picks = map pick_seen r.picks.items })
    (found_grown ts more r.found h)

note_held : (ts more : List DataType) (n : NoteOfCode) → IsNoteHeld ts n → IsNoteHeld (ts ++ more) n
note_held ts more (code.Expression f) h = held_grown ts more f h
note_held ts more (code.Reference None) h = tt
note_held ts more (code.Reference (Some r)) h = held_grown ts more (Some r.found) h

note_grown : (ts more : List DataType) (n : NoteOfCode) → IsNoteHeld ts n → note_seen (ts ++ more) n ≡ note_seen ts n
note_grown ts more (code.Expression f) h = ap of_expression (seen_grown ts more f h)
note_grown ts more (code.Reference None) h = refl
note_grown ts more (code.Reference (Some r)) h = ap (λ x. of_reference (Some x)) (range_grown ts more r h)

notes_held : (ts more : List DataType) (ns : List NoteOfCode) → AllByRecursion (IsNoteHeld ts) ns → AllByRecursion (IsNoteHeld (ts ++ more)) ns
notes_held ts more [] h = tt
notes_held ts more (n ∷ ns) h = (note_held ts more n h.0, notes_held ts more ns h.1)

notes_same : (ts more : List DataType) (ns : List NoteOfCode) → AllByRecursion (IsNoteHeld ts) ns → map (note_seen (ts ++ more)) ns ≡ map (note_seen ts) ns
notes_same ts more [] h = refl
notes_same ts more (n ∷ ns) h =
    ap (λ y. y ∷ map (note_seen (ts ++ more)) ns) (note_grown ts more n h.0) ∙ ap (λ ys. note_seen ts n ∷ ys) (notes_same ts more ns h.1)

pub noted_grown : (ts more : List DataType) (a b : List NoteOfCode) (n : List Note) → Noted ts a b n → Noted (ts ++ more) a b n
noted_grown ts more a b n noted = record {
  more = noted.more;
  grown = noted.grown;
  held = notes_held ts more noted.more noted.held;
  are = notes_same ts more noted.more noted.held ∙ noted.are;
}

pub noted_later : (ts : List DataType) (scope : Scope) (a b : List NoteOfCode) (n : List Note) → GoesOnWith ts scope → Noted ts a b n → Noted (types_of scope.table) a b n
noted_later ts scope a b n goes noted = rw goes.grown (noted_grown ts goes.more a b n noted)

-- those of a list of which some have come
pub record NotesSoFar (ts : List DataType) (start now : List NoteOfCode) (whole left : List Note) : Type 0 where
  pub own : List Note
  pub noted : Noted ts start now own
  pub same : whole ≡ own ++ left

pub notes_first : (ts : List DataType) (start : List NoteOfCode) (whole : List Note) → NotesSoFar ts start start whole whole
notes_first ts start whole = record { own = []; noted = noted_none ts start; same = refl }

pub notes_later : (ts : List DataType) (scope : Scope) (start now : List NoteOfCode) (whole left : List Note) → GoesOnWith ts scope → NotesSoFar ts start now whole left
    → NotesSoFar (types_of scope.table) start now whole left
notes_later ts scope start now whole left goes so_far =
    record { own = so_far.own; noted = noted_later ts scope start now so_far.own goes so_far.noted; same = so_far.same }

pub notes_next : (ts : List DataType) (start now next : List NoteOfCode) (whole left step rest : List Note) → NotesSoFar ts start now whole left → left ≡ step ++ rest
    → Noted ts now next step → NotesSoFar ts start next whole rest
notes_next ts start now next whole left step rest so_far is noted = record {
  own = so_far.own ++ step;
  noted = noted_then ts start now next so_far.own step so_far.noted noted;
  same = so_far.same ∙ ap (λ ns. so_far.own ++ ns) is ∙ sym (append_assoc so_far.own step rest);
}

pub notes_done : (ts : List DataType) (start now : List NoteOfCode) (whole left : List Note) → NotesSoFar ts start now whole left → left ≡ [] → Noted ts start now whole
notes_done ts start now whole left so_far is = rw (so_far.same ∙ ap (λ ns. so_far.own ++ ns) is ∙ sym (append_none so_far.own)) so_far.noted
