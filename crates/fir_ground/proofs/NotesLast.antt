-- The last note that is passed; of an expression it is its own.
use Rattle.std.proofs.Common.{◌≡◌, ℕ, suc, ◌+◌, ◌-◌, List, [], ◌∷◌, ◌++◌, map, length, slice_get, Some, None, refl, sym, ap, ◌∙◌, arith, append_assoc, length-append}
use Rattle.std.specs.Prelude.{option_map}
use Rattle.std.proofs.lemmas.List.{map-append, length-map}
use Rattle.std.proofs.lemmas.Option.{slice_get-map}
use Rattle.fir_base.proofs.Elements.{get_behind}
use Rattle.fir_ast.specs.Types.{DataType}
use Rattle.fir_ast.specs.Expressions.{Expression, reference, literal, operation, mux, validif}
use Rattle.fir_meaning.specs.TypedScopes.{TypedScope}
use Rattle.fir_meaning.specs.working.WellTyped.{HasType}
use Rattle.fir_meaning.proofs.FoundTypes.{found_type}
use Rattle.fir_types.specs.declared.note.Note.{Note as NoteOfCode}
use Rattle.fir_types.specs.working.Notes.{Note, expression_note, expression_notes, notes_of_each, of_expression, part_notes, reference_note}
use Rattle.fir_types.specs.working.Noted.{note_seen, saturated_note}
use Rattle.fir_meaning.specs.working.Leafed.{target_read}
use Rattle.fir_ground.specs.working.Grounds.{Ahead}

-- behind the notes that are passed stand those that are left
pub last_seen : (ts : List DataType) (notes left : List NoteOfCode) (before : List Note) (note : Note) (rest : List Note) (k : ℕ)
    → Ahead ts notes (before ++ note ∷ rest) → Ahead ts left rest → k ≡ (length notes - length left) - 1
    → option_map (note_seen ts) (slice_get notes k) ≡ Some (saturated_note note)
last_seen ts notes left before note rest k ahead behind at =
    let front : List Note = map saturated_note before in
    let whole : map (note_seen ts) notes ≡ front ++ saturated_note note ∷ map saturated_note rest =
    ahead ∙ map-append saturated_note before (note ∷ rest) in
    let long : length notes ≡ length before + suc (length rest) =
    sym (length-map notes (note_seen ts)) ∙ ap length ahead ∙ length-map (before ++ note ∷ rest) saturated_note
    ∙ length-append before (note ∷ rest) in
    let short : length left ≡ length rest = sym (length-map left (note_seen ts)) ∙ ap length behind ∙ length-map rest saturated_note in
    let same : length front ≡ length before = length-map before saturated_note in
    let here : k ≡ length front = omega arith in
    sym (slice_get-map (note_seen ts) notes k) ∙ ap (λ l. slice_get l k) whole
    ∙ ap (slice_get (front ++ saturated_note note ∷ map saturated_note rest)) here
    ∙ get_behind front (map saturated_note rest) (saturated_note note)

-- that of an expression itself
abbrev pub own_note : TypedScope → Expression → Note
own_note typed (reference p n ps) = reference_note typed (record { place = p; name = n; parts = ps })
own_note typed e = expression_note typed e

noted_type : (typed : TypedScope) (e : Expression) (t : DataType) → HasType typed e t → expression_note typed e ≡ of_expression (Some t)
noted_type typed e t has = ap (λ c. of_expression c.has) (found_type typed e t has)

pub own_type : (typed : TypedScope) (e : Expression) (t : DataType) → target_read typed e ≡ None → HasType typed e t
    → own_note typed e ≡ of_expression (Some t)
own_type typed (reference p n ps) t none has = absurd (cc)
own_type typed (literal l) t none has = noted_type typed (literal l) t has
own_type typed (operation p op es ks) t none has = noted_type typed (operation p op es ks) t has
own_type typed (mux p c a b) t none has = noted_type typed (mux p c a b) t has
own_type typed (validif p c a) t none has = noted_type typed (validif p c a) t has

record LastNote (typed : TypedScope) (e : Expression) : Type 0 where
  front : List Note
  is : expression_notes typed e ≡ front ++ own_note typed e ∷ []

last_note : (typed : TypedScope) (e : Expression) → LastNote typed e
last_note typed (reference p n ps) = record { front = part_notes typed ps; is = refl }
last_note typed (literal l) = record { front = []; is = refl }
last_note typed (operation p op es ks) = record { front = notes_of_each typed es; is = refl }
last_note typed (mux p c a b) = record { front = expression_notes typed c ++ expression_notes typed a ++ expression_notes typed b; is = refl }
last_note typed (validif p c a) = record { front = expression_notes typed c ++ expression_notes typed a; is = refl }

-- in front of an expression
pub record OwnNote (ts : List DataType) (notes : List NoteOfCode) (note : Note) (rest : List Note) : Type 0 where
  pub before : List Note
  pub ahead : Ahead ts notes (before ++ note ∷ rest)

pub own_last : (ts : List DataType) (notes : List NoteOfCode) (typed : TypedScope) (e : Expression) (rest : List Note)
    → Ahead ts notes (expression_notes typed e ++ rest) → OwnNote ts notes (own_note typed e) rest
own_last ts notes typed e rest ahead =
    let last = last_note typed e in
    record {
      before = last.front;
      ahead =
          ahead ∙ ap (λ l. map saturated_note (l ++ rest)) last.is
          ∙ ap (map saturated_note) (append_assoc last.front (own_note typed e ∷ []) rest);
    }
