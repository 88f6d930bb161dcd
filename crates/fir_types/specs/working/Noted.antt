-- The code's notes, and what they stand for.
use Rattle.std.specs.Prelude.{◌≡◌, List, [], ◌∷◌, ◌++◌, map, Option, Some, None, option_map}
use Rattle.std.specs.List.{AllByRecursion}
use Rattle.fir_ast.specs.Types.{DataType}
use Rattle.fir_ast.specs.Expressions.{Parts}
use Rattle.fir_meaning.specs.TypedScopes.{TypedScope}
use Rattle.fir_meaning.specs.Reaching.{vector_of_type}
use Rattle.fir_type_table.specs.working.Saturated.{saturated}
use Rattle.fir_types.specs.declared.note.Pick.{Pick as PickOfCode}
use Rattle.fir_types.specs.declared.note.LeafRange.{LeafRange as RangeOfCode}
use Rattle.fir_types.specs.declared.note.Note.{Note as NoteOfCode}
use Rattle.fir_types.specs.declared.note.Note.TheVariants as code
use Rattle.fir_types.specs.declared.reach.Reach.{Reach}
use Rattle.fir_types.specs.working.Seen.{found_type, seen}
use Rattle.fir_types.specs.working.Walked.{IsHeld}
use Rattle.fir_types.specs.working.Notes.{Pick, LeafRange, Note, of_expression, of_reference, part_notes, picked_range, range_behind}

abbrev pub pick_seen : PickOfCode → Pick
pick_seen p = record { stride = p.stride; length = p.length }

abbrev pub range_seen : List DataType → RangeOfCode → LeafRange
range_seen ts r =
    record {
      declaration = r.declaration;
      data_type = found_type ts r.found;
      offset = r.offset;
      shared_offset = r.shared_offset;
      picks = map pick_seen r.picks.items;
    }

abbrev pub note_seen : List DataType → NoteOfCode → Note
note_seen ts (code.Expression f) = of_expression (seen ts f)
note_seen ts (code.Reference r) = of_reference (option_map (range_seen ts) r)

-- with numbers of leaves that stand still at 2^64 - 1
abbrev pub saturated_pick : Pick → Pick
saturated_pick p = record { stride = saturated p.stride; length = p.length }

abbrev pub saturated_range : LeafRange → LeafRange
saturated_range r =
    record {
      declaration = r.declaration;
      data_type = r.data_type;
      offset = saturated r.offset;
      shared_offset = saturated r.shared_offset;
      picks = map saturated_pick r.picks;
    }

abbrev pub saturated_note : Note → Note
saturated_note (of_expression t) = of_expression t
saturated_note (of_reference r) = of_reference (option_map saturated_range r)

-- the table has the type under the id
abbrev pub IsRangeHeld : List DataType → Option RangeOfCode → Type 0
IsRangeHeld ts None = Unit {0}
IsRangeHeld ts (Some r) = IsHeld ts (Some r.found)

abbrev pub IsNoteHeld : List DataType → NoteOfCode → Type 0
IsNoteHeld ts (code.Expression f) = IsHeld ts f
IsNoteHeld ts (code.Reference r) = IsRangeHeld ts r

-- these notes have come
pub record Noted (ts : List DataType) (old new : List NoteOfCode) (notes : List Note) : Type 0 where
  pub more : List NoteOfCode
  pub grown : new ≡ old ++ more
  pub held : AllByRecursion (IsNoteHeld ts) more
  pub are : map (note_seen ts) more ≡ map saturated_note notes

-- what is reached has this range of leaves, with what its indices pick
pub record HasRange (ts : List DataType) (r : Reach) (picked : List PickOfCode) (range : LeafRange) : Type 0 where
  pub declaration : r.declaration ≡ range.declaration
  pub data_type : found_type ts r.found ≡ range.data_type
  pub offset : r.offset ≡ saturated range.offset
  pub shared_offset : r.shared_offset ≡ saturated range.shared_offset
  pub picks : map pick_seen picked ≡ map saturated_pick range.picks

-- that of a name
abbrev pub IsRootRange : List DataType → Option Reach → Option LeafRange → Type 0
IsRootRange ts None range = Unit {0}
IsRootRange ts (Some r) range = (root : LeafRange) × (range ≡ Some root) × HasRange ts r [] root

-- a step of which the indices pick nothing
abbrev pub StepsTo : List DataType → (LeafRange → LeafRange) → Reach → Reach → Type 0
StepsTo ts step r s = (picks : List PickOfCode) (range : LeafRange) → HasRange ts r picks range → HasRange ts s picks (step range)

abbrev pub MayStepTo : List DataType → (LeafRange → LeafRange) → Option Reach → Option Reach → Type 0
MayStepTo ts step None y = y ≡ None
MayStepTo ts step (Some r) None = Unit {0}
MayStepTo ts step (Some r) (Some s) = StepsTo ts step r s

-- a step by a dynamic index
abbrev pub PicksTo : List DataType → Reach → List PickOfCode → Reach → List PickOfCode → Type 0
PicksTo ts r old s new = (range : LeafRange) → HasRange ts r old range → HasRange ts s new (picked_range range (vector_of_type range.data_type))

abbrev pub MayPickTo : List DataType → Option Reach → List PickOfCode → Option Reach → List PickOfCode → Type 0
MayPickTo ts None old y new = y ≡ None
MayPickTo ts (Some r) old None new = Unit {0}
MayPickTo ts (Some r) old (Some s) new = PicksTo ts r old s new

-- a walk goes on behind a part, from the leaves that it names
pub record RangeLeads (ts : List DataType) (range : LeafRange) (part : Parts → Parts) (s : Reach) (picks : List PickOfCode) : Type 0 where
  pub next : LeafRange
  pub has : HasRange ts s picks next
  pub same : (rest : Parts) → range_behind range (part rest) ≡ range_behind next rest

abbrev pub RangeStep : List DataType → (Parts → Parts) → Option Reach → List PickOfCode → Option Reach → List PickOfCode → Type 0
RangeStep ts part None old y new = y ≡ None
RangeStep ts part (Some r) old None new = Unit {0}
RangeStep ts part (Some r) old (Some s) new = (range : LeafRange) → HasRange ts r old range → RangeLeads ts range part s new

-- the notes of a part have come: of its index
pub record NotesOfPart (ts : List DataType) (typed : TypedScope) (part : Parts → Parts) (old new : List NoteOfCode) : Type 0 where
  pub own : List Note
  pub noted : Noted ts old new own
  pub same : (rest : Parts) → part_notes typed (part rest) ≡ own ++ part_notes typed rest

-- and the note of a reference that reaches this
abbrev pub IsReferenceNote : List DataType → Option Reach → List PickOfCode → List NoteOfCode → List NoteOfCode → Type 0
IsReferenceNote ts None picks old new = Noted ts old new (of_reference None ∷ [])
IsReferenceNote ts (Some r) picks old new = (range : LeafRange) → HasRange ts r picks range → Noted ts old new (of_reference (Some range) ∷ [])
