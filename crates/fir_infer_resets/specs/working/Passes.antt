-- The code's walk over the notes of expressions, which are passed, and over statements.
use Rattle.std.specs.Prelude.{◌≡◌, List, ◌++◌, length, Bool, true, false, Option, Some, option_map, Result, OnOk}
use Rattle.fir_ast.specs.declared.place.Place.{Place}
use Rattle.fir_ast.specs.Types.{DataType}
use Rattle.fir_ast.specs.Expressions.{Expression}
use Rattle.fir_ast.specs.Statements.{SinkReference, Statement, connect, partial_connect}
use Rattle.fir_meaning.specs.Visibility.{Before, behind}
use Rattle.fir_meaning.specs.TypedScopes.{TypedScope}
use Rattle.fir_meaning.specs.ExpressionTypes.{expression_type}
use Rattle.fir_types.specs.declared.found.Found.{Found}
use Rattle.fir_types.specs.declared.note.Note.{Note as NoteOfCode}
use Rattle.fir_types.specs.declared.note.LeafRange.{LeafRange as RangeOfCode}
use Rattle.fir_types.specs.working.ModuleNotes.{statement_notes}
use Rattle.fir_types.specs.working.Notes.{Note, of_reference}
use Rattle.fir_types.specs.working.Noted.{note_seen, range_seen, saturated_note}
use Rattle.fir_types.specs.working.Seen.{seen}
use Rattle.fir_infer_resets.specs.declared.meet.Source.{Source}
use Rattle.fir_infer_resets.specs.declared.meets.Walk.{Walk}
use Rattle.fir_infer_resets.specs.working.Meetings.{meetings_in}
use Rattle.fir_infer_resets.specs.working.Meets.{Ahead, IsNoReference, IsSource, Meets}
use Rattle.fir_meaning.specs.ResetJoins.{ResetModule}

-- these notes are left, and nothing else has changed
pub record Passes (ts : List DataType) (rest : List Note) (old new : Walk) : Type 0 where
  pub ahead : Ahead ts new.notes.now rest
  pub declared : new.declared ≡ old.declared
  pub meets : new.meets.items ≡ old.meets.items

-- the note that comes, passed
pub record PassesNote (ts : List DataType) (note : Note) (rest : List Note) (own : Option NoteOfCode) (old new : Walk) : Type 0 where
  pub is : option_map (note_seen ts) own ≡ Some (saturated_note note)
  pub passes : Passes ts rest old new

-- the type in it, and what it names
pub record PassesType (ts : List DataType) (t : Option DataType) (rest : List Note) (found : Option Found) (old new : Walk) : Type 0 where
  pub is : seen ts found ≡ t
  pub passes : Passes ts rest old new

pub record PassesRange (ts : List DataType) (note : Note) (rest : List Note) (range : Option RangeOfCode) (old new : Walk) : Type 0 where
  pub is : of_reference (option_map (range_seen ts) range) ≡ saturated_note note
  pub passes : Passes ts rest old new

-- an expression is passed, of which this type is found where it is no reference
pub record PassesExpression (ts : List DataType) (scope : TypedScope) (e : Expression) (rest : List Note) (found : Option Found) (old new : Walk) : Type 0 where
  pub is : IsNoReference e → seen ts found ≡ (expression_type scope e).has
  pub passes : Passes ts rest old new

-- as what gives a side its value
pub record PassesSource (ts : List DataType) (scope : TypedScope) (e : Expression) (rest : List Note) (source : Source) (old new : Walk) : Type 0 where
  pub is : IsSource ts scope source e
  pub passes : Passes ts rest old new

-- a statement is passed
abbrev pub PassesStatement : {A E : Type 0} → Statement → Walk → Walk → Result A E → Type 0
PassesStatement s old new result =
    (ts : List DataType) (m : ResetModule) (before : Before) (rest : List Note) → Ahead ts old.notes.now (statement_notes m.modules before s ++ rest)
    → old.declared ≡ length before.declared
    → OnOk result (Meets ts rest (length (behind before s).declared) (meetings_in m before s) old new)

-- a connect, or else a partial connect
abbrev pub connect_by : Bool → Place → SinkReference → Expression → Statement
connect_by true = connect
connect_by false = partial_connect
