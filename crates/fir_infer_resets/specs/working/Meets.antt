-- The code's walk over what meets, and what it stands for.
use Rattle.std.specs.Prelude.{◌≡◌, ℕ, List, [], ◌∷◌, ◌++◌, true, false, map, length, Option, option_map}
use Rattle.fir_ast.specs.Types.{DataType}
use Rattle.fir_ast.specs.Expressions.{Expression, reference}
use Rattle.fir_ast.specs.Statements.{SinkReference}
use Rattle.fir_ast.specs.working.Views.{named_of, sink_of}
use Rattle.fir_meaning.specs.ExpressionPlaces.{place_of}
use Rattle.fir_meaning.specs.TypedScopes.{TypedScope}
use Rattle.fir_meaning.specs.ExpressionTypes.{expression_type}
use Rattle.fir_meaning.specs.TypeGroup.{scope_at}
use Rattle.fir_meaning.specs.SizedScopes.{sink_expression}
use Rattle.fir_types.specs.declared.note.Note.{Note as NoteOfCode}
use Rattle.fir_types.specs.declared.note.LeafRange.{LeafRange as RangeOfCode}
use Rattle.fir_types.specs.working.Notes.{Note, of_reference, reference_note}
use Rattle.fir_types.specs.working.Noted.{note_seen, range_seen, saturated_note}
use Rattle.fir_types.specs.working.Seen.{seen}
use Rattle.fir_infer_resets.specs.declared.meet.Meet.{Meet}
use Rattle.fir_infer_resets.specs.declared.meet.Meet.TheVariants as code
use Rattle.fir_infer_resets.specs.declared.meet.Source.{Source}
use Rattle.fir_infer_resets.specs.declared.meet.Source.TheVariants as source
use Rattle.fir_infer_resets.specs.declared.meets.Walk.{Walk}
use Rattle.fir_infer_resets.specs.working.Meetings.{Meeting, Sides, connected, partly_connected, named_by, instanced}

-- the notes that are not read yet
abbrev pub Ahead : List DataType → List NoteOfCode → List Note → Type 0
Ahead ts notes meant = map (note_seen ts) notes ≡ map saturated_note meant

-- what a reference names, by its note
abbrev pub IsRange : List DataType → Option RangeOfCode → TypedScope → SinkReference → Type 0
IsRange ts range scope sink = of_reference (option_map (range_seen ts) range) ≡ saturated_note (reference_note scope sink)

abbrev pub IsNoReference : Expression → Type 0
IsNoReference (reference p n ps) = ⊥
IsNoReference e = Unit {0}

abbrev pub IsSource : List DataType → TypedScope → Source → Expression → Type 0
IsSource ts scope (source.Reference r range) e = (e ≡ sink_expression (sink_of r.now)) × IsRange ts (option_map (λ x. x.now) range) scope (sink_of r.now)
IsSource ts scope (source.Value p found) e = IsNoReference e × (p ≡ place_of e) × (seen ts found ≡ (expression_type scope e).has)

abbrev pub AreSides : List DataType → TypedScope → ℕ → Meet → Sides → Type 0
AreSides ts scope position (code.Connected true r range given) (connected sink e) =
    (sink ≡ sink_of r.now) × IsRange ts (option_map (λ x. x.now) range) scope sink × IsSource ts scope given e
AreSides ts scope position (code.Connected false r range given) (partly_connected sink e) =
    (sink ≡ sink_of r.now) × IsRange ts (option_map (λ x. x.now) range) scope sink × IsSource ts scope given e
AreSides ts scope position (code.Node i at given) (named_by n e) = (n ≡ named_of i.now) × (at ≡ position) × IsSource ts scope given e
AreSides ts scope position (code.Instance i at) (instanced n name) = (n ≡ named_of i.now) × (at ≡ position)
AreSides ts scope position _ _ = ⊥

abbrev pub IsMeet : List DataType → Meet → Meeting → Type 0
IsMeet ts own m = AreSides ts (scope_at m.inside.modules m.before) (length m.before.declared) own m.sides

abbrev pub AreMeets : List DataType → List Meet → List Meeting → Type 0
AreMeets ts [] [] = Unit {0}
AreMeets ts (own ∷ owns) (m ∷ ms) = IsMeet ts own m × AreMeets ts owns ms
AreMeets ts _ _ = ⊥

-- behind a form: its notes are read, and what it lets meet has come
pub record Meets (ts : List DataType) (rest : List Note) (after : ℕ) (meant : List Meeting) (old new : Walk) : Type 0 where
  pub ahead : Ahead ts new.notes.now rest
  pub declared : new.declared ≡ after
  pub more : List Meet
  pub grown : new.meets.items ≡ old.meets.items ++ more
  pub are : AreMeets ts more meant
