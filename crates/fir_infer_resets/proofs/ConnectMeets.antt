-- The two sides of a connect, which meet.
use Rattle.std.proofs.Common.{◌≡◌, Bool, true, false, List, [], ◌∷◌, ◌++◌, length, Option, Bor, Vec, Global, refl}
use Rattle.std.specs.Prelude.{option_map}
use Rattle.fir_ast.specs.declared.expressions.Reference.{Reference}
use Rattle.fir_ast.specs.declared.place.Place.{Place}
use Rattle.fir_ast.specs.Types.{DataType}
use Rattle.fir_ast.specs.Expressions.{Expression}
use Rattle.fir_ast.specs.working.Views.{sink_of}
use Rattle.fir_meaning.specs.TypedScopes.{TypedScope}
use Rattle.fir_meaning.specs.TypeGroup.{scope_at}
use Rattle.fir_meaning.specs.Visibility.{Before, behind}
use Rattle.fir_types.specs.declared.note.LeafRange.{LeafRange as RangeOfCode}
use Rattle.fir_types.specs.working.ModuleNotes.{connect_notes, statement_notes}
use Rattle.fir_types.specs.working.Notes.{Note, expression_notes, reference_note, reference_notes}
use Rattle.fir_infer_resets.specs.declared.meet.Meet.{Meet}
use Rattle.fir_infer_resets.specs.declared.meet.Meet.TheVariants as code
use Rattle.fir_infer_resets.specs.declared.meet.Source.{Source}
use Rattle.fir_infer_resets.specs.declared.meets.Walk.{Walk}
use Rattle.fir_meaning.specs.ResetJoins.{ResetModule}
use Rattle.fir_infer_resets.specs.working.Meetings.{Sides, connected, meeting, meetings_in, partly_connected}
use Rattle.fir_infer_resets.specs.working.Meets.{Ahead, AreSides, IsRange, IsSource, Meets}
use Rattle.fir_infer_resets.specs.working.Passes.{PassesRange, PassesSource, connect_by}
use Rattle.fir_infer_resets.proofs.NotesPassed.{ahead_behind, passes_then}
use Rattle.fir_infer_resets.proofs.MeetsJoined.{met_behind}

-- the two sides of a connect
module _ (ts : List DataType) (m : ResetModule) (before : Before) (rest : List Note) (r : Bor Reference) (range : Option (Bor RangeOfCode)) (given : Source) (e : Expression)
    (old first second : Walk) (meets : Vec Meet Global) (same : old.declared ≡ length before.declared)
    (named : (notes : List Note) → Ahead ts old.notes.now (reference_notes (scope_at m.modules before) (sink_of r.now) ++ notes)
    → PassesRange ts (reference_note (scope_at m.modules before) (sink_of r.now)) notes (option_map (λ x. x.now) range) old first)
    (valued : Ahead ts first.notes.now (expression_notes (scope_at m.modules before) e ++ rest) → PassesSource ts (scope_at m.modules before) e rest given first second) where
  abbrev scope : TypedScope
  scope = scope_at m.modules before

  sides_met : (own : Meet) (sides : Sides) → Ahead ts old.notes.now (connect_notes scope (sink_of r.now) e ++ rest) → meets.items ≡ second.meets.items ++ own ∷ []
      → (IsRange ts (option_map (λ x. x.now) range) scope (sink_of r.now) → IsSource ts scope given e → AreSides ts scope (length before.declared) own sides)
      → Meets ts rest (length before.declared) (meeting m before sides ∷ []) old (record second { meets = meets })
  sides_met own sides ahead pushed are =
      let notes = expression_notes scope e ++ rest in
      let one = named notes (ahead_behind ts old.notes.now (reference_notes scope (sink_of r.now)) (expression_notes scope e) rest ahead) in
      let two = valued one.passes.ahead in
      met_behind ts rest (length before.declared) own (meeting m before sides) old second meets (passes_then ts notes rest old first second one.passes two.passes) same pushed
      (are one.is two.is)

  pub connect_passed : (whole : Bool) (place : Place)
      → Ahead ts old.notes.now (statement_notes m.modules before (connect_by whole place (sink_of r.now) e) ++ rest)
      → meets.items ≡ second.meets.items ++ code.Connected whole r range given ∷ []
      → Meets ts rest (length (behind before (connect_by whole place (sink_of r.now) e)).declared) (meetings_in m before (connect_by whole place (sink_of r.now) e)) old
      (record second { meets = meets })
  connect_passed true place ahead pushed =
      sides_met (code.Connected true r range given) (connected (sink_of r.now) e) ahead pushed (λ a b. (refl, a, b))
  connect_passed false place ahead pushed =
      sides_met (code.Connected false r range given) (partly_connected (sink_of r.now) e) ahead pushed (λ a b. (refl, a, b))
