-- What the condition of a reset tells of it, by the note of the condition.
use Rattle.std.proofs.Common.{◌≡◌, ◌≤◌, List, [], ◌∷◌, map, nat_lt, if◌then◌else◌, Option, Some, None, refl, sym, ap, ◌∙◌, arith}
use Rattle.std.specs.Prelude.{◌&&◌, option_map}
use Rattle.fir_ast.specs.Types.{DataType, uint, sint, clock, reset, async_reset, bundle, vector}
use Rattle.fir_ast.specs.Expressions.{Expression, reference, literal, operation, mux, validif}
use Rattle.fir_ast.specs.Statements.{SinkReference}
use Rattle.fir_meaning.specs.CostGroup.{cost_limit}
use Rattle.fir_meaning.specs.ExpressionTypes.{expression_type}
use Rattle.fir_meaning.specs.TypedScopes.{TypedScope}
use Rattle.fir_meaning.specs.working.WellTyped.{HasType, Reaches}
use Rattle.fir_meaning.proofs.FoundTypes.{found_type}
use Rattle.fir_type_table.specs.working.Saturated.{saturated}
use Rattle.fir_types.specs.working.Noted.{saturated_note, saturated_pick, saturated_range}
use Rattle.fir_types.specs.working.Notes.{LeafRange, Note, Pick, of_expression, of_reference}
use Rattle.fir_meaning.specs.working.Targets.{leaves_so_far}
use Rattle.fir_ground.specs.working.ResetKinds.{KindMeant, all_there, inferred_by, inferred_kind, kind_by, kind_of_reset, sink_range, synchronous_kind}
use Rattle.fir_ground.proofs.NamedTargets.{ranged}
use Rattle.fir_ground.proofs.NotesLast.{own_note}

-- a note tells the kind
pub record Tells (note : Note) (kind : KindMeant) : Type 0 where
  pub expression : (t : Option DataType) → note ≡ of_expression t → kind ≡ kind_by None t
  pub reference : (r : Option LeafRange) → note ≡ of_reference r → kind ≡ kind_by r (option_map (λ x. x.data_type) r)

-- numbers that stand still tell the same
same_there : (ps : List Pick) → all_there (map saturated_pick ps) ≡ all_there ps
same_there [] = refl
same_there (p ∷ ps) = ap (λ b. nat_lt 0 p.length && b) (same_there ps)

same_inferred : (r : LeafRange) → inferred_by (Some (saturated_range r)) ≡ inferred_by (Some r)
same_inferred r =
    let still : saturated (saturated r.shared_offset) ≡ saturated r.shared_offset = omega arith in
    ap (λ b. if b then inferred_kind r.declaration (saturated (saturated r.shared_offset)) else synchronous_kind) (same_there r.picks)
    ∙ ap (λ n. if all_there r.picks then inferred_kind r.declaration n else synchronous_kind) still

same_kind : (r : LeafRange) (t : DataType) → kind_by (Some (saturated_range r)) (Some t) ≡ kind_by (Some r) (Some t)
same_kind r (uint w) = refl
same_kind r (sint w) = refl
same_kind r clock = refl
same_kind r reset = same_inferred r
same_kind r async_reset = refl
same_kind r (bundle fs) = refl
same_kind r (vector t n) = refl

same_range : (o : Option LeafRange) (r : LeafRange) → of_reference o ≡ of_reference (Some r) → o ≡ Some r
same_range o r is = cc

-- that of the condition, with numbers that stand still
pub told : (typed : TypedScope) (e : Expression) (u : DataType) (kind : KindMeant) → leaves_so_far typed ≤ cost_limit → HasType typed e u
    → Tells (saturated_note (own_note typed e)) kind → kind ≡ kind_of_reset typed e
told typed (reference p n ps) u kind small has tells =
    let s : SinkReference = record { place = p; name = n; parts = ps } in
    let reaches : Reaches typed s has.1 = (has.0, has.2, has.3) in
    let own = ranged typed s has.1 small reaches in
    let r = own.range in
    let named : sink_range typed s ≡ Some r = same_range (sink_range typed s) r own.note in
    let data_type : r.data_type ≡ u = own.along.range_type ∙ sym has.4 in
    tells.reference (Some (saturated_range r)) (ap saturated_note own.note) ∙ same_kind r r.data_type
    ∙ ap (λ t. kind_by (Some r) (Some t)) data_type
    ∙ ap (λ o. kind_by o (Some u)) (sym named) ∙ ap (λ c. kind_by (sink_range typed s) c.has) (sym (found_type typed (reference p n ps) u has))
told typed (literal l) u kind small has tells = tells.expression (expression_type typed (literal l)).has refl
told typed (operation p op es ks) u kind small has tells = tells.expression (expression_type typed (operation p op es ks)).has refl
told typed (mux p c a b) u kind small has tells = tells.expression (expression_type typed (mux p c a b)).has refl
told typed (validif p c a) u kind small has tells = tells.expression (expression_type typed (validif p c a)).has refl
