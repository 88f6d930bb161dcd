-- The leaves that a reference names, part by part.
use Rattle.std.proofs.Common.{◌≡◌, ℕ, List, [], ◌∷◌, Option, Some, None, refl, sym, ap, ◌∙◌}
use Rattle.std.specs.Prelude.{IfOk, Result, Ok, Err, option_map, slice_get}
use Rattle.fir_ast.specs.declared.place.Place.{Place}
use Rattle.fir_ast.specs.Types.{DataType}
use Rattle.fir_ast.specs.Expressions.{Parts, no_parts, subfield, subindex}
use Rattle.fir_ast.specs.Statements.{SinkReference}
use Rattle.fir_meaning.specs.LeafPaths.{LeafPath}
use Rattle.fir_meaning.specs.TypedScopes.{TypedScope, known}
use Rattle.fir_meaning.specs.Reaching.{field_of_type, vector_of_type}
use Rattle.fir_meaning.specs.ExpressionTypes.{reaching}
use Rattle.fir_names.specs.declared.declaration.Declaration.{Declaration}
use Rattle.fir_names.specs.declared.names.Names.{Names}
use Rattle.fir_names.specs.working.Tabulated.{found}
use Rattle.fir_type_table.specs.working.Tables.{types_of}
use Rattle.fir_types.specs.declared.found.Found.{Found}
use Rattle.fir_types.specs.declared.note.Note.{Note as NoteOfCode}
use Rattle.fir_types.specs.declared.note.Pick.{Pick as PickOfCode}
use Rattle.fir_types.specs.declared.reach.Reach.{Reach}
use Rattle.fir_types.specs.declared.scope.Scope.{Scope}
use Rattle.fir_types.specs.working.Known.{Knows, component_flow, known_at, known_there, position_at, position_in, position_there}
use Rattle.fir_types.specs.working.Notes.{LeafRange, element_range, field_range, known_range, of_reference, position_of, range_behind, range_where, reference_note, root_range, whole_range}
use Rattle.fir_types.specs.working.Noted.{HasRange, IsReferenceNote, IsRootRange, MayStepTo, Noted, RangeStep}
use Rattle.fir_types.specs.working.Seen.{found_type, reached_as}

-- what is reached before the parts that are left
pub record RangeHere (ts : List DataType) (root : Option LeafRange) (all left : Parts) (r : Reach) (picks : List PickOfCode) : Type 0 where
  pub now : LeafRange
  pub has : HasRange ts r picks now
  pub same : option_map (λ x. range_behind x all) root ≡ Some (range_behind now left)

abbrev pub RangeSoFar : List DataType → Option LeafRange → Parts → Parts → Option Reach → List PickOfCode → Type 0
RangeSoFar ts root all left None picks = Unit {0}
RangeSoFar ts root all left (Some r) picks = RangeHere ts root all left r picks

pub range_first : (ts : List DataType) (root : Option LeafRange) (all : Parts) (y : Option Reach) → IsRootRange ts y root → RangeSoFar ts root all all y []
range_first ts root all None h = tt
range_first ts root all (Some r) h = record { now = h.0; has = h.2; same = ap (option_map (λ x. range_behind x all)) h.1 }

pub range_next : (ts : List DataType) (root : Option LeafRange) (all rest : Parts) (part : Parts → Parts) (y z : Option Reach) (old new : List PickOfCode)
    → RangeSoFar ts root all (part rest) y old → RangeStep ts part y old z new → RangeSoFar ts root all rest z new
range_next ts root all rest part None z old new so_far step = rw step tt
range_next ts root all rest part (Some r) None old new so_far step = tt
range_next ts root all rest part (Some r) (Some s) old new so_far step =
    let next = step so_far.now so_far.has in record { now = next.next; has = next.has; same = so_far.same ∙ ap Some (next.same rest) }

-- the note of a reference that reaches this
pub reference_noted : (ts : List DataType) (typed : TypedScope) (s : SinkReference) (path : LeafPath) (y : Option Reach) (picks : List PickOfCode) (old new : List NoteOfCode)
    → (reaching typed s).has ≡ option_map (reached_as ts path) y → RangeSoFar ts (root_range typed s.name) s.parts no_parts y picks
    → IsReferenceNote ts y picks old new → Noted ts old new (reference_note typed s ∷ [])
reference_noted ts typed s path None picks old new has so_far noted =
    rw (ap (λ x. of_reference (range_where x (option_map (λ r. range_behind r s.parts) (root_range typed s.name)))) has) noted
reference_noted ts typed s path (Some r) picks old new has so_far noted =
    rw (ap (λ x. of_reference (range_where x (option_map (λ r. range_behind r s.parts) (root_range typed s.name)))) has ∙ ap of_reference so_far.same)
    (noted so_far.now so_far.has)

-- the leaves of what a name stands for
pub root_of_name : (names : Names) (scope : Scope) (typed : TypedScope) (name : List ℕ) (d : Declaration) (x : Found) → Knows names scope typed
    → found names name ≡ Some d → slice_get scope.declared.items d.position ≡ Some (Some x)
    → root_range typed name ≡ Some (whole_range d.position (found_type (types_of scope.table) x))
root_of_name names scope typed name d x knows is there =
    let ts = types_of scope.table in
    let at : position_in names scope name ≡ Some d.position =
    ap (position_at scope) is ∙ ap (position_there d.position) there in
    let known_is : known typed name ≡ Some (record { name = name; flow = component_flow d.component; data_type = Some (found_type ts x) }) =
    sym (knows.each name) ∙ ap (known_at scope name) is ∙ ap (known_there ts name d.component) there in
    ap (known_range (position_of typed name)) known_is ∙ ap (λ p. Some (whole_range p (found_type ts x))) (sym (knows.position name d.position at))

-- a part of which the index picks nothing
steps_lead : (ts : List DataType) (part : Parts → Parts) (step : LeafRange → LeafRange) → ((range : LeafRange) (rest : Parts) → range_behind range (part rest) ≡ range_behind (step range) rest)
    → (y z : Option Reach) (picks : List PickOfCode) → MayStepTo ts step y z → RangeStep ts part y picks z picks
steps_lead ts part step same None z picks h = h
steps_lead ts part step same (Some r) None picks h = tt
steps_lead ts part step same (Some r) (Some s) picks h = λ range has. record { next = step range; has = h picks range has; same = same range }

steps_led : {E : Type 0} (ts : List DataType) (part : Parts → Parts) (step : LeafRange → LeafRange) → ((range : LeafRange) (rest : Parts) → range_behind range (part rest) ≡ range_behind (step range) rest)
    → (y : Option Reach) (picks : List PickOfCode) (result : Result (Option Reach) E) → IfOk result (λ z. MayStepTo ts step y z) → IfOk result (λ z. RangeStep ts part y picks z picks)
steps_led ts part step same y picks (Ok z) h = steps_lead ts part step same y z picks h
steps_led ts part step same y picks (Err e) h = tt

pub field_leads : {E : Type 0} (ts : List DataType) (first q : Place) (x : List ℕ) (y : Option Reach) (picks : List PickOfCode) (result : Result (Option Reach) E)
    → IfOk result (λ z. MayStepTo ts (λ r. field_range x r (field_of_type x r.data_type)) y z) → IfOk result (λ z. RangeStep ts (subfield first q x) y picks z picks)
field_leads ts first q x y picks result h = steps_led ts (subfield first q x) (λ r. field_range x r (field_of_type x r.data_type)) (λ range rest. refl) y picks result h

pub index_leads : {E : Type 0} (ts : List DataType) (first q : Place) (i : ℕ) (y : Option Reach) (picks : List PickOfCode) (result : Result (Option Reach) E)
    → IfOk result (λ z. MayStepTo ts (λ r. element_range i r (vector_of_type r.data_type)) y z) → IfOk result (λ z. RangeStep ts (subindex first q i) y picks z picks)
index_leads ts first q i y picks result h = steps_led ts (subindex first q i) (λ r. element_range i r (vector_of_type r.data_type)) (λ range rest. refl) y picks result h
