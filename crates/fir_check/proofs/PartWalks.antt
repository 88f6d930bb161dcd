-- Walks along the parts of a reference, part by part.
use Rattle.std.proofs.Common.{◌≡◌, ℕ, ◌+◌, ◌<◌, List, [], ◌∷◌, ◌++◌, map, drop, length, get_or, Option, Some, None, Ok, Err, Result, refl, sym, ap, ◌∙◌, append_assoc}
use Rattle.std.specs.Prelude.{option_map}
use Rattle.fir_base.specs.declared.refused.Refused.{Refused}
use Rattle.fir_ast.specs.declared.fault.FirFault.{FirFault}
use Rattle.fir_ast.specs.declared.place.Place.{Place}
use Rattle.fir_ast.specs.declared.expressions.Part.{Part}
use Rattle.fir_ast.specs.declared.expressions.Reference.{Reference}
use Rattle.fir_ast.specs.Types.{DataType}
use Rattle.fir_ast.specs.Expressions.{Parts, no_parts, reference}
use Rattle.fir_ast.specs.Statements.{SinkReference}
use Rattle.fir_ast.specs.working.Views.{parts_of, sink_of}
use Rattle.fir_meaning.specs.Checked.{Checked}
use Rattle.fir_meaning.specs.LeafPaths.{Step, LeafPath, named}
use Rattle.fir_meaning.specs.Reaching.{Reached, root}
use Rattle.fir_meaning.specs.TypedScopes.{TypedScope}
use Rattle.fir_meaning.specs.ExpressionTypes.{along_parts, expression_type, reaching}
use Rattle.fir_names.specs.working.Parts.{part_of}
use Rattle.fir_types.specs.declared.reach.Reach.{Reach}
use Rattle.fir_types.specs.working.Judged.{Is, IsFirstOf, Finds, GoesOn}
use Rattle.fir_types.specs.working.Seen.{found_type, reached_as, sink_path, steps_of}
use Rattle.fir_check.proofs.CheckedForms.{first_along}
use Rattle.fir_types.proofs.PartViews.{parts_left, part_steps, sink_view}
use Rattle.fir_types.proofs.GrownScopes.{append_none}

-- one part, from what its form is found to be
pub part_goes_on : (ts : List DataType) (typed : TypedScope) (p : Place) (path : LeafPath) (c form : Checked Reached) (part : Parts → Parts) (rest : Parts) (step : Step) (result : Result (Option Reach) (Refused FirFault))
    → along_parts typed p c (part rest) ≡ along_parts typed p form rest → steps_of (part no_parts) ≡ step ∷ []
    → Finds (reached_as ts (path ++ step ∷ [])) form result → GoesOn ts typed p path c part rest result
part_goes_on ts typed p path c form part rest step (Ok y) same steps found = record { next = form; reached = rw steps found; same = same }
part_goes_on ts typed p path c form part rest step (Err e) same steps found = rw same (first_along typed p form rest e found)

-- a walk that has come to these parts, and the path of the whole
pub record ReachedSoFar (ts : List DataType) (typed : TypedScope) (p : Place) (whole : Checked Reached) (all : LeafPath) (left : Parts) (y : Option Reach) : Type 0 where
  pub path : LeafPath
  pub now : Checked Reached
  pub reached : Is now (option_map (reached_as ts path) y)
  pub same : whole ≡ along_parts typed p now left
  pub steps : all ≡ path ++ steps_of left

pub part_more : (ts : List DataType) (typed : TypedScope) (p : Place) (whole : Checked Reached) (all : LeafPath) (ps : List Part) (i : ℕ) (x : Part) (y z : Option Reach)
    → ReachedSoFar ts typed p whole all (parts_of (map part_of (drop i ps))) y → i < length ps → x ≡ get_or ps i x
    → ((path : LeafPath) (c : Checked Reached) → Is c (option_map (reached_as ts path) y) → (rest : Parts) → GoesOn ts typed p path c (part_of x) rest (Ok z))
    → ReachedSoFar ts typed p whole all (parts_of (map part_of (drop (i + 1) ps))) z
part_more ts typed p whole all ps i x y z so_far h is leads =
    let rest : Parts = parts_of (map part_of (drop (i + 1) ps)) in
    let l = leads so_far.path so_far.now so_far.reached rest in
    record {
      path = so_far.path ++ steps_of (part_of x no_parts);
      now = l.next;
      reached = l.reached;
      same = so_far.same ∙ ap (along_parts typed p so_far.now) (parts_left ps i x h is) ∙ l.same;
      steps = so_far.steps ∙ ap (λ left. so_far.path ++ steps_of left) (parts_left ps i x h is) ∙ ap (λ steps. so_far.path ++ steps) (part_steps x rest)
          ∙ sym (append_assoc so_far.path (steps_of (part_of x no_parts)) (steps_of rest));
    }

pub part_fault : (ts : List DataType) (typed : TypedScope) (p : Place) (whole : Checked Reached) (all : LeafPath) (ps : List Part) (i : ℕ) (x : Part) (y : Option Reach) (e : Refused FirFault)
    → ReachedSoFar ts typed p whole all (parts_of (map part_of (drop i ps))) y → i < length ps → x ≡ get_or ps i x
    → ((path : LeafPath) (c : Checked Reached) → Is c (option_map (reached_as ts path) y) → (rest : Parts) → GoesOn ts typed p path c (part_of x) rest (Err e))
    → IsFirstOf whole.shows e
part_fault ts typed p whole all ps i x y e so_far h is fails =
    rw (so_far.same, parts_left ps i x h is) (fails so_far.path so_far.now so_far.reached (parts_of (map part_of (drop (i + 1) ps))))

-- the walk of a reference
abbrev pub Walked : List DataType → TypedScope → Reference → Parts → Option Reach → Type 0
Walked ts typed r left y = ReachedSoFar ts typed r.place (reaching typed (sink_of r)) (sink_path (sink_of r)) left y

pub reached_first : (ts : List DataType) (typed : TypedScope) (r : Reference) (parts : List Part) (y : Option Reach) → parts ≡ r.parts.items
    → option_map (reached_as ts (named r.name ∷ [])) y ≡ (root typed r.name).has → Walked ts typed r (parts_of (map part_of parts)) y
reached_first ts typed r parts y same reached = record {
  path = named r.name ∷ [];
  now = root typed r.name;
  reached = record { has = sym reached; none = refl };
  same = ap (reaching typed) (sink_view r) ∙ ap (λ ps. along_parts typed r.place (root typed r.name) (parts_of (map part_of ps))) (sym same);
  steps = ap sink_path (sink_view r) ∙ ap (λ ps. named r.name ∷ steps_of (parts_of (map part_of ps))) (sym same);
}

pub reached_done : (ts : List DataType) (typed : TypedScope) (r : Reference) (left : Parts) (y : Option Reach) → Walked ts typed r left y → left ≡ no_parts
    → Is (reaching typed (sink_of r)) (option_map (reached_as ts (sink_path (sink_of r))) y)
reached_done ts typed r left y walked none =
    let whole = walked.same ∙ ap (along_parts typed r.place walked.now) none in
    let path : sink_path (sink_of r) ≡ walked.path = walked.steps ∙ ap (λ ps. walked.path ++ steps_of ps) none ∙ sym (append_none walked.path) in
    rw (whole, path) walked.reached

-- the type of what a reference reaches
pub reference_found : (ts : List DataType) (typed : TypedScope) (s : SinkReference) (path : LeafPath) (o x : Option Reach) → o ≡ x
    → Is (reaching typed s) (option_map (reached_as ts path) o) → Is (expression_type typed (reference s.place s.name s.parts)) (option_map (λ r. found_type ts r.found) x)
reference_found ts typed s path o None same is =
    record { has = ap (option_map (λ y. y.data_type)) (is.has ∙ ap (option_map (reached_as ts path)) same); none = is.none }
reference_found ts typed s path o (Some r) same is =
    record { has = ap (option_map (λ y. y.data_type)) (is.has ∙ ap (option_map (reached_as ts path)) same); none = is.none }
