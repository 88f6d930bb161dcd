-- The parts of a reference, one by one, and the reference behind them.
use Rattle.std.proofs.Common.{◌≡◌, List, [], ◌++◌, refl, sym, ap, ◌∙◌, subst, append_assoc}
use Rattle.std.proofs.lemmas.List.{append-nil}
use Rattle.fir_ast.specs.declared.expressions.Expr.{fold-roll-Expr}
use Rattle.fir_ast.specs.declared.expressions.Expr.TheVariants as code_expr
use Rattle.fir_ast.specs.declared.expressions.Expr.TheOpen.{Part-F}
use Rattle.fir_ast.specs.declared.expressions.Expr.TheOpen as layer
use Rattle.fir_ast.specs.declared.expressions.Part.{Part, fold_out-Part}
use Rattle.fir_ast.specs.declared.expressions.Reference.{Reference}
use Rattle.fir_ast.specs.Circuits.{CircuitTree}
use Rattle.fir_ast.specs.Expressions.{Expression, Parts, no_parts}
use Rattle.fir_ast.specs.Statements.{SinkReference}
use Rattle.fir_ast.specs.working.Views.{expr_of, sink_of, expr_step, part_step, reference_step}
use Rattle.fir_meaning.specs.Reaching.{Reached, at_any, at_element, at_field}
use Rattle.fir_meaning.specs.TypedScopes.{TypedScope}
use Rattle.fir_meaning.specs.SizedScopes.{SizedScope, sink_expression}
use Rattle.fir_meaning.specs.working.WellTyped.{Leads}
use Rattle.fir_meaning.specs.WidthExpressions.{Rule, Width}
use Rattle.fir_names.specs.working.Parts.{part_of}
use Rattle.fir_types.specs.working.Notes.{Note, part_notes}
use Rattle.fir_infer_widths.specs.declared.ground.Ground.{Ground}
use Rattle.fir_infer_widths.specs.declared.walk.Walk.{Walk}
use Rattle.fir_infer_widths.specs.working.Spots.{Spot, spots_within_parts}
use Rattle.fir_infer_widths.specs.working.Walks.{Comes, ComesPast, Enters}
use Rattle.fir_infer_widths.proofs.Coming.{come_none, come_then, enters_then}

pub reference_view : (r : Reference) → expr_of (code_expr.Ref r) ≡ sink_expression (sink_of r)
reference_view r = ap expr_of (sym (code_expr.rolls-Ref r)) ∙ fold-roll-Expr Expression (Parts → Parts) SinkReference expr_step part_step reference_step (layer.Ref r)

-- behind a part the others lead on
abbrev LeadsBehind : TypedScope → Reached → Parts → Reached → Type 0
LeadsBehind typed r rest s = (b : Reached) × Leads typed b rest s

step_leads : (typed : TypedScope) (r s : Reached) (q : Part-F Expression (Parts → Parts) SinkReference) (rest : Parts) → Leads typed r (part_step q rest) s → LeadsBehind typed r rest s
step_leads typed r s (layer.Field first p x) rest h = (at_field x r h.0, h.2)
step_leads typed r s (layer.Index first p i) rest h = (at_element i r h.0, h.4)
step_leads typed r s (layer.Access first e) rest h = (at_any r (h.1, h.2), h.5)

part_leads : (typed : TypedScope) (r s : Reached) (q : Part) (rest : Parts) → Leads typed r (part_of q rest) s → LeadsBehind typed r rest s
part_leads typed r s q rest h =
    let view = fold_out-Part Expression (Parts → Parts) SinkReference expr_step part_step reference_step q in
    step_leads typed r s _ rest (subst (λ (f : Parts → Parts). Leads typed r (f rest) s) view h)

-- those that are passed so far
pub record PartsSoFar (c : CircuitTree) (g : Ground) (typed : TypedScope) (sized : SizedScope) (meant : List Width) (rules : List Rule) (rest : List Note) (end : Reached) (whole left : Parts)
    (old now : Walk) : Type 0 where
  pub here : Reached
  pub leads : Leads typed here left end
  pub spots : List Spot
  pub comes : Comes c g meant rules [] (part_notes typed left ++ rest) spots old now
  pub same_spots : spots_within_parts sized whole ≡ spots ++ spots_within_parts sized left
  pub stays : now.declared ≡ old.declared

module _ (c : CircuitTree) (g : Ground) (typed : TypedScope) (sized : SizedScope) (meant : List Width) (rules : List Rule) (rest : List Note) (end : Reached) (whole : Parts) (old : Walk)
    (enters : Enters g typed sized meant rules (part_notes typed whole ++ rest) old) where
  pub parts_first : (begins : Reached) → Leads typed begins whole end → PartsSoFar c g typed sized meant rules rest end whole whole old old
  parts_first begins leads = record {
    here = begins;
    leads = leads;
    spots = [];
    comes = come_none c g meant rules (part_notes typed whole ++ rest) old enters.keeps enters.ahead;
    same_spots = refl;
    stays = refl;
  }

  pub parts_next : (q : Part) (left : Parts) (now next : Walk) → PartsSoFar c g typed sized meant rules rest end whole (part_of q left) old now
      → ((r : Reached) (before : List Width) (asked : List Rule) → Enters g typed sized before asked (part_notes typed (part_of q left) ++ rest) now
      → Leads typed r (part_of q left) end → ComesPast c g typed sized (part_of q) left before asked rest now next)
      → PartsSoFar c g typed sized meant rules rest end whole left old next
  parts_next q left now next so_far step =
      let here = enters_then c g meant rules [] (part_notes typed (part_of q left) ++ rest) so_far.spots old now so_far.comes typed sized (part_notes typed whole ++ rest) enters in
      let own = step so_far.here (meant ++ so_far.comes.more) (rules ++ []) here so_far.leads in
      let on = part_leads typed so_far.here end q left so_far.leads in
      record {
        here = on.0;
        leads = on.1;
        spots = so_far.spots ++ own.own;
        comes =
            come_then c g meant rules [] (part_notes typed (part_of q left) ++ rest) so_far.spots old now so_far.comes [] (part_notes typed left ++ rest) own.own next own.comes;
        same_spots = so_far.same_spots ∙ ap (λ xs. so_far.spots ++ xs) own.same ∙ sym (append_assoc so_far.spots own.own (spots_within_parts sized left));
        stays = own.stays ∙ so_far.stays;
      }

  -- all parts are passed
  pub record PartsPassed (now : Walk) : Type 0 where
    pub comes : Comes c g meant rules [] rest (spots_within_parts sized whole) old now
    pub behind : Enters g typed sized (meant ++ comes.more) (rules ++ []) rest now
    pub stays : now.declared ≡ old.declared

  pub parts_passed : (left : Parts) (now : Walk) → PartsSoFar c g typed sized meant rules rest end whole left old now → left ≡ no_parts → PartsPassed now
  parts_passed left now so_far none =
      let all = subst (λ l. PartsSoFar c g typed sized meant rules rest end whole l old now) none so_far in
      let spots : all.spots ≡ spots_within_parts sized whole = sym (append-nil all.spots) ∙ sym all.same_spots in
      record {
        comes = subst (λ xs. Comes c g meant rules [] rest xs old now) spots all.comes;
        behind =
            enters_then c g meant rules [] rest (spots_within_parts sized whole) old now (subst (λ xs. Comes c g meant rules [] rest xs old now) spots all.comes) typed sized
            (part_notes typed whole ++ rest) enters;
        stays = all.stays;
      }
