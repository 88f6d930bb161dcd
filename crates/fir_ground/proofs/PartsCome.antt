-- The parts of a reference, one by one.
use Rattle.std.proofs.Common.{◌≡◌, List, [], ◌∷◌, ◌++◌, map, length, refl, sym, ap, ◌∙◌, subst, append_assoc}
use Rattle.std.proofs.lemmas.List.{append-nil, map-append}
use Rattle.fir_ast.specs.declared.place.Place.{Place}
use Rattle.fir_ast.specs.declared.expressions.Expr.{fold-roll-Expr}
use Rattle.fir_ast.specs.declared.expressions.Expr.TheVariants as code_expr
use Rattle.fir_ast.specs.declared.expressions.Expr.TheOpen.{Part-F}
use Rattle.fir_ast.specs.declared.expressions.Expr.TheOpen as layer
use Rattle.fir_ast.specs.declared.expressions.Part.{Part, fold_out-Part}
use Rattle.fir_ast.specs.declared.expressions.Reference.{Reference}
use Rattle.fir_ast.specs.Expressions.{Expression, Parts, no_parts, reference, subaccess}
use Rattle.fir_ast.specs.Statements.{SinkReference}
use Rattle.fir_ast.specs.working.Views.{expr_of, sink_of, expr_step, part_step, reference_step}
use Rattle.fir_meaning.specs.ExpressionPlaces.{place_of}
use Rattle.fir_meaning.specs.Reaching.{Reached, at_any, at_element, at_field}
use Rattle.fir_meaning.specs.TypedScopes.{TypedScope}
use Rattle.fir_meaning.specs.working.WellTyped.{Leads}
use Rattle.fir_names.specs.working.Parts.{part_of}
use Rattle.fir_types.specs.working.Notes.{Note, expression_notes, part_notes}
use Rattle.fir_leaf.specs.declared.node.Node.{Node}
use Rattle.fir_meaning.specs.working.Leafed.{first_term, terms}
use Rattle.fir_leaf.specs.working.Nodes.{Grows, node_term}
use Rattle.fir_ground.specs.declared.ground.Ground.{Ground}
use Rattle.fir_ground.specs.declared.references.Index.{Index as IndexOfCode}
use Rattle.fir_ground.specs.declared.walk.Walk.{Walk}
use Rattle.fir_ground.specs.working.Grounds.{Comes, Enters}
use Rattle.fir_ground.specs.working.Indices.{AreIndices, ComesPast, Index, index_seen, indices_in}
use Rattle.fir_ground.proofs.Chained.{index_keeps}
use Rattle.fir_ground.proofs.Coming.{come_none, come_then, enters_then}
use Rattle.fir_leaf_pairs.proofs.Entries.{grows_length}
use Rattle.fir_ground.proofs.FormsCome.{GivesFirst}
use Rattle.fir_leaf_pairs.proofs.Giving.{below_joined, below_stays}

pub reference_view : (r : Reference) → expr_of (code_expr.Ref r) ≡ reference (sink_of r).place (sink_of r).name (sink_of r).parts
reference_view r = ap expr_of (sym (code_expr.rolls-Ref r)) ∙ fold-roll-Expr Expression (Parts → Parts) SinkReference expr_step part_step reference_step (layer.Ref r)

-- behind a part the others lead on
abbrev LeadsBehind : TypedScope → Reached → Parts → Reached → Type 0
LeadsBehind typed r rest s = (b : Reached) × Leads typed b rest s

step_leads : (typed : TypedScope) (r s : Reached) (q : Part-F Expression (Parts → Parts) SinkReference) (rest : Parts) → Leads typed r (part_step q rest) s → LeadsBehind typed r rest s
step_leads typed r s (layer.Field first p x) rest h = (at_field x r h.0, h.2)
step_leads typed r s (layer.Index first p i) rest h = (at_element i r h.0, h.4)
step_leads typed r s (layer.Access first e) rest h = (at_any r (h.1, h.2), h.5)

part_leads : (typed : TypedScope) (r s : Reached) (q : Part) (rest : Parts) → Leads typed r (part_of q rest) s → LeadsBehind typed r rest s
part_leads typed r s q rest h =
    let view = fold_out-Part Expression (Parts → Parts) SinkReference expr_step part_step reference_step q in
    step_leads typed r s _ rest (subst (λ (f : Parts → Parts). Leads typed r (f rest) s) view h)

-- indices stay what they are
indices_keep : (old new : List Node) (own : List IndexOfCode) → Grows old new → AreIndices old own (map (index_seen old) own) → map (index_seen new) own ≡ map (index_seen old) own
indices_keep old new [] g are = refl
indices_keep old new (i ∷ own) g are =
    ap (λ x. x ∷ map (index_seen new) own) (index_keeps old new i g are.within.0)
    ∙ ap (λ xs. index_seen old i ∷ xs) (indices_keep old new own g (record { within = are.within.1; are = refl }))

indices_stay : (old new : List Node) (own : List IndexOfCode) (meant : List Index) → Grows old new → AreIndices old own meant → AreIndices new own meant
indices_stay old new own meant g are = record {
  within = below_stays (length old) (length new) (map (λ (i : IndexOfCode). i.node) own) (grows_length old new g) are.within;
  are = indices_keep old new own g (record { within = are.within; are = refl }) ∙ are.are;
}

indices_push : (nodes : List Node) (own after : List IndexOfCode) (meant : List Index) (i : IndexOfCode) (x : Index) → AreIndices nodes own meant → AreIndices nodes (i ∷ []) (x ∷ [])
    → after ≡ own ++ i ∷ [] → AreIndices nodes after (meant ++ x ∷ [])
indices_push nodes own after meant i x are one pushed = rw pushed record {
  within =
      rw (map-append (λ (j : IndexOfCode). j.node) own (i ∷ []))
      (below_joined (length nodes) (map (λ (j : IndexOfCode). j.node) own) (i.node ∷ []) are.within one.within);
  are = map-append (index_seen nodes) own (i ∷ []) ∙ ap (λ xs. xs ++ index_seen nodes i ∷ []) are.are ∙ ap (λ xs. meant ++ xs) one.are;
}

module _ (g : Ground) (typed : TypedScope) where
  -- the index of a part
  pub access_comes : (q : Place) (e : Expression) (parts : Parts) (rest : List Note) (r s : Reached) (a b : Walk) (done : List Index) (own after : List IndexOfCode) (i : IndexOfCode)
      → Enters g typed (part_notes typed (subaccess q e parts) ++ rest) a → Leads typed r (subaccess q e parts) s → AreIndices a.nodes.items own done → GivesFirst g typed e a b i.node
      → i.place ≡ place_of e → after ≡ own ++ i ∷ [] → ComesPast g typed (subaccess q e) parts rest a b done after
  access_comes q e parts rest r s a b done own after i enters leads are gives place pushed =
      let begins = subst (λ ns. Enters g typed ns a) (append_assoc (expression_notes typed e) (part_notes typed parts) rest) enters in
      let came = gives _ (part_notes typed parts ++ rest) begins leads.3 in
      let x : Index = record { place = place_of e; term = first_term (terms typed e) } in
      let seen : index_seen b.nodes.items i ≡ x =
      ap (λ p. record { place = p; term = node_term b.nodes.items i.node }) place ∙ ap (λ t. record { place = place_of e; term = t }) came.shows.term in
      record {
        own = x ∷ [];
        same = refl;
        comes = came.comes;
        are =
            indices_push b.nodes.items own after done i x (indices_stay a.nodes.items b.nodes.items own done came.comes.grows are)
            (record { within = (came.shows.within, tt); are = ap (λ y. y ∷ []) seen }) pushed;
      }

-- those that are passed so far
pub record PartsSoFar (g : Ground) (typed : TypedScope) (rest : List Note) (end : Reached) (whole left : Parts) (old now : Walk) (own : List IndexOfCode) : Type 0 where
  pub here : Reached
  pub leads : Leads typed here left end
  pub comes : Comes g (part_notes typed left ++ rest) old now
  pub done : List Index
  pub are : AreIndices now.nodes.items own done
  pub same : indices_in typed whole ≡ done ++ indices_in typed left

module _ (g : Ground) (typed : TypedScope) (rest : List Note) (end : Reached) (whole : Parts) (old : Walk) (enters : Enters g typed (part_notes typed whole ++ rest) old) where
  pub parts_first : (begins : Reached) (own : List IndexOfCode) → Leads typed begins whole end → own ≡ [] → PartsSoFar g typed rest end whole whole old old own
  parts_first begins own leads none = rw none record {
    here = begins;
    leads = leads;
    comes = come_none g (part_notes typed whole ++ rest) old enters.ahead;
    done = [];
    are = record { within = tt; are = refl };
    same = refl;
  }

  pub parts_next : (q : Part) (left : Parts) (now next : Walk) (own after : List IndexOfCode) → PartsSoFar g typed rest end whole (part_of q left) old now own
      → ((r : Reached) (done : List Index) → Enters g typed (part_notes typed (part_of q left) ++ rest) now → Leads typed r (part_of q left) end → AreIndices now.nodes.items own done
      → ComesPast g typed (part_of q) left rest now next done after)
      → PartsSoFar g typed rest end whole left old next after
  parts_next q left now next own after so_far step =
      let here = enters_then g typed (part_notes typed whole ++ rest) (part_notes typed (part_of q left) ++ rest) old now enters so_far.comes in
      let came = step so_far.here so_far.done here so_far.leads so_far.are in
      let on = part_leads typed so_far.here end q left so_far.leads in
      record {
        here = on.0;
        leads = on.1;
        comes = come_then g (part_notes typed (part_of q left) ++ rest) (part_notes typed left ++ rest) old now next so_far.comes came.comes;
        done = so_far.done ++ came.own;
        are = came.are;
        same = so_far.same ∙ ap (λ xs. so_far.done ++ xs) came.same ∙ sym (append_assoc so_far.done came.own (indices_in typed left));
      }

  -- all parts are passed
  pub record PartsPassed (now : Walk) (own : List IndexOfCode) : Type 0 where
    pub comes : Comes g rest old now
    pub behind : Enters g typed rest now
    pub are : AreIndices now.nodes.items own (indices_in typed whole)

  pub parts_passed : (left : Parts) (now : Walk) (own : List IndexOfCode) → PartsSoFar g typed rest end whole left old now own → left ≡ no_parts → PartsPassed now own
  parts_passed left now own so_far none =
      let all = subst (λ l. PartsSoFar g typed rest end whole l old now own) none so_far in
      record {
        comes = all.comes;
        behind = enters_then g typed (part_notes typed whole ++ rest) rest old now enters all.comes;
        are = subst (λ xs. AreIndices now.nodes.items own xs) (sym (all.same ∙ append-nil all.done)) all.are;
      }
