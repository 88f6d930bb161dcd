-- Each leaf that a target names may be driven exactly where the flow that its reference reaches is no source there.
use Rattle.std.proofs.Common.{◌≡◌, ℕ, zero, suc, ◌+◌, ◌*◌, ◌<◌, List, [], ◌∷◌, ◌++◌, map, Bool, true, false, not, nat_lt, if◌then◌else◌, slice_get, Option, Some, None, option_map, refl, sym, ap, ◌∙◌, subst, inl, inr, arith}
use Rattle.std.specs.Str.{bytes_eq}
use Rattle.std.proofs.lemmas.Bool.{false_from_ne_true}
use Rattle.std.proofs.lemmas.Option.{none-some, same_Some}
use Rattle.fir_base.specs.Lists.{Distinct, In}
use Rattle.fir_base.proofs.Elements.{get_in}
use Rattle.fir_base.proofs.Members.{in_flat_map, in_flat_map_from, in_left, in_map}
use Rattle.fir_ast.specs.declared.place.Place.{Place}
use Rattle.fir_ast.specs.Expressions.{Parts, no_parts, subaccess, subfield, subindex}
use Rattle.fir_ast.specs.Statements.{SinkReference}
use Rattle.fir_ast.specs.Types.{DataType, bundle, vector}
use Rattle.fir_meaning.specs.ExpressionPlaces.{place_of}
use Rattle.fir_meaning.specs.Flows.{Flow, both, flow_under, is_source, sink, source}
use Rattle.fir_meaning.specs.FoundTypes.{leaves_of_data}
use Rattle.fir_meaning.specs.LeafPaths.{LeafPath, Step, element, named}
use Rattle.fir_meaning.specs.ModuleScenes.{Scene}
use Rattle.fir_meaning.specs.Reaching.{Reached, at_any, at_element, at_field, field_of_type, known_reached, vector_of_type}
use Rattle.fir_meaning.specs.ResetJoins.{type_of_known}
use Rattle.fir_meaning.specs.SamePaths.{same_path}
use Rattle.fir_meaning.specs.SourceFacts.{driven_of, driven_under, flip_on, source_may_drive}
use Rattle.fir_meaning.specs.TypeKinds.{FieldFound}
use Rattle.fir_meaning.specs.TypeLeaves.{TypeLeaf, leaf_count, turned, type_leaves, under}
use Rattle.fir_meaning.specs.TypedScopes.{Known, TypedScope, known}
use Rattle.fir_meaning.specs.working.FieldSizes.{leaves_before}
use Rattle.fir_meaning.specs.working.Leafed.{first_term, target_along, target_of, terms}
use Rattle.fir_meaning.specs.working.Targets.{Target, element_target, leaves_ahead, field_target, further, named_target, picked_target, stride_from}
use Rattle.fir_meaning.specs.working.TermReads.{multiples, reached}
use Rattle.fir_meaning.specs.working.Terms.{Picks, Term, no_picks, pick}
use Rattle.fir_meaning.specs.working.WellTyped.{Leads, Reaches}
use Rattle.fir_meaning.proofs.DistinctLeaves.{paths_distinct}
use Rattle.fir_leaf.specs.working.LeafLaws.{Begins, path_at}
use Rattle.fir_leaf.proofs.LeafPlaces.{StandsFrom, element_stands_from, field_stands_from}
use Rattle.fir_leaf.proofs.NamedPlaces.{path_of_named}
use Rattle.fir_leaf.proofs.OneStore.{path_is, path_same}
use Rattle.fir_design.proofs.FineScenes.{IsFineScene, whole_scope}
use Rattle.fir_source_faults.specs.working.ReadsByPath.{leaves_from, leaves_of_target}
use Rattle.fir_design_faults.proofs.MovedReads.{from_multiples}

-- where no path stands twice, each leaf is found by its path
pub flip_alone : (ls : List TypeLeaf) → Distinct (map (λ (l : TypeLeaf). l.path) ls) → (l : TypeLeaf) → In ls l
    → flip_on ls l.path ≡ Some l.flip
flip_alone [] d l m = absurd m
flip_alone (x ∷ ls) d l (inl e) = subst (λ (y : TypeLeaf). flip_on (x ∷ ls) y.path ≡ Some y.flip) e (rw (path_same x.path) refl)
flip_alone (x ∷ ls) d l (inr m) =
    let apart : same_path x.path l.path ≡ false =
    false_from_ne_true (same_path x.path l.path)
    (λ t.
    d.0
    (subst (In (map (λ (y : TypeLeaf). y.path) ls)) (sym (path_is x.path l.path t)) (in_map (λ (y : TypeLeaf). y.path) ls l m))) in
    rw apart (flip_alone ls d.1 l m)

-- a name that is known stays known so
known_there : (scope more : TypedScope) (name : List ℕ) (k : Known) → known scope name ≡ Some k → (known (scope ++ more) name ≡ Some k) × In scope k
known_there [] more name k e = absurd (none-some k e)
known_there (x ∷ scope) more name k e = by (bytes_eq x.name name) refl e (known_there scope more name k)
  where
    by : (b : Bool) → bytes_eq x.name name ≡ b → (if b then Some x else known scope name) ≡ Some k
        → (known scope name ≡ Some k → (known (scope ++ more) name ≡ Some k) × In scope k)
        → (known ((x ∷ scope) ++ more) name ≡ Some k) × In (x ∷ scope) k
    by true t h rest = (rw t h, inl (same_Some x k h))
    by false t h rest = let r = rest h in (rw t r.0, inr r.1)

flow_behind : (f g : Bool) (w : Flow) → flow_under (turned f g) w ≡ flow_under g (flow_under f w)
flow_behind true true source = refl
flow_behind true true sink = refl
flow_behind true true both = refl
flow_behind true false source = refl
flow_behind true false sink = refl
flow_behind true false both = refl
flow_behind false true w = refl
flow_behind false false w = refl

leaves_further : (o : Option ℕ) (n k : ℕ) (ps : Picks) → leaves_from (further n o) ps k ≡ leaves_from o ps (n + k)
leaves_further None n k ps = refl
leaves_further (Some b) n k ps = let same : (b + n) + k ≡ b + (n + k) = omega arith in ap (λ z. reached z ps) same

before_further : (o : Option ℕ) (n b : ℕ) → further n o ≡ Some b → (first : ℕ) × (o ≡ Some first)
before_further None n b e = absurd (cc)
before_further (Some first) n b e = (first, refl)

in_multiples : (i k n each y : ℕ) → i < n → y ≡ k + i * each → In (multiples k n each) y
unfolding multiples
in_multiples i k zero each y lt e = absurd (omega (arith, lt))
in_multiples zero k (suc n) each y lt e = inl (omega (arith, e))
in_multiples (suc i) k (suc n) each y lt e =
    inr (in_multiples i (k + each) n each y (omega (arith, lt)) (let far : k + suc i * each ≡ (k + each) + i * each = grind arith in e ∙ far))

reached_more : (b d y : ℕ) (ps : Picks) → In (reached b ps) y → In (reached (b + d) ps) (y + d)
reached_more b d y no_picks (inl e) = inl (ap (λ z. z + d) e)
reached_more b d y no_picks (inr m) = absurd m
reached_more b d y (pick ps p i n each) m =
    let r = in_flat_map_from (λ k. multiples k n each) (reached b ps) y m in
    let at = from_multiples r.0 n each y r.2 in
    in_flat_map (λ k. multiples k n each) (reached (b + d) ps) (r.0 + d) (y + d) (reached_more b d r.0 ps r.1)
    (in_multiples at.0 (r.0 + d) n each (y + d) at.1 (omega (arith, at.2)))

only_one : (x y : ℕ) → In (x ∷ []) y → x ≡ y
only_one x y (inl e) = e
only_one x y (inr m) = absurd m

element_part : (t u : DataType) (n i : ℕ) → vector_of_type t ≡ Some (u, n) → i < n
    → StandsFrom (type_leaves t) (i * leaf_count u) false (element i) (type_leaves u)
element_part (vector t m) u n i h lt =
    let same : ◌≡◌ {A = DataType × ℕ} (t, m) (u, n) = cc in
    let is : t ≡ u = ap (λ (v : DataType × ℕ). v.0) same in
    let long : m ≡ n = ap (λ (v : DataType × ℕ). v.1) same in
    let less : i < m = omega arith in
    rw (← is) (element_stands_from t m i less)
element_part t u n i h lt = absurd (cc)

module _ (s : Scene) (f : IsFineScene s) where
  abbrev pub MayBe : ℕ → Bool
  MayBe y = source_may_drive s (path_at (whole_scope s) y)

  -- what a target names, beside what its reference reaches
  pub record Flows (r : Target) (z : Reached) : Type 0 where
    pub data_type : r.data_type ≡ z.data_type
    pub there : (b : ℕ) → r.base ≡ Some b → (path : LeafPath) × (z.path ≡ Some path)
    pub each :
        (k : ℕ) (l : TypeLeaf) (y : ℕ) → slice_get (type_leaves r.data_type) k ≡ Some l → In (leaves_of_target r k) y
        → source_may_drive s (path_at (whole_scope s) y) ≡ not (is_source (flow_under l.flip z.flow))

  module _ (scope : TypedScope) (front : Begins scope (whole_scope s)) where
    named_flows : (name : List ℕ) (z : Reached) → known_reached (known scope name) ≡ Some z → Flows (named_target scope name) z
    named_flows name z h = by (known scope name) refl h
      where
        alone : (k : Known) (t : DataType) → known scope name ≡ Some k → k.data_type ≡ Some t → (j : ℕ) (l : TypeLeaf)
            → slice_get (type_leaves t) j ≡ Some l → driven_of (known (whole_scope s) name) l.path ≡ not (is_source (flow_under l.flip k.flow))
        alone k t is has j l e =
            let there = known_there scope front.0 name k is in
            let among : In (whole_scope s) k = subst (λ ks. In ks k) front.1 (in_left scope front.0 k there.1) in
            let found : known (whole_scope s) name ≡ Some k = ap (λ ks. known ks name) (sym front.1) ∙ there.0 in
            let flip : flip_on (leaves_of_data k.data_type) l.path ≡ Some l.flip =
            ap (λ o. flip_on (leaves_of_data o) l.path) has
            ∙ flip_alone (type_leaves t) (paths_distinct t (f.fine.fields k t among has)) l (get_in (type_leaves t) j l e) in
            ap (λ o. driven_of o l.path) found ∙ ap (driven_under k.flow) flip

        typed : (k : Known) (t : DataType) → known scope name ≡ Some k → k.data_type ≡ Some t
            → record { data_type = t; flow = k.flow; path = Some (named k.name ∷ []) } ≡ z → Flows (named_target scope name) z
        typed k t is has e =
            let type_is : type_of_known (known scope name) ≡ Some t = ap type_of_known is ∙ has in
            subst (Flows (named_target scope name)) e
            (rw type_is
            (record {
              data_type = refl;
              there = λ b q. (named k.name ∷ [], refl);
              each = λ j l y q m.
                  ap (λ v. source_may_drive s (path_at (whole_scope s) v)) (sym (only_one (leaves_ahead scope name + j) y m))
                  ∙ ap (source_may_drive s) (path_of_named scope (whole_scope s) name t front type_is j l q) ∙ alone k t is has j l q;
            }))

        by : (o : Option Known) → known scope name ≡ o → known_reached o ≡ Some z → Flows (named_target scope name) z
        by None is e = absurd (none-some z e)
        by (Some k) is e = of_type k.data_type refl e
          where
            of_type : (o : Option DataType) → k.data_type ≡ o
                → option_map (λ t. record { data_type = t; flow = k.flow; path = Some (named k.name ∷ []) }) o ≡ Some z → Flows (named_target scope name) z
            of_type None has q = absurd (none-some z q)
            of_type (Some t) has q = typed k t is has (same_Some (record { data_type = t; flow = k.flow; path = Some (named k.name ∷ []) }) z q)

  -- a part of a type, whose leaves stand in a row behind one step
  part_flows : (r : Target) (z : Reached) (n : ℕ) (flip : Bool) (st : Step) (u : DataType) (path : Option LeafPath)
      → StandsFrom (type_leaves r.data_type) n flip st (type_leaves u) → ((q : LeafPath) → z.path ≡ Some q → (p : LeafPath) × (path ≡ Some p)) → Flows r z
      → Flows (record { base = further n r.base; picks = r.picks; data_type = u })
      (record { data_type = u; flow = flow_under flip z.flow; path = path })
  part_flows r z n flip st u path part to h = record {
    data_type = refl;
    there = λ b e.
        let before = before_further r.base n b e in
        let q = h.there before.0 before.1 in
        to q.0 q.1;
    each = λ k l y e m.
        h.each (n + k) (under flip st l) y (part.each k l e) (subst (λ ys. In ys y) (leaves_further r.base n k r.picks) m)
        ∙ ap (λ w. not (is_source w)) (flow_behind flip l.flip z.flow);
  }

  any_path : (z : Reached) (step : Step) (q : LeafPath) → z.path ≡ Some q → (p : LeafPath) × (option_map (λ path. path ++ step ∷ []) z.path ≡ Some p)
  any_path z step q e = (q ++ step ∷ [], ap (option_map (λ path. path ++ step ∷ [])) e)

  field_flows : (x : List ℕ) (g : FieldFound) (r : Target) (z : Reached) → field_of_type x z.data_type ≡ Some g → Flows r z
      → Flows (field_target x r) (at_field x z g)
  field_flows x g r z h flows =
      let found : field_of_type x r.data_type ≡ Some g = ap (field_of_type x) flows.data_type ∙ h in
      rw found (part_flows r z (leaves_before x r.data_type) g.flip (named x) g.data_type (at_field x z g).path (by r.data_type found) (any_path z (named x)) flows)
    where
      by : (t : DataType) → field_of_type x t ≡ Some g → StandsFrom (type_leaves t) (leaves_before x t) g.flip (named x) (type_leaves g.data_type)
      by (bundle fs) e = field_stands_from fs x g e
      by t e = absurd (cc)

  element_flows : (i : ℕ) (u : DataType) (n : ℕ) (r : Target) (z : Reached) → vector_of_type z.data_type ≡ Some (u, n) → i < n → Flows r z
      → Flows (element_target i r) (at_element i z u)
  element_flows i u n r z h lt flows =
      let found : vector_of_type r.data_type ≡ Some (u, n) = ap vector_of_type flows.data_type ∙ h in
      rw found
      (part_flows r z (i * leaf_count u) false (element i) u (at_element i z u).path (element_part r.data_type u n i found lt) (any_path z (element i)) flows)

  -- the elements that an index may pick
  picked_flows : (p : Place) (index : Term) (u : DataType) (n : ℕ) (r : Target) (z : Reached) → vector_of_type z.data_type ≡ Some (u, n) → Flows r z
      → Flows (picked_target p index r) (at_any z (u, n))
  picked_flows p index u n r z h flows =
      let found : vector_of_type r.data_type ≡ Some (u, n) = ap vector_of_type flows.data_type ∙ h in
      rw found (by (nat_lt 0 n) found)
    where
      of_base : (o : Option ℕ) → r.base ≡ o → vector_of_type r.data_type ≡ Some (u, n) → (k : ℕ) (l : TypeLeaf) (y : ℕ) → slice_get (type_leaves u) k ≡ Some l
          → In (leaves_from o (pick r.picks p index n (stride_from o (leaf_count u))) k) y
          → source_may_drive s (path_at (whole_scope s) y) ≡ not (is_source (flow_under l.flip z.flow))
      of_base None e found k l y is m = absurd m
      of_base (Some b) e found k l y is m =
          let from = in_flat_map_from (λ q. multiples q n (leaf_count u)) (reached (b + k) r.picks) y m in
          let at = from_multiples from.0 n (leaf_count u) y from.2 in
          let far : In (reached ((b + k) + at.0 * leaf_count u) r.picks) (from.0 + at.0 * leaf_count u) =
          reached_more (b + k) (at.0 * leaf_count u) from.0 r.picks from.1 in
          let same : (b + k) + at.0 * leaf_count u ≡ b + (at.0 * leaf_count u + k) = omega arith in
          let mine : In (leaves_of_target r (at.0 * leaf_count u + k)) y =
          subst (λ o. In (leaves_from o r.picks (at.0 * leaf_count u + k)) y) (sym e)
          (subst (λ v. In (reached (b + (at.0 * leaf_count u + k)) r.picks) v) (sym at.2) (subst (λ v. In (reached v r.picks) (from.0 + at.0 * leaf_count u)) same far)) in
          flows.each (at.0 * leaf_count u + k) (under false (element at.0) l) y ((element_part r.data_type u n at.0 found at.1).each k l is) mine

      by : (t : Bool) → vector_of_type r.data_type ≡ Some (u, n)
          → Flows
          (record {
            base = if t then r.base else None;
            picks = pick r.picks p index n (stride_from (if t then r.base else None) (leaf_count u));
            data_type = u;
          }) (record { data_type = u; flow = z.flow; path = if t then option_map (λ path. path ++ element 0 ∷ []) z.path else None })
      by true found = record {
        data_type = refl;
        there = λ b e. let q = flows.there b e in any_path z (element 0) q.0 q.1;
        each = λ k l y is m. of_base r.base refl found k l y is m;
      }
      by false found = record {
        data_type = refl;
        there = λ b e. absurd (cc);
        each = λ k l y is m. absurd m;
      }

  module _ (scope : TypedScope) (front : Begins scope (whole_scope s)) where
    parts_flows : (ps : Parts) (begins z : Reached) (r : Target) → Leads scope begins ps z → Flows r begins → Flows (target_along scope r ps) z
    parts_flows no_parts begins z r h flows = subst (Flows r) (sym h) flows
    parts_flows (subfield first q x rest) begins z r h flows =
        parts_flows rest (at_field x begins h.0) z (field_target x r) h.2 (field_flows x h.0 r begins h.1 flows)
    parts_flows (subindex first q i rest) begins z r h flows =
        parts_flows rest (at_element i begins h.0) z (element_target i r) h.4 (element_flows i h.0 h.1 r begins h.2 h.3 flows)
    parts_flows (subaccess first e rest) begins z r h flows =
        let index = first_term (terms scope e) in
        parts_flows rest (at_any begins (h.1, h.2)) z (picked_target (place_of e) index r) h.5 (picked_flows (place_of e) index h.1 h.2 r begins h.4 flows)

    pub sink_flows : (x : SinkReference) (z : Reached) → Reaches scope x z → Flows (target_of scope x) z
    sink_flows x z h = parts_flows x.parts h.0 z (named_target scope x.name) h.2 (named_flows scope front x.name h.0 h.1)
