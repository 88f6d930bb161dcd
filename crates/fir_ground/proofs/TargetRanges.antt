-- The target of a reference is the range of its leaves, behind its dynamic indices.
use Rattle.std.proofs.Common.{◌≡◌, ℕ, zero, suc, ◌+◌, ◌*◌, ◌<◌, ◌≤◌, List, [], ◌∷◌, ◌++◌, map, Bool, true, false, if◌then◌else◌, Option, Some, None, nat_lt, refl, sym, ap, ◌∙◌, subst, arith, append_assoc, append-nil}
use Rattle.std.specs.Prelude.{◌&&◌}
use Rattle.std.specs.Str.{bytes_eq}
use Rattle.std.proofs.lemmas.Bool.Decides.{nat_tests}
use Rattle.std.proofs.Math.Nat.{suc-mul}
use Rattle.fir_ast.specs.declared.place.Place.{Place}
use Rattle.fir_ast.specs.Types.{DataType, uint, sint, clock, reset, async_reset, bundle, vector, Fields, no_fields, field}
use Rattle.fir_ast.specs.Expressions.{Parts, no_parts, subfield, subindex, subaccess}
use Rattle.fir_meaning.specs.CostGroup.{cost_limit}
use Rattle.fir_meaning.specs.ExpressionPlaces.{place_of}
use Rattle.fir_meaning.specs.Reaching.{Reached, at_any, at_element, at_field, field_of_type, vector_of_type}
use Rattle.fir_meaning.specs.TypedScopes.{TypedScope}
use Rattle.fir_meaning.specs.TypeKinds.{FieldFound, field_named}
use Rattle.fir_meaning.specs.TypeLeaves.{field_count, leaf_count}
use Rattle.fir_meaning.specs.working.WellTyped.{Leads}
use Rattle.fir_type_table.specs.working.Saturated.{saturated}
use Rattle.fir_meaning.specs.working.FieldSizes.{leaves_before, leaves_before_field}
use Rattle.fir_types.specs.working.Noted.{saturated_pick}
use Rattle.fir_types.specs.working.Notes.{LeafRange, Pick, element_range, field_range, picked_range, range_behind}
use Rattle.fir_meaning.specs.working.Leafed.{first_term, target_along, terms}
use Rattle.fir_meaning.specs.working.Targets.{Target, element_target_at, field_target_at, further, picked_target_at, stride_from}
use Rattle.fir_meaning.specs.working.Terms.{Picks, Term, pick}
use Rattle.fir_ground.specs.working.Indices.{Index, indices_in, pick_behind, picks_behind, stride_where, there_behind}

-- a number where all vectors have elements
abbrev pub based : Bool → ℕ → Option ℕ
based there n = if there then Some n else None

-- a part of a type has no more leaves than the type
field_room_in : (x : List ℕ) (fs : Fields) (f : FieldFound) → field_named x fs ≡ Some f → leaves_before_field x fs + leaf_count f.data_type ≤ field_count fs
field_room_in x no_fields f h = absurd (cc)
field_room_in x (field p flip y begins t rest) f h = by (bytes_eq y x) h (field_room_in x rest f)
  where
    by : (b : Bool) → (if b then Some (record { flip = flip; data_type = t }) else field_named x rest) ≡ Some f
        → (field_named x rest ≡ Some f → leaves_before_field x rest + leaf_count f.data_type ≤ field_count rest)
        → (if b then 0 else leaf_count t + leaves_before_field x rest) + leaf_count f.data_type ≤ leaf_count t + field_count rest
    by true h later =
        let one : FieldFound = record { flip = flip; data_type = t } in
        let same : one ≡ f = cc in
        let here : leaf_count t ≡ leaf_count f.data_type = ap (λ (g : FieldFound). leaf_count g.data_type) same in
        omega arith
    by false h later = omega (arith, later h)

field_room : (x : List ℕ) (t : DataType) (f : FieldFound) → field_of_type x t ≡ Some f → leaves_before x t + leaf_count f.data_type ≤ leaf_count t
field_room x (bundle fs) f h = field_room_in x fs f h
field_room x (uint w) f h = absurd (cc)
field_room x (sint w) f h = absurd (cc)
field_room x clock f h = absurd (cc)
field_room x reset f h = absurd (cc)
field_room x async_reset f h = absurd (cc)
field_room x (vector t n) f h = absurd (cc)

vector_count : (t u : DataType) (n : ℕ) → vector_of_type t ≡ Some (u, n) → leaf_count t ≡ n * leaf_count u
vector_count (vector t m) u n h =
    let same : (t, m) ≡ (u, n) = cc in
    ap (λ (v : DataType × ℕ). v.1 * leaf_count v.0) same
vector_count (bundle fs) u n h = absurd (cc)
vector_count (uint w) u n h = absurd (cc)
vector_count (sint w) u n h = absurd (cc)
vector_count clock u n h = absurd (cc)
vector_count reset u n h = absurd (cc)
vector_count async_reset u n h = absurd (cc)

element_room : (i n k : ℕ) → i < n → i * k + k ≤ n * k
element_room i zero k lt = absurd (omega arith)
element_room zero (suc n) k lt = omega (arith, suc-mul n k)
element_room (suc i) (suc n) k lt = omega (arith, suc-mul i k, suc-mul n k, element_room i n k (omega arith))

-- what is reached, as a target and as a range
pub record Here (first total : ℕ) (there : Bool) (ps : Picks) (t : Target) (range : LeafRange) (u : DataType) : Type 0 where
  pub base : t.base ≡ based there (first + range.offset)
  pub picks : t.picks ≡ ps
  pub data_type : t.data_type ≡ u
  pub same_type : range.data_type ≡ u
  pub room : there ≡ true → range.offset + leaf_count u ≤ total

-- and behind parts
pub record Along (first total : ℕ) (there : Bool) (ps : Picks) (declaration : ℕ) (done : List Pick) (is : List Index) (end : Target) (range : LeafRange) (u : DataType) : Type 0 where
  pub picked : List Pick
  pub grown : range.picks ≡ done ++ picked
  pub declared : range.declaration ≡ declaration
  pub range_type : range.data_type ≡ u
  pub base : end.base ≡ based (there_behind there is (map saturated_pick picked)) (first + range.offset)
  pub picks : end.picks ≡ picks_behind there ps is (map saturated_pick picked)
  pub data_type : end.data_type ≡ u
  pub room : there_behind there is (map saturated_pick picked) ≡ true → range.offset + leaf_count u ≤ total

further_based : (there : Bool) (a n : ℕ) → further n (based there a) ≡ based there (a + n)
further_based true a n = refl
further_based false a n = refl

module _ (first total : ℕ) (small : total ≤ cost_limit) where
  field_here : (there : Bool) (ps : Picks) (t : Target) (range : LeafRange) (u : DataType) (x : List ℕ) (f : FieldFound) → Here first total there ps t range u → field_of_type x u ≡ Some f
      → Here first total there ps (field_target_at x t (Some f)) (field_range x range (Some f)) f.data_type
  field_here there ps t range u x f here has =
      let n = leaves_before x t.data_type in
      let m = leaves_before x range.data_type in
      let same : n ≡ m = ap (leaves_before x) (here.data_type ∙ sym here.same_type) in
      let count : m ≡ leaves_before x u = ap (leaves_before x) here.same_type in
      let next : (first + range.offset) + n ≡ first + (range.offset + m) = omega arith in
      record {
        base = ap (further n) here.base ∙ further_based there (first + range.offset) n ∙ ap (based there) next;
        picks = here.picks;
        data_type = refl;
        same_type = refl;
        room = λ is. omega (arith, here.room is, field_room x u f has, count);
      }

  element_here : (there : Bool) (ps : Picks) (t : Target) (range : LeafRange) (u e : DataType) (n i : ℕ) → Here first total there ps t range u → vector_of_type u ≡ Some (e, n) → i < n
      → Here first total there ps (element_target_at i t (Some (e, n))) (element_range i range (Some (e, n))) e
  element_here there ps t range u e n i here has lt =
      let k = i * leaf_count e in
      let next : (first + range.offset) + k ≡ first + (range.offset + k) = omega arith in
      record {
        base = ap (further k) here.base ∙ further_based there (first + range.offset) k ∙ ap (based there) next;
        picks = here.picks;
        data_type = refl;
        same_type = refl;
        room = λ is. omega (arith, here.room is, element_room i n (leaf_count e) lt, vector_count u e n has);
      }

  -- behind a dynamic index, whether there are elements or not
  base_there : (there some : Bool) (o : Option ℕ) (k : ℕ) → o ≡ based there k → (if some then o else None) ≡ based (there && some) k
  base_there true true o k is = is
  base_there false true o k is = is
  base_there true false o k is = refl
  base_there false false o k is = refl

  stride_there : (there : Bool) (o : Option ℕ) (k each : ℕ) → o ≡ based there k → (there ≡ true → each ≤ cost_limit) → stride_from o each ≡ stride_where there (saturated each)
  stride_there true o k each is fits =
      let le : each ≤ cost_limit = fits refl in
      let exact : each ≡ saturated each = omega arith in
      ap (λ b. stride_from b each) is ∙ exact
  stride_there false o k each is fits = ap (λ b. stride_from b each) is

  both : (there : Bool) (n : ℕ) → (there && nat_lt 0 n) ≡ true → (there ≡ true) × (0 < n)
  both true n is = (refl, grind (arith, nat_tests))
  both false n is = absurd (cc)

  any_here : (there : Bool) (ps : Picks) (t : Target) (range : LeafRange) (u e : DataType) (n : ℕ) (p : Place) (index : Term) → Here first total there ps t range u
      → vector_of_type u ≡ Some (e, n)
      → Here first total (there && nat_lt 0 n) (pick_behind there ps (record { place = p; term = index }) (saturated_pick (record { stride = leaf_count e; length = n })))
      (picked_target_at p index t (Some (e, n))) (picked_range range (Some (e, n))) e
  any_here there ps t range u e n p index here has =
      let now = there && nat_lt 0 n in
      let base : (if nat_lt 0 n then t.base else None) ≡ based now (first + range.offset) = base_there there (nat_lt 0 n) t.base (first + range.offset) here.base in
      let room : now ≡ true → range.offset + leaf_count e ≤ total = λ is.
      let parts = both there n is in
      omega (arith, here.room parts.0, element_room 0 n (leaf_count e) parts.1, vector_count u e n has) in
      let stride = stride_there now (if nat_lt 0 n then t.base else None) (first + range.offset) (leaf_count e) base (λ is. omega (arith, room is, small)) in
      record {
        base = base;
        picks = ap (λ k. pick t.picks p index n k) stride ∙ ap (λ qs. pick qs p index n (stride_where now (saturated (leaf_count e)))) here.picks;
        data_type = refl;
        same_type = refl;
        room = room;
      }

  along_none : (there : Bool) (ps : Picks) (t : Target) (range : LeafRange) (u : DataType) → Here first total there ps t range u
      → Along first total there ps range.declaration range.picks [] t range u
  along_none there ps t range u here = record {
    picked = [];
    grown = sym (append-nil range.picks);
    declared = refl;
    range_type = here.same_type;
    base = here.base;
    picks = here.picks;
    data_type = here.data_type;
    room = here.room;
  }

  along_pick : (there : Bool) (ps : Picks) (declaration : ℕ) (done : List Pick) (i : Index) (p : Pick) (is : List Index) (end : Target) (range : LeafRange) (u : DataType)
      → Along first total (there && nat_lt 0 p.length) (pick_behind there ps i (saturated_pick p)) declaration (done ++ p ∷ []) is end range u
      → Along first total there ps declaration done (i ∷ is) end range u
  along_pick there ps declaration done i p is end range u later = record {
    picked = p ∷ later.picked;
    grown = later.grown ∙ append_assoc done (p ∷ []) later.picked;
    declared = later.declared;
    range_type = later.range_type;
    base = later.base;
    picks = later.picks;
    data_type = later.data_type;
    room = later.room;
  }

  module _ (typed : TypedScope) where
    pub along : (there : Bool) (ps : Picks) (t : Target) (range : LeafRange) (r s : Reached) (parts : Parts) → Here first total there ps t range r.data_type → Leads typed r parts s
        → Along first total there ps range.declaration range.picks (indices_in typed parts) (target_along typed t parts) (range_behind range parts) s.data_type
    along there ps t range r s no_parts here leads =
        subst (λ (z : Reached). Along first total there ps range.declaration range.picks [] t range z.data_type) (sym leads) (along_none there ps t range r.data_type here)
    along there ps t range r s (subfield begins q x rest) here leads =
        let f = leads.0 in
        let of_target : field_of_type x t.data_type ≡ Some f = ap (field_of_type x) here.data_type ∙ leads.1 in
        let of_range : field_of_type x range.data_type ≡ Some f = ap (field_of_type x) here.same_type ∙ leads.1 in
        let own = along there ps (field_target_at x t (Some f)) (field_range x range (Some f)) (at_field x r f) s rest (field_here there ps t range r.data_type x f here leads.1) leads.2 in
        let is = indices_in typed rest in
        subst (λ o. Along first total there ps range.declaration range.picks is (target_along typed (field_target_at x t o) rest) (range_behind (field_range x range (field_of_type x range.data_type)) rest) s.data_type)
        (sym of_target)
        (subst (λ o. Along first total there ps range.declaration range.picks is (target_along typed (field_target_at x t (Some f)) rest) (range_behind (field_range x range o) rest) s.data_type)
        (sym of_range) own)
    along there ps t range r s (subindex begins q i rest) here leads =
        let e = leads.0 in
        let n = leads.1 in
        let of_target : vector_of_type t.data_type ≡ Some (e, n) = ap vector_of_type here.data_type ∙ leads.2 in
        let of_range : vector_of_type range.data_type ≡ Some (e, n) = ap vector_of_type here.same_type ∙ leads.2 in
        let own =
        along there ps (element_target_at i t (Some (e, n))) (element_range i range (Some (e, n))) (at_element i r e) s rest (element_here there ps t range r.data_type e n i here leads.2 leads.3)
        leads.4 in
        let is = indices_in typed rest in
        subst (λ o. Along first total there ps range.declaration range.picks is (target_along typed (element_target_at i t o) rest) (range_behind (element_range i range (vector_of_type range.data_type)) rest) s.data_type)
        (sym of_target)
        (subst (λ o. Along first total there ps range.declaration range.picks is (target_along typed (element_target_at i t (Some (e, n))) rest) (range_behind (element_range i range o) rest) s.data_type)
        (sym of_range) own)
    along there ps t range r s (subaccess begins index rest) here leads =
        let e = leads.1 in
        let n = leads.2 in
        let p = place_of index in
        let term = first_term (terms typed index) in
        let elements : Pick = record { stride = leaf_count e; length = n } in
        let i : Index = record { place = p; term = term } in
        let of_target : vector_of_type t.data_type ≡ Some (e, n) = ap vector_of_type here.data_type ∙ leads.4 in
        let of_range : vector_of_type range.data_type ≡ Some (e, n) = ap vector_of_type here.same_type ∙ leads.4 in
        let next = any_here there ps t range r.data_type e n p term here leads.4 in
        let later =
        along (there && nat_lt 0 n) (pick_behind there ps i (saturated_pick elements)) (picked_target_at p term t (Some (e, n))) (picked_range range (Some (e, n))) (at_any r (e, n)) s rest next leads.5 in
        let is = indices_in typed rest in
        let own =
        along_pick there ps range.declaration range.picks i elements is (target_along typed (picked_target_at p term t (Some (e, n))) rest) (range_behind (picked_range range (Some (e, n))) rest)
        s.data_type later in
        subst (λ o. Along first total there ps range.declaration range.picks (i ∷ is) (target_along typed (picked_target_at p term t o) rest) (range_behind (picked_range range (vector_of_type range.data_type)) rest) s.data_type)
        (sym of_target)
        (subst (λ o. Along first total there ps range.declaration range.picks (i ∷ is) (target_along typed (picked_target_at p term t (Some (e, n))) rest) (range_behind (picked_range range o) rest) s.data_type)
        (sym of_range) own)
