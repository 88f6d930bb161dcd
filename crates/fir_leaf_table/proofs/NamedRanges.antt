-- A reference that reaches something leads to the leaves that it is said to name: their number behind the declaration's first, and their paths.
use Rattle.std.proofs.Common.{◌≡◌, ℕ, ◌+◌, ◌<◌, List, [], ◌∷◌, ◌++◌, Bool, true, false, ◌&&◌, if◌then◌else◌, Option, Some, None, refl, sym, ap, ◌∙◌, subst}
use Rattle.std.specs.Prelude.{nat_lt, option_map}
use Rattle.std.proofs.lemmas.Bool.{ltb-true}
use Rattle.std.proofs.lemmas.Option.{same_Some}
use Rattle.fir_base.proofs.Tests.{both}
use Rattle.fir_ast.specs.declared.place.Place.{Place}
use Rattle.fir_ast.specs.Types.{DataType}
use Rattle.fir_ast.specs.Expressions.{Parts, no_parts, subfield, subindex, subaccess}
use Rattle.fir_ast.specs.Statements.{SinkReference}
use Rattle.fir_meaning.specs.Checked.{Checked}
use Rattle.fir_meaning.specs.ExpressionTypes.{access_form, along_parts, condition_form, expression_type, field_form, index_form, reaching}
use Rattle.fir_meaning.specs.ExpressionPlaces.{place_of}
use Rattle.fir_meaning.specs.LeafPaths.{LeafPath, element, named}
use Rattle.fir_meaning.specs.Reaching.{Reached, at_any, at_element, at_field, field_of_type, further, root, vector_of_type}
use Rattle.fir_meaning.specs.TypeKinds.{FieldFound}
use Rattle.fir_meaning.specs.TypeLeaves.{leaf_count}
use Rattle.fir_meaning.specs.TypedScopes.{Known, TypedScope, known}
use Rattle.fir_meaning.specs.working.FieldSizes.{shared_before}
use Rattle.fir_types.specs.working.Notes.{LeafRange, Pick, element_range, field_range, known_range, picked_range, position_of, range_behind, range_where, root_range, whole_range}
use Rattle.fir_ground.specs.working.ResetKinds.{all_there, sink_range}
use Rattle.fir_leaf_table.proofs.ReachedLeaves.{IsBelow, element_below, field_below, whole, whole_below}
use Rattle.fir_leaf_table.proofs.ReachedParts.{any_from, begins_with, element_from, field_from, root_from}

-- the leaves that are named belong to what is reached; no path leads below a vector without elements
pub record IsNamed (t : DataType) (n : List ℕ) (declaration : ℕ) (range : LeafRange) (r : Reached) : Type 0 where
  pub declared : range.declaration ≡ declaration
  pub data_type : range.data_type ≡ r.data_type
  pub below : all_there range.picks ≡ true → IsBelow t n range.shared_offset r
  pub nowhere : all_there range.picks ≡ false → r.path ≡ None

all_more : (ps : List Pick) (p : Pick) → all_there (ps ++ p ∷ []) ≡ (all_there ps && nat_lt 0 p.length)
all_more [] p = by (nat_lt 0 p.length)
  where
    by : (b : Bool) → (b && true) ≡ (true && b)
    by true = refl
    by false = refl
all_more (x ∷ ps) p = ap (λ b. nat_lt 0 x.length && b) (all_more ps p) ∙ by (nat_lt 0 x.length) (all_there ps) (nat_lt 0 p.length)
  where
    by : (a b c : Bool) → (a && (b && c)) ≡ ((a && b) && c)
    by true b c = refl
    by false b c = refl

-- a test of two that fails, of which the second leaves nothing
none_left : (a b : Bool) (o : Option LeafPath) → (a && b) ≡ false → (a ≡ false → o ≡ None) → (if b then o else None) ≡ None
none_left a false o h gone = refl
none_left true true o h gone = cc
none_left false true o h gone = gone refl

module _ (t : DataType) (n : List ℕ) (declaration : ℕ) where
  field_named : (x : List ℕ) (range : LeafRange) (b : Reached) (f : FieldFound) → IsNamed t n declaration range b
      → field_of_type x b.data_type ≡ Some f
      → IsNamed t n declaration (field_range x range (field_of_type x range.data_type)) (at_field x b f)
  field_named x range b f h e =
      let found : field_of_type x range.data_type ≡ Some f = ap (field_of_type x) h.data_type ∙ e in
      subst (λ o. IsNamed t n declaration (field_range x range o) (at_field x b f)) (sym found) record {
        declared = h.declared;
        data_type = refl;
        below = λ all.
            subst (λ u. IsBelow t n (range.shared_offset + shared_before x u) (at_field x b f)) (sym h.data_type)
            (field_below t n range.shared_offset b (h.below all) x f e);
        nowhere = λ none. ap (option_map (λ path. path ++ named x ∷ [])) (h.nowhere none);
      }

  element_named : (i : ℕ) (range : LeafRange) (b : Reached) (u : DataType) (count : ℕ) → IsNamed t n declaration range b
      → vector_of_type b.data_type ≡ Some (u, count) → i < count
      → IsNamed t n declaration (element_range i range (vector_of_type range.data_type)) (at_element i b u)
  element_named i range b u count h e within =
      let v : DataType × ℕ = (u, count) in
      let found : vector_of_type range.data_type ≡ Some v = ap vector_of_type h.data_type ∙ e in
      subst (λ o. IsNamed t n declaration (element_range i range o) (at_element i b u)) (sym found) record {
        declared = h.declared;
        data_type = refl;
        below = λ all. element_below t n range.shared_offset b (h.below all) i u count (at_element i b u) e within refl refl;
        nowhere = λ none. ap (option_map (λ path. path ++ element i ∷ [])) (h.nowhere none);
      }

  any_named : (range : LeafRange) (b : Reached) (v : DataType × ℕ) → IsNamed t n declaration range b → vector_of_type b.data_type ≡ Some v
      → IsNamed t n declaration (picked_range range (vector_of_type range.data_type)) (at_any b v)
  any_named range b v h e =
      let p : Pick = record { stride = leaf_count v.0; length = v.1 } in
      let found : vector_of_type range.data_type ≡ Some v = ap vector_of_type h.data_type ∙ e in
      let parts = all_more range.picks p in
      subst (λ o. IsNamed t n declaration (picked_range range o) (at_any b v)) (sym found) record {
        declared = h.declared;
        data_type = refl;
        below = λ all. first_below (both (all_there range.picks) (nat_lt 0 v.1) (sym parts ∙ all));
        nowhere = λ none.
            none_left (all_there range.picks) (nat_lt 0 v.1) (further b (element 0 ∷ [])) (sym parts ∙ none)
            (λ gone. ap (option_map (λ path. path ++ element 0 ∷ [])) (h.nowhere gone));
      }
    where
      first_below : (all_there range.picks ≡ true) × (nat_lt 0 v.1 ≡ true) → IsBelow t n range.shared_offset (at_any b v)
      first_below q =
          element_below t n range.shared_offset b (h.below q.0) 0 v.0 v.1 (at_any b v) e (ltb-true 0 v.1 q.1) refl
          (ap (λ some. if some then further b (element 0 ∷ []) else None) q.1)

  module _ (scope : TypedScope) (p : Place) where
    pub named_behind : (ps : Parts) (c : Checked Reached) (range : LeafRange) (r : Reached)
        → ((b : Reached) → c.has ≡ Some b → IsNamed t n declaration range b)
        → (along_parts scope p c ps).has ≡ Some r → IsNamed t n declaration (range_behind range ps) r
    named_behind no_parts c range r here h = here r h
    named_behind (subfield first q x rest) c range r here h =
        named_behind rest (field_form p x c) (field_range x range (field_of_type x range.data_type)) r
        (λ b e.
        let f = field_from p x c b e in
        subst (IsNamed t n declaration (field_range x range (field_of_type x range.data_type))) f.is
        (field_named x range f.from f.field (here f.from f.has) f.found))
        h
    named_behind (subindex first q i rest) c range r here h =
        named_behind rest (index_form p i c) (element_range i range (vector_of_type range.data_type)) r
        (λ b e.
        let f = element_from p i c b e in
        subst (IsNamed t n declaration (element_range i range (vector_of_type range.data_type))) f.is
        (element_named i range f.from f.element_type f.count (here f.from f.has) f.found f.within))
        h
    named_behind (subaccess first e rest) c range r here h =
        let index = condition_form (place_of e) (expression_type scope e) in
        named_behind rest (access_form p c index) (picked_range range (vector_of_type range.data_type)) r
        (λ b g.
        let f = any_from p c index b g in
        subst (IsNamed t n declaration (picked_range range (vector_of_type range.data_type))) f.is
        (any_named range f.from f.elements (here f.from f.has) f.found))
        h

-- what a reference reaches and what it names
pub record Names (scope : TypedScope) (s : SinkReference) (r : Reached) : Type 0 where
  pub found : Known
  pub is_known : known scope s.name ≡ Some found
  pub data_type : DataType
  pub has_type : found.data_type ≡ Some data_type
  pub range : LeafRange
  pub is_range : sink_range scope s ≡ Some range
  pub leads : IsNamed data_type found.name (position_of scope s.name) range r

pub names : (scope : TypedScope) (s : SinkReference) (r : Reached) → (reaching scope s).has ≡ Some r → Names scope s r
names scope s r h =
    let b = begins_with scope s.place (root scope s.name) s.parts r h in
    let k = root_from scope s.name b.0 b.1 in
    let begins = whole_range (position_of scope s.name) k.data_type in
    let rooted : root_range scope s.name ≡ Some begins =
    ap (known_range (position_of scope s.name)) k.is_known ∙ ap (option_map (whole_range (position_of scope s.name))) k.has_type in
    record {
      found = k.found;
      is_known = k.is_known;
      data_type = k.data_type;
      has_type = k.has_type;
      range = range_behind begins s.parts;
      is_range =
          ap (λ o. range_where o (option_map (λ z. range_behind z s.parts) (root_range scope s.name))) h
          ∙ ap (option_map (λ z. range_behind z s.parts)) rooted;
      leads = named_behind k.data_type k.found.name (position_of scope s.name) scope s.place s.parts (root scope s.name) begins r
          (λ d e. begun k.found k.data_type d b.0 (same_Some b.0 d (sym b.1 ∙ e)) k.is) h;
    }
  where
    begun : (k : Known) (t : DataType) (d b : Reached) → b ≡ d → whole t k.name k.flow ≡ b
        → IsNamed t k.name (position_of scope s.name) (whole_range (position_of scope s.name) t) d
    begun k t d b e g = subst (IsNamed t k.name (position_of scope s.name) (whole_range (position_of scope s.name) t)) (g ∙ e) record {
      declared = refl;
      data_type = refl;
      below = λ all. whole_below t k.name k.flow;
      nowhere = λ none. cc;
    }
