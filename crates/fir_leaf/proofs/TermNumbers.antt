-- The numbers that stand in the terms of an expression are below the number of all leaves that are declared.
use Rattle.std.proofs.Common.{◌≡◌, ℕ, zero, suc, ◌+◌, ◌≤◌, List, [], ◌∷◌, length, map, Option, Some, None, refl, sym, ap, ◌∙◌, arith}
use Rattle.std.specs.List.{AllByRecursion}
use Rattle.fir_ast.specs.Types.{DataType, uint}
use Rattle.fir_ast.specs.Expressions.{Expression, reference, literal, operation, mux, validif, Parts, no_parts, subfield, subindex, subaccess, Expressions, no_expressions, expression}
use Rattle.fir_ast.specs.Statements.{SinkReference}
use Rattle.fir_meaning.specs.ExpressionPlaces.{place_of}
use Rattle.fir_meaning.specs.Reaching.{Reached, known_reached, at_field, at_element, at_any, field_of_type, vector_of_type}
use Rattle.fir_meaning.specs.TypeLeaves.{TypeLeaf, type_leaves, leaf_count}
use Rattle.fir_meaning.specs.TypedScopes.{TypedScope, known}
use Rattle.fir_meaning.specs.working.WellTyped.{HasType, HaveTypes, Leads, Reaches}
use Rattle.fir_leaf.specs.working.LeafLaws.{scope_paths, Begins}
use Rattle.fir_meaning.specs.working.Leafed.{leaf_term, leaf_terms, target_terms, first_term, muxes, terms, target_along, operands, target_of}
use Rattle.fir_meaning.specs.working.LeafedBlocks.{term_at}
use Rattle.fir_leaf.specs.working.LeafNumbers.{TermWithin, TermsWithin}
use Rattle.fir_meaning.specs.working.Targets.{Target, named_target, field_target, field_target_at, element_target, element_target_at, picked_target, picked_target_at}
use Rattle.fir_meaning.specs.working.Terms.{Term, terms_of, zeros}
use Rattle.fir_meaning.specs.working.Terms as over
use Rattle.fir_leaf.proofs.LeafPlaces.{leaves_counted}
use Rattle.fir_leaf.proofs.NamedPlaces.{reached_type}
use Rattle.fir_leaf.proofs.TargetNumbers.{TargetWithin, named_numbers, field_numbers, element_numbers, picked_numbers}

-- lists of terms
abbrev pub EachWithin : ℕ → List Term → Type 0
EachWithin n = AllByRecursion (TermWithin n)

pub first_within : (n : ℕ) (ts : List Term) → EachWithin n ts → TermWithin n (first_term ts)
first_within n [] h = tt
first_within n (t ∷ ts) h = h.0

pub at_within : (n : ℕ) (ts : List Term) (k : ℕ) → EachWithin n ts → TermWithin n (term_at ts k)
at_within n [] k h = tt
at_within n (t ∷ ts) zero h = h.0
at_within n (t ∷ ts) (suc k) h = at_within n ts k h.1

muxes_within : (n : ℕ) (c : Term) (firsts seconds : List Term) → TermWithin n c → EachWithin n firsts → EachWithin n seconds
    → EachWithin n (muxes c firsts seconds)
muxes_within n c [] seconds h f g = tt
muxes_within n c (a ∷ firsts) [] h f g = tt
muxes_within n c (a ∷ firsts) (b ∷ seconds) h f g = ((h, f.0, g.0), muxes_within n c firsts seconds h f.1 g.1)

validifs_within : (n : ℕ) (c : Term) (ts : List Term) → TermWithin n c → EachWithin n ts → EachWithin n (map (over.validif c) ts)
validifs_within n c [] h f = tt
validifs_within n c (t ∷ ts) h f = ((h, f.0), validifs_within n c ts h f.1)

leaves_within : (n : ℕ) (r : Target) (k : ℕ) (ls : List TypeLeaf) → TargetWithin n r → k + length ls ≤ leaf_count r.data_type → EachWithin n (leaf_terms r k ls)
leaves_within n r k [] h long = tt
leaves_within n r k (l ∷ ls) h long = (one r.base refl, leaves_within n r (suc k) ls h (omega arith))
  where
    one : (o : Option ℕ) → r.base ≡ o → TermWithin n (leaf_term o r.picks k l.ground_type)
    one None e = h.picks
    one (Some b) e = (h.leaf b k e (omega arith), h.picks, h.each b k e (omega arith))

pub target_within : (n : ℕ) (r : Target) → TargetWithin n r → EachWithin n (target_terms r)
target_within n r h = leaves_within n r 0 (type_leaves r.data_type) h (omega (arith, leaves_counted r.data_type))

-- a target whose leaves are below the bound, of a type
pub record IsWithin (n : ℕ) (r : Target) (t : DataType) : Type 0 where
  pub within : TargetWithin n r
  pub data_type : r.data_type ≡ t

module _ (scope whole : TypedScope) (front : Begins scope whole) where
  abbrev bound : ℕ
  bound = length (scope_paths whole)

  name_within : (name : List ℕ) (begins : Reached) → known_reached (known scope name) ≡ Some begins
      → IsWithin (length (scope_paths whole)) (named_target scope name) begins.data_type
  name_within name begins h =
      let is = reached_type (known scope name) begins h in
      record { within = named_numbers scope whole name begins.data_type front is; data_type = rw is refl }

  mutual
    pub terms_within : (e : Expression) (t : DataType) → HasType scope e t → EachWithin (length (scope_paths whole)) (terms scope e)
    terms_within (reference p n ps) t h =
        let r = target_along scope (named_target scope n) ps in
        target_within bound r (parts_within ps h.0 h.1 (named_target scope n) h.3 (name_within n h.0 h.2)).within
    terms_within (literal l) t h = (tt, tt)
    terms_within (operation p op es ks) t h = (operands_within es h.0 h.2, tt)
    terms_within (mux p c a b) t h =
        muxes_within bound (first_term (terms scope c)) (terms scope a) (terms scope b)
        (first_within bound (terms scope c) (terms_within c (uint h.0) h.3)) (terms_within a h.1 h.4)
        (terms_within b h.2 h.7)
    terms_within (validif p c a) t h =
        validifs_within bound (first_term (terms scope c)) (terms scope a)
        (first_within bound (terms scope c) (terms_within c (uint h.0) h.2)) (terms_within a h.1 h.3)

    parts_within : (ps : Parts) (begins reached : Reached) (r : Target) → Leads scope begins ps reached
        → IsWithin (length (scope_paths whole)) r begins.data_type → IsWithin (length (scope_paths whole)) (target_along scope r ps) reached.data_type
    parts_within no_parts begins reached r h s = record { within = s.within; data_type = s.data_type ∙ ap (λ (z : Reached). z.data_type) (sym h) }
    parts_within (subfield first q x rest) begins reached r h s =
        let found : field_of_type x r.data_type ≡ Some h.0 = ap (field_of_type x) s.data_type ∙ h.1 in
        parts_within rest (at_field x begins h.0) reached (field_target x r) h.2
        (record { within = field_numbers bound x h.0 r found s.within; data_type = ap (λ o. (field_target_at x r o).data_type) found })
    parts_within (subindex first q i rest) begins reached r h s =
        let found : vector_of_type r.data_type ≡ Some (h.0, h.1) = ap vector_of_type s.data_type ∙ h.2 in
        parts_within rest (at_element i begins h.0) reached (element_target i r) h.4
        (record { within = element_numbers bound i h.0 h.1 r found h.3 s.within; data_type = ap (λ o. (element_target_at i r o).data_type) found })
    parts_within (subaccess first e rest) begins reached r h s =
        let found : vector_of_type r.data_type ≡ Some (h.1, h.2) = ap vector_of_type s.data_type ∙ h.4 in
        let index = first_term (terms scope e) in
        parts_within rest (at_any begins (h.1, h.2)) reached (picked_target (place_of e) index r) h.5
        (record {
          within = picked_numbers bound (place_of e) index h.1 h.2 r found (first_within bound (terms scope e) (terms_within e (uint h.0) h.3)) s.within;
          data_type = ap (λ o. (picked_target_at (place_of e) index r o).data_type) found;
        })

    operands_within : (es : Expressions) (ts : List DataType) → HaveTypes scope es ts
        → TermsWithin (length (scope_paths whole)) (terms_of (operands scope es))
    operands_within no_expressions ts h = tt
    operands_within (expression e es) ts h = (first_within bound (terms scope e) (terms_within e h.0 h.2), operands_within es h.1 h.3)

  pub condition_within : (e : Expression) (t : DataType) → HasType scope e t → TermWithin (length (scope_paths whole)) (first_term (terms scope e))
  condition_within e t h = first_within bound (terms scope e) (terms_within e t h)

  pub sink_within : (s : SinkReference) (r : Reached) → Reaches scope s r → IsWithin (length (scope_paths whole)) (target_of scope s) r.data_type
  sink_within s r h = parts_within s.parts h.0 r (named_target scope s.name) h.2 (name_within s.name h.0 h.1)
