-- The terms of an expression that has a type read leaves of the module, through indices either of ports alone or of none.
use Rattle.std.proofs.Common.{◌≡◌, ℕ, zero, suc, ◌+◌, ◌≤◌, List, [], ◌∷◌, length, map, Option, Some, None, refl, sym, ap, ◌∙◌, arith}
use Rattle.std.specs.List.{AllByRecursion}
use Rattle.fir_ast.specs.Types.{DataType, uint}
use Rattle.fir_ast.specs.Expressions.{Expression, reference, literal, operation, mux, validif, Parts, no_parts, subfield, subindex, subaccess, Expressions, no_expressions, expression}
use Rattle.fir_ast.specs.Statements.{SinkReference}
use Rattle.fir_meaning.specs.ExpressionPlaces.{place_of}
use Rattle.fir_meaning.specs.Reaching.{Reached, known_reached, at_field, at_element, at_any, field_of_type, vector_of_type}
use Rattle.fir_meaning.specs.TypeLeaves.{TypeLeaf, type_leaves, leaf_count}
use Rattle.fir_meaning.specs.TypedScopes.{TypedScope, known}
use Rattle.fir_meaning.specs.working.WellTyped.{HasType, HaveTypes, Leads, Reaches}
use Rattle.fir_meaning.specs.working.Leafed.{leaf_term, leaf_terms, target_terms, first_term, muxes, terms, target_along, operands, target_of}
use Rattle.fir_meaning.specs.working.LeafedBlocks.{term_at}
use Rattle.fir_meaning.specs.working.LeafModules.{LeafModule}
use Rattle.fir_leaf.specs.working.SoundDesigns.{AreTermsIn, IsTermIn}
use Rattle.fir_meaning.specs.working.Targets.{Target, named_target, field_target, field_target_at, element_target, element_target_at, picked_target, picked_target_at}
use Rattle.fir_meaning.specs.working.Terms.{Term, terms_of}
use Rattle.fir_meaning.specs.working.Terms as over
use Rattle.fir_leaf.proofs.LeafPlaces.{leaves_counted}
use Rattle.fir_leaf.proofs.NamedPlaces.{reached_type}
use Rattle.fir_design.proofs.ReadParts.{element_in, field_in, picked_in}
use Rattle.fir_design.proofs.ReadTargets.{AreNamesIn, IsTargetIn, named_in, target_read}

-- a target of a type
pub record IsTyped (m : LeafModule) (r : Target) (t : DataType) : Type 0 where
  pub inside : IsTargetIn m r
  pub data_type : r.data_type ≡ t

module _ (m : LeafModule) where
  -- lists of terms
  abbrev pub EachIn : List Term → Type 0
  EachIn = AllByRecursion (IsTermIn m)

  first_in : (ts : List Term) → EachIn ts → IsTermIn m (first_term ts)
  first_in [] h = tt
  first_in (t ∷ ts) h = h.0

  pub at_in : (ts : List Term) (k : ℕ) → EachIn ts → IsTermIn m (term_at ts k)
  at_in [] k h = tt
  at_in (t ∷ ts) zero h = h.0
  at_in (t ∷ ts) (suc k) h = at_in ts k h.1

  muxes_in : (c : Term) (firsts seconds : List Term) → IsTermIn m c → EachIn firsts → EachIn seconds → EachIn (muxes c firsts seconds)
  muxes_in c [] seconds h f g = tt
  muxes_in c (a ∷ firsts) [] h f g = tt
  muxes_in c (a ∷ firsts) (b ∷ seconds) h f g = ((h, f.0, g.0), muxes_in c firsts seconds h f.1 g.1)

  validifs_in : (c : Term) (ts : List Term) → IsTermIn m c → EachIn ts → EachIn (map (over.validif c) ts)
  validifs_in c [] h f = tt
  validifs_in c (t ∷ ts) h f = ((h, f.0), validifs_in c ts h f.1)

  leaves_in : (r : Target) (k : ℕ) (ls : List TypeLeaf) → IsTargetIn m r → k + length ls ≤ leaf_count r.data_type
      → EachIn (leaf_terms r k ls)
  leaves_in r k [] h long = tt
  leaves_in r k (l ∷ ls) h long = (one r.base refl, leaves_in r (suc k) ls h (omega (arith, long)))
    where
      one : (o : Option ℕ) → r.base ≡ o → IsTermIn m (leaf_term o r.picks k l.ground_type)
      one None e = tt
      one (Some b) e = (target_read m r h b k e (omega (arith, long)), h.picks)

  pub target_in : (r : Target) → IsTargetIn m r → EachIn (target_terms r)
  target_in r h = leaves_in r 0 (type_leaves r.data_type) h (omega (arith, leaves_counted r.data_type))

  module _ (scope : TypedScope) (names : AreNamesIn m scope) where
    name_in : (name : List ℕ) (begins : Reached) → known_reached (known scope name) ≡ Some begins
        → IsTyped m (named_target scope name) begins.data_type
    name_in name begins h =
        let is = reached_type (known scope name) begins h in
        record { inside = named_in m scope name begins.data_type names is; data_type = rw is refl }

    mutual
      pub terms_in : (e : Expression) (t : DataType) → HasType scope e t → AllByRecursion (IsTermIn m) (terms scope e)
      terms_in (reference p n ps) t h =
          let r = target_along scope (named_target scope n) ps in
          target_in r (parts_in ps h.0 h.1 (named_target scope n) h.3 (name_in n h.0 h.2)).inside
      terms_in (literal l) t h = (tt, tt)
      terms_in (operation p op es ks) t h = (operands_in es h.0 h.2, tt)
      terms_in (mux p c a b) t h =
          muxes_in (first_term (terms scope c)) (terms scope a) (terms scope b)
          (first_in (terms scope c) (terms_in c (uint h.0) h.3)) (terms_in a h.1 h.4)
          (terms_in b h.2 h.7)
      terms_in (validif p c a) t h =
          validifs_in (first_term (terms scope c)) (terms scope a) (first_in (terms scope c) (terms_in c (uint h.0) h.2)) (terms_in a h.1 h.3)

      parts_in : (ps : Parts) (begins reached : Reached) (r : Target) → Leads scope begins ps reached → IsTyped m r begins.data_type
          → IsTyped m (target_along scope r ps) reached.data_type
      parts_in no_parts begins reached r h s = record { inside = s.inside; data_type = s.data_type ∙ ap (λ (z : Reached). z.data_type) (sym h) }
      parts_in (subfield first q x rest) begins reached r h s =
          let found : field_of_type x r.data_type ≡ Some h.0 = ap (field_of_type x) s.data_type ∙ h.1 in
          parts_in rest (at_field x begins h.0) reached (field_target x r) h.2
          (record { inside = field_in m x h.0 r found s.inside; data_type = ap (λ o. (field_target_at x r o).data_type) found })
      parts_in (subindex first q i rest) begins reached r h s =
          let found : vector_of_type r.data_type ≡ Some (h.0, h.1) = ap vector_of_type s.data_type ∙ h.2 in
          parts_in rest (at_element i begins h.0) reached (element_target i r) h.4
          (record { inside = element_in m i h.0 h.1 r found h.3 s.inside; data_type = ap (λ o. (element_target_at i r o).data_type) found })
      parts_in (subaccess first e rest) begins reached r h s =
          let found : vector_of_type r.data_type ≡ Some (h.1, h.2) = ap vector_of_type s.data_type ∙ h.4 in
          let index = first_term (terms scope e) in
          parts_in rest (at_any begins (h.1, h.2)) reached (picked_target (place_of e) index r) h.5
          (record {
            inside = picked_in m (place_of e) index h.1 h.2 r found (first_in (terms scope e) (terms_in e (uint h.0) h.3)) s.inside;
            data_type = ap (λ o. (picked_target_at (place_of e) index r o).data_type) found;
          })

      operands_in : (es : Expressions) (ts : List DataType) → HaveTypes scope es ts → AreTermsIn m (terms_of (operands scope es))
      operands_in no_expressions ts h = tt
      operands_in (expression e es) ts h = (first_in (terms scope e) (terms_in e h.0 h.2), operands_in es h.1 h.3)

    pub condition_in : (e : Expression) (t : DataType) → HasType scope e t → IsTermIn m (first_term (terms scope e))
    condition_in e t h = first_in (terms scope e) (terms_in e t h)

    pub sink_in : (s : SinkReference) (r : Reached) → Reaches scope s r → IsTyped m (target_of scope s) r.data_type
    sink_in s r h = parts_in s.parts h.0 r (named_target scope s.name) h.2 (name_in s.name h.0 h.1)
