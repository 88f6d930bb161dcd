-- The terms of an expression of a module, one for each leaf of its type, in the order of the type (FIRRTL spec, "Expressions", "Multiplexers").
-- The scope is that of all that the module declares.
use Rattle.std.specs.Prelude.{ℕ, suc, ◌+◌, List, [], ◌∷◌, map, Option, Some, None}
use Rattle.fir_ast.specs.Types.{DataType}
use Rattle.fir_ast.specs.Expressions.{Expression, reference, literal, operation, mux, validif, Parts, no_parts, subfield, subindex, subaccess, Expressions, no_expressions, expression}
use Rattle.fir_ast.specs.Statements.{SinkReference}
use Rattle.fir_meaning.specs.ExpressionPlaces.{place_of}
use Rattle.fir_meaning.specs.TypeLeaves.{TypeLeaf, type_leaves}
use Rattle.fir_meaning.specs.TypedScopes.{TypedScope}
use Rattle.fir_meaning.specs.working.Terms.{Term, Picks, zeros, absent, read, terms_of}
use Rattle.fir_meaning.specs.working.Terms as over
use Rattle.fir_meaning.specs.working.Targets.{Target, named_target, field_target, element_target, picked_target}
use Rattle.fir_meaning.specs.FoundTypes.{absent_type}

abbrev pub leaf_term : Option ℕ → Picks → ℕ → DataType → Term
leaf_term (Some b) ps k t = read (b + k) ps
leaf_term None ps k t = absent (absent_type t) ps

-- of the leaves of a target from the one of a number on
abbrev pub leaf_terms : Target → ℕ → List TypeLeaf → List Term
leaf_terms r k [] = []
leaf_terms r k (l ∷ ls) = leaf_term r.base r.picks k l.ground_type ∷ leaf_terms r (suc k) ls

abbrev pub target_terms : Target → List Term
target_terms r = leaf_terms r 0 (type_leaves r.data_type)

abbrev pub first_term : List Term → Term
first_term [] = zeros
first_term (t ∷ ts) = t

-- leaf by leaf
abbrev pub muxes : Term → List Term → List Term → List Term
muxes c (a ∷ more_a) (b ∷ more_b) = over.mux c a b ∷ muxes c more_a more_b
muxes c _ _ = []

module _ (scope : TypedScope) where
  abbrev mutual
    pub terms : Expression → List Term
    terms (reference p n ps) = target_terms (target_along (named_target scope n) ps)
    terms (literal l) = over.literal l ∷ []
    terms (operation p op es ks) = over.operation op (terms_of (operands es)) ks ∷ []
    terms (mux p c a b) = muxes (first_term (terms c)) (terms a) (terms b)
    terms (validif p c a) = map (over.validif (first_term (terms c))) (terms a)

    -- what parts lead to
    pub target_along : Target → Parts → Target
    target_along r no_parts = r
    target_along r (subfield first p x rest) = target_along (field_target x r) rest
    target_along r (subindex first p i rest) = target_along (element_target i r) rest
    target_along r (subaccess first e rest) = target_along (picked_target (place_of e) (first_term (terms e)) r) rest

    pub operands : Expressions → List Term
    operands no_expressions = []
    operands (expression e es) = first_term (terms e) ∷ operands es

  abbrev pub target_of : SinkReference → Target
  target_of s = target_along (named_target scope s.name) s.parts

  -- of an expression that is a reference
  abbrev pub target_read : Expression → Option Target
  target_read (reference p n ps) = Some (target_of (record { place = p; name = n; parts = ps }))
  target_read _ = None
