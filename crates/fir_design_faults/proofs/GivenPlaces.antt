-- What a term gives is named, picked and placed as what its expression gives; and the indices of a target stand where those of its reference do.
use Rattle.std.proofs.Common.{◌≡◌, ℕ, zero, suc, ◌+◌, ◌<◌, List, [], ◌∷◌, ◌++◌, false, map, length, slice_get, Option, Some, None, refl, sym, ap, ◌∙◌, subst, append_assoc, append-nil, arith}
use Rattle.std.specs.List.{AllByRecursion}
use Rattle.std.proofs.lemmas.Option.{get_or_from_slice_get, none-some}
use Rattle.fir_ast.specs.Expressions.{Expression, reference, literal, operation, mux, validif, Parts, no_parts, subfield, subindex, subaccess}
use Rattle.fir_ast.specs.Statements.{SinkReference}
use Rattle.fir_ast.specs.Types.{DataType}
use Rattle.fir_meaning.specs.ExpressionPlaces.{place_of}
use Rattle.fir_meaning.specs.ModuleScenes.{Scene}
use Rattle.fir_meaning.specs.Reaching.{Reached, known_reached, at_field, at_element, at_any, field_of_type, vector_of_type}
use Rattle.fir_meaning.specs.ResetItems.{has_access}
use Rattle.fir_meaning.specs.ResetJoins.{type_of_known}
use Rattle.fir_meaning.specs.SourceDrives.{Side, side}
use Rattle.fir_meaning.specs.SourceReads as tree
use Rattle.fir_meaning.specs.SourceReads.{leaves_named}
use Rattle.fir_meaning.specs.TypeLeaves.{TypeLeaf, type_leaves}
use Rattle.fir_meaning.specs.TypedScopes.{TypedScope, known}
use Rattle.fir_meaning.specs.working.LeafedBlocks.{term_at}
use Rattle.fir_meaning.specs.working.LeafedModules.{module_leaves}
use Rattle.fir_meaning.specs.working.Leafed.{first_term, leaf_term, leaf_terms, muxes, target_along, target_of, terms}
use Rattle.fir_meaning.specs.working.Targets.{Target, element_target, element_target_at, field_target, field_target_at, leaves_ahead, named_target, picked_target, picked_target_at, whole_target}
use Rattle.fir_meaning.specs.working.TermReads as by_number
use Rattle.fir_meaning.specs.working.Terms as over
use Rattle.fir_meaning.specs.working.Terms.{Picks, Term, zeros}
use Rattle.fir_meaning.specs.working.WellTyped.{HasType, Leads, Reaches}
use Rattle.fir_leaf.specs.working.ClockFaults.{index_places, picking_places}
use Rattle.fir_leaf.specs.working.LeafLaws.{Begins}
use Rattle.fir_leaf.proofs.NamedPlaces.{reached_type}
use Rattle.fir_source_faults.specs.working.ReadsByPath.{ReadsByPath, leaves_from, paths_in, scope_of_module}
use Rattle.fir_source_faults.proofs.ConnectPieces.{target_type}
use Rattle.fir_design_faults.proofs.ClockMarks.{SameGiven, is_picked, leaves_given}

-- the indices of a target
whole_places : (first : ℕ) (o : Option DataType) → index_places (whole_target first o).picks ≡ []
whole_places first None = refl
whole_places first (Some t) = refl

module _ (scope : TypedScope) where
  places_along : (ps : Parts) (begins reached : Reached) (r : Target) → Leads scope begins ps reached → r.data_type ≡ begins.data_type
      → index_places (target_along scope r ps).picks ≡ index_places r.picks ++ tree.index_places ps
  places_along no_parts begins reached r h e = sym (append-nil (index_places r.picks))
  places_along (subfield first q x rest) begins reached r h e =
      let found : field_of_type x r.data_type ≡ Some h.0 = ap (field_of_type x) e ∙ h.1 in
      places_along rest (at_field x begins h.0) reached (field_target x r) h.2 (ap (λ o. (field_target_at x r o).data_type) found)
      ∙ ap (λ o. index_places (field_target_at x r o).picks ++ tree.index_places rest) found
  places_along (subindex first q i rest) begins reached r h e =
      let found : vector_of_type r.data_type ≡ Some (h.0, h.1) = ap vector_of_type e ∙ h.2 in
      places_along rest (at_element i begins h.0) reached (element_target i r) h.4 (ap (λ o. (element_target_at i r o).data_type) found)
      ∙ ap (λ o. index_places (element_target_at i r o).picks ++ tree.index_places rest) found
  places_along (subaccess first x rest) begins reached r h e =
      let found : vector_of_type r.data_type ≡ Some (h.1, h.2) = ap vector_of_type e ∙ h.4 in
      let index = first_term (terms scope x) in
      places_along rest (at_any begins (h.1, h.2)) reached (picked_target (place_of x) index r) h.5
      (ap (λ o. (picked_target_at (place_of x) index r o).data_type) found)
      ∙ ap (λ o. index_places (picked_target_at (place_of x) index r o).picks ++ tree.index_places rest) found
      ∙ append_assoc (index_places r.picks) (place_of x ∷ []) (tree.index_places rest)

  name_typed : (name : List ℕ) (begins : Reached) → known_reached (known scope name) ≡ Some begins
      → (named_target scope name).data_type ≡ begins.data_type
  name_typed name begins h = let is = reached_type (known scope name) begins h in rw is refl

  pub sink_places : (sink : SinkReference) (r : Reached) → Reaches scope sink r → index_places (target_of scope sink).picks ≡ tree.index_places sink.parts
  sink_places sink r h =
      places_along sink.parts h.0 r (named_target scope sink.name) h.2 (name_typed sink.name h.0 h.1)
      ∙ ap (λ ps. ps ++ tree.index_places sink.parts) (whole_places (leaves_ahead scope sink.name) (type_of_known (known scope sink.name)))

-- a term that is no leaf
pub record IsNoLeaf (t : Term) : Type 0 where
  pub leaves : leaves_given t ≡ []
  pub picked : is_picked t ≡ false
  pub places : picking_places t ≡ []

zeros_are : IsNoLeaf zeros
zeros_are = record { leaves = refl; picked = refl; places = refl }

each_at : (ts : List Term) → AllByRecursion IsNoLeaf ts → (k : ℕ) → IsNoLeaf (term_at ts k)
each_at [] h k = zeros_are
each_at (t ∷ ts) h zero = h.0
each_at (t ∷ ts) h (suc k) = each_at ts h.1 k

muxes_are : (c : Term) (ts us : List Term) → AllByRecursion IsNoLeaf (muxes c ts us)
muxes_are c [] us = tt
muxes_are c (t ∷ ts) [] = tt
muxes_are c (t ∷ ts) (u ∷ us) = (record { leaves = refl; picked = refl; places = refl }, muxes_are c ts us)

validifs_are : (c : Term) (ts : List Term) → AllByRecursion IsNoLeaf (map (over.validif c) ts)
validifs_are c [] = tt
validifs_are c (t ∷ ts) = (record { leaves = refl; picked = refl; places = refl }, validifs_are c ts)

leaf_there : (r : Target) (n k : ℕ) (ls : List TypeLeaf) (l : TypeLeaf) → slice_get ls k ≡ Some l
    → slice_get (leaf_terms r n ls) k ≡ Some (leaf_term r.base r.picks (n + k) l.ground_type)
leaf_there r n k [] l e = absurd (none-some l e)
leaf_there r n zero (m ∷ ls) l e =
    let none : n + 0 ≡ n = omega arith in
    rw none (ap (λ (o : Option TypeLeaf). by o) e)
  where
    by : Option TypeLeaf → Option Term
    by None = None
    by (Some u) = Some (leaf_term r.base r.picks n u.ground_type)
leaf_there r n (suc k) (m ∷ ls) l e =
    let next : n + suc k ≡ suc n + k = omega arith in rw next (leaf_there r (suc n) k ls l e)

module _ (s : Scene) (reading : ReadsByPath s) (scope : TypedScope) (begins : Begins scope (scope_of_module s)) where
  no_leaf_given : (t : Term) (g : Side) → IsNoLeaf t → g.leaves ≡ [] → g.is_picked ≡ false → g.index_places ≡ [] → SameGiven s t g
  no_leaf_given t g h leaves picked places = record {
    leaves = ap (paths_in s) h.leaves ∙ sym leaves;
    within = subst (AllByRecursion (λ y. y < length (module_leaves s))) (sym h.leaves) tt;
    picked = h.picked ∙ sym picked;
    places = h.places ∙ sym places;
  }

  leaf_given : (o : Option ℕ) (ps : Picks) (k : ℕ) (t : DataType) (g : Side) → paths_in s (leaves_from o ps k) ≡ g.leaves
      → AllByRecursion (λ y. y < length (module_leaves s)) (leaves_from o ps k) → by_number.is_picked ps ≡ g.is_picked → index_places ps ≡ g.index_places
      → SameGiven s (leaf_term o ps k t) g
  leaf_given None ps k t g leaves within picked places = record { leaves = leaves; within = within; picked = picked; places = places }
  leaf_given (Some b) ps k t g leaves within picked places = record { leaves = leaves; within = within; picked = picked; places = places }

  reference_given : (sink : SinkReference) (r : Reached) (k : ℕ) (l : TypeLeaf) (g : Side) → Reaches scope sink r → slice_get (type_leaves r.data_type) k ≡ Some l
      → leaves_named scope sink.name sink.parts l.path ≡ g.leaves → has_access sink.parts ≡ g.is_picked → tree.index_places sink.parts ≡ g.index_places
      → SameGiven s (term_at (leaf_terms (target_of scope sink) 0 (type_leaves (target_of scope sink).data_type)) k) g
  reference_given sink r k l g h i leaves picked places =
      let to = target_of scope sink in
      let own : slice_get (type_leaves to.data_type) k ≡ Some l =
      subst (λ t. slice_get (type_leaves t) k ≡ Some l) (sym (target_type scope (scope_of_module s) begins sink r h)) i in
      let none : 0 + k ≡ k = omega arith in
      let there : slice_get (leaf_terms to 0 (type_leaves to.data_type)) k ≡ Some (leaf_term to.base to.picks k l.ground_type) =
      rw none at (leaf_there to 0 k (type_leaves to.data_type) l own) in
      let names = reading.target scope sink r k l begins h i in
      subst (λ t. SameGiven s t g)
      (sym (get_or_from_slice_get (leaf_terms to 0 (type_leaves to.data_type)) k (leaf_term to.base to.picks k l.ground_type) zeros there))
      (leaf_given to.base to.picks k l.ground_type g (names.leaves ∙ leaves) names.within (names.picked ∙ picked) (sink_places scope sink r h ∙ places))

  pub given_same : (e : Expression) (t : DataType) (k : ℕ) (l : TypeLeaf) → HasType scope e t → slice_get (type_leaves t) k ≡ Some l
      → SameGiven s (term_at (terms scope e) k) (side scope e l.path)
  given_same (reference p n ps) t k l h i =
      reference_given (record { place = p; name = n; parts = ps }) h.1 k l (side scope (reference p n ps) l.path) (h.0, h.2, h.3)
      (subst (λ (v : DataType). slice_get (type_leaves v) k ≡ Some l) h.4 i) refl refl refl
  given_same (literal c) t k l h i =
      no_leaf_given (term_at (over.literal c ∷ []) k) (side scope (literal c) l.path)
      (each_at (over.literal c ∷ []) (record { leaves = refl; picked = refl; places = refl }, tt) k) refl refl refl
  given_same (operation p op es ks) t k l h i =
      no_leaf_given (term_at (terms scope (operation p op es ks)) k) (side scope (operation p op es ks) l.path)
      (each_at (terms scope (operation p op es ks)) (record { leaves = refl; picked = refl; places = refl }, tt) k) refl refl refl
  given_same (mux p c a b) t k l h i =
      no_leaf_given (term_at (terms scope (mux p c a b)) k) (side scope (mux p c a b) l.path)
      (each_at (terms scope (mux p c a b)) (muxes_are (first_term (terms scope c)) (terms scope a) (terms scope b)) k) refl refl refl
  given_same (validif p c a) t k l h i =
      no_leaf_given (term_at (terms scope (validif p c a)) k) (side scope (validif p c a) l.path)
      (each_at (terms scope (validif p c a)) (validifs_are (first_term (terms scope c)) (terms scope a)) k) refl refl refl
