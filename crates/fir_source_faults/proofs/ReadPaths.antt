-- What the terms of an expression read, leaf by leaf, is by paths what the expression reads; and the leaves that a target names, what a reference names.
use Rattle.std.proofs.Common.{◌≡◌, ℕ, suc, ◌+◌, List, [], ◌∷◌, ◌++◌, Bool, true, false, ◌||◌, map, slice_get, refl, sym, ap, ap₂, ◌∙◌, arith, append_assoc, subst, Option, Some, None}
use Rattle.std.proofs.lemmas.List.{map-append, append-nil}
use Rattle.std.proofs.Math.Bool.{or-false, or-true}
use Rattle.fir_bits.specs.declared.types.NumTy.{NumTy}
use Rattle.fir_ast.specs.Types.{DataType, uint}
use Rattle.fir_ast.specs.Expressions.{Expression, reference, literal, operation, mux, validif, Parts, no_parts, subfield, subindex, subaccess, Expressions, no_expressions, expression}
use Rattle.fir_ast.specs.Statements.{SinkReference}
use Rattle.fir_meaning.specs.Equivalence.{same_ground}
use Rattle.fir_meaning.specs.ExpressionPlaces.{place_of}
use Rattle.fir_meaning.specs.LeafPaths.{LeafPath, named, element}
use Rattle.fir_meaning.specs.working.Leafed.{leaf_term, leaf_terms, first_term, muxes, terms, target_along, operands, target_of}
use Rattle.fir_meaning.specs.OperationTypes.{operand_kinds, is_conversion}
use Rattle.fir_meaning.specs.Reaching.{Reached, known_reached, at_field, at_element, at_any, field_of_type, vector_of_type}
use Rattle.fir_meaning.specs.ResetItems.{has_access, paths_along}
use Rattle.fir_meaning.specs.SourceReads as tree
use Rattle.fir_meaning.specs.SourceReads.{leaves_named}
use Rattle.fir_meaning.specs.working.Targets.{Target, named_target, field_target, field_target_at, element_target, element_target_at, picked_target, picked_target_at}
use Rattle.fir_meaning.specs.working.TermReads.{each_read, is_picked, picks_read, reached, reads}
use Rattle.fir_meaning.specs.working.Terms as over
use Rattle.fir_meaning.specs.working.Terms.{Term, Picks, terms_of}
use Rattle.fir_meaning.specs.TypeLeaves.{TypeLeaf, type_leaves}
use Rattle.fir_meaning.specs.TypedScopes.{TypedScope, known}
use Rattle.fir_meaning.specs.working.WellTyped.{HasType, HaveTypes, Leads, Reaches}
use Rattle.fir_meaning.proofs.LeafSteps.{path_of}
use Rattle.fir_leaf.specs.working.LeafLaws.{path_at, Begins}
use Rattle.fir_leaf.proofs.AlikeTypes.{leaf_paths, bare_paths, alike_types}
use Rattle.fir_leaf.proofs.NamedPlaces.{reached_type}
use Rattle.fir_leaf.proofs.SingleLeaves.{number_one, result_one, operand_one, kinds_apart}
use Rattle.fir_source_faults.specs.working.ReadsByPath.{leaves_from, leaves_of_target}
use Rattle.fir_source_faults.proofs.PathsAlong.{all_along, along_access, along_element, along_field, along_none, spread, stepped}
use Rattle.fir_source_faults.proofs.TargetPaths.{HasPaths, named_paths, field_paths, element_paths, picked_paths}

module _ (whole : TypedScope) where
  -- what a term reads, and the indices before a leaf, by paths
  abbrev pub term_reads : Term → List LeafPath
  term_reads t = map (path_at whole) (reads t)

  abbrev pub indices_read : Picks → List LeafPath
  indices_read ps = map (path_at whole) (picks_read ps)

  -- a target of a type, the paths of its leaves, what its indices read, and whether it has one
  pub record ReadsAs (r : Target) (paths read : List LeafPath) (access : Bool) (t : DataType) : Type 0 where
    pub has : HasPaths whole r paths
    pub indices : indices_read r.picks ≡ read
    pub picked : is_picked r.picks ≡ access
    pub data_type : r.data_type ≡ t

  leaf_read : (o : Option ℕ) (ps : Picks) (k : ℕ) (t : DataType)
      → term_reads (leaf_term o ps k t) ≡ indices_read ps ++ map (path_at whole) (leaves_from o ps k)
  leaf_read None ps k t = sym (append-nil (indices_read ps))
  leaf_read (Some b) ps k t = map-append (path_at whole) (picks_read ps) (reached (b + k) ps)

  -- lists, leaf by leaf
  leaves_read : (f : LeafPath → List LeafPath) (r : Target) (k : ℕ) (ls : List TypeLeaf)
      → ((j : ℕ) (l : TypeLeaf) → slice_get ls j ≡ Some l → indices_read r.picks ++ map (path_at whole) (leaves_of_target r (k + j)) ≡ f l.path)
      → map term_reads (leaf_terms r k ls) ≡ map f (map path_of ls)
  leaves_read f r k [] h = refl
  leaves_read f r k (l ∷ ls) h =
      let now : k + 0 ≡ k = omega arith in
      let this : indices_read r.picks ++ map (path_at whole) (leaves_of_target r k) ≡ f l.path = rw now at (h 0 l refl) in
      ap₂ (λ (x : List LeafPath) (xs : List (List LeafPath)). x ∷ xs) (leaf_read r.base r.picks k l.ground_type ∙ this)
      (leaves_read f r (suc k) ls (λ j m e. let next : suc k + j ≡ k + suc j = omega arith in rw next (h (suc j) m e)))

  muxes_read : (c : Term) (firsts seconds : List Term) (f g : LeafPath → List LeafPath) (qs : List LeafPath)
      → map term_reads firsts ≡ map f qs → map term_reads seconds ≡ map g qs
      → map term_reads (muxes c firsts seconds) ≡ map (λ q. term_reads c ++ f q ++ g q) qs
  muxes_read c [] seconds f g [] h k = refl
  muxes_read c [] seconds f g (q ∷ qs) h k = absurd (cc)
  muxes_read c (a ∷ firsts) seconds f g [] h k = absurd (cc)
  muxes_read c (a ∷ firsts) [] f g (q ∷ qs) h k = absurd (cc)
  muxes_read c (a ∷ firsts) (b ∷ seconds) f g (q ∷ qs) h k =
      let first : term_reads a ≡ f q = cc in
      let second : term_reads b ≡ g q = cc in
      let more : map term_reads firsts ≡ map f qs = cc in
      let others : map term_reads seconds ≡ map g qs = cc in
      ap₂ (λ (x : List LeafPath) (xs : List (List LeafPath)). x ∷ xs)
      (map-append (path_at whole) (reads c ++ reads a) (reads b)
      ∙ ap₂ (λ (xs ys : List LeafPath). xs ++ ys) (map-append (path_at whole) (reads c) (reads a)
      ∙ ap (λ (ys : List LeafPath). term_reads c ++ ys) first) second)
      (muxes_read c firsts seconds f g qs more others)

  validifs_read : (c : Term) (ts : List Term) (f : LeafPath → List LeafPath) (qs : List LeafPath) → map term_reads ts ≡ map f qs
      → map term_reads (map (over.validif c) ts) ≡ map (λ q. term_reads c ++ f q) qs
  validifs_read c [] f [] h = refl
  validifs_read c [] f (q ∷ qs) h = absurd (cc)
  validifs_read c (t ∷ ts) f [] h = absurd (cc)
  validifs_read c (t ∷ ts) f (q ∷ qs) h =
      let first : term_reads t ≡ f q = cc in
      let more : map term_reads ts ≡ map f qs = cc in
      ap₂ (λ (x : List LeafPath) (xs : List (List LeafPath)). x ∷ xs)
      (map-append (path_at whole) (reads c) (reads t) ∙ ap (λ (ys : List LeafPath). term_reads c ++ ys) first) (validifs_read c ts f qs more)

  first_read : (ts : List Term) (f : LeafPath → List LeafPath) (qs : List LeafPath) → qs ≡ [] ∷ [] → map term_reads ts ≡ map f qs
      → term_reads (first_term ts) ≡ f []
  first_read [] f qs one h = let same : [] ≡ map f ([] ∷ []) = h ∙ ap (map f) one in absurd (cc)
  first_read (t ∷ ts) f qs one h = let same : map term_reads (t ∷ ts) ≡ map f ([] ∷ []) = h ∙ ap (map f) one in cc

  module _ (scope : TypedScope) (front : Begins scope whole) where
    name_reads : (name : List ℕ) (begins : Reached) → known_reached (known scope name) ≡ Some begins
        → ReadsAs (named_target scope name) ((named name ∷ []) ∷ []) [] false begins.data_type
    name_reads name begins h =
        let is = reached_type (known scope name) begins h in
        record {
          has = named_paths whole scope name begins.data_type front is;
          indices = rw is refl;
          picked = rw is refl;
          data_type = rw is refl;
        }

    -- the leaves of a reference
    pub name_along : (name : List ℕ) (begins : Reached) (ps : Parts) (q : LeafPath) → known_reached (known scope name) ≡ Some begins
        → map (λ (path : LeafPath). path ++ q) (all_along ((named name ∷ []) ∷ []) begins.data_type ps) ≡ leaves_named scope name ps q
    name_along name begins ps q h =
        let is = reached_type (known scope name) begins h in
        rw (is, append-nil (paths_along (named name ∷ []) begins.data_type ps)) refl

    mutual
      pub terms_read : (e : Expression) (t : DataType) → HasType scope e t → map term_reads (terms scope e) ≡ map (tree.reads scope e) (leaf_paths t)
      terms_read (reference p n ps) t h =
          let r = target_along scope (named_target scope n) ps in
          let to = parts_read ps h.0 h.1 (named_target scope n) ((named n ∷ []) ∷ []) [] false h.3 (name_reads n h.0 h.2) in
          let is : r.data_type ≡ t = to.data_type ∙ sym h.4 in
          leaves_read (tree.reads scope (reference p n ps)) r 0 (type_leaves r.data_type) (λ j l e.
          let none : 0 + j ≡ j = omega arith in
          rw none
          (ap₂ (λ (xs ys : List LeafPath). xs ++ ys) to.indices (to.has.each j l e ∙ name_along n h.0 ps l.path h.2)))
          ∙ ap (λ u. map (tree.reads scope (reference p n ps)) (leaf_paths u)) is
      terms_read (literal l) t h = rw (h, (number_one l.signed l.width).path) refl
      terms_read (operation p op es ks) t h =
          rw (h.5, (result_one op h.1).path) (ap (λ (xs : List LeafPath). xs ∷ []) (operands_read es h.0 (is_conversion op) h.1 h.2 h.3))
      terms_read (mux p c a b) t h =
          let u = h.1 in
          let v = h.2 in
          let arms = alike_types same_ground u v h.10 in
          let paths : leaf_paths t ≡ leaf_paths u = ap leaf_paths h.11 ∙ bare_paths u in
          let condition : term_reads (first_term (terms scope c)) ≡ tree.reads scope c [] =
          first_read (terms scope c) (tree.reads scope c) (leaf_paths (uint h.0)) refl (terms_read c (uint h.0) h.3) in
          let first = terms_read a u h.4 in
          let second = terms_read b v h.7 ∙ ap (map (tree.reads scope b)) (sym arms.path) in
          muxes_read (first_term (terms scope c)) (terms scope a) (terms scope b) (tree.reads scope a) (tree.reads scope b) (leaf_paths u) first second
          ∙ rw (condition, paths) refl
      terms_read (validif p c a) t h =
          let u = h.1 in
          let paths : leaf_paths t ≡ leaf_paths u = ap leaf_paths h.6 ∙ bare_paths u in
          let condition : term_reads (first_term (terms scope c)) ≡ tree.reads scope c [] =
          first_read (terms scope c) (tree.reads scope c) (leaf_paths (uint h.0)) refl (terms_read c (uint h.0) h.2) in
          validifs_read (first_term (terms scope c)) (terms scope a) (tree.reads scope a) (leaf_paths u) (terms_read a u h.3)
          ∙ rw (condition, paths) refl

      parts_read : (ps : Parts) (begins reached : Reached) (r : Target) (paths read : List LeafPath) (access : Bool) → Leads scope begins ps reached
          → ReadsAs r paths read access begins.data_type
          → ReadsAs (target_along scope r ps) (all_along paths begins.data_type ps) (read ++ tree.index_reads scope ps) (access || has_access ps)
          reached.data_type
      parts_read no_parts begins reached r paths read access h s =
          rw (along_none paths begins.data_type, append-nil read, or-false access)
          (record {
            has = s.has;
            indices = s.indices;
            picked = s.picked;
            data_type = s.data_type ∙ ap (λ (z : Reached). z.data_type) (sym h);
          })
      parts_read (subfield first q x rest) begins reached r paths read access h s =
          let found : field_of_type x r.data_type ≡ Some h.0 = ap (field_of_type x) s.data_type ∙ h.1 in
          rw (along_field paths begins.data_type first q x rest h.0 h.1)
          (parts_read rest (at_field x begins h.0) reached (field_target x r) (stepped (named x) paths) read access h.2
          (record {
            has = field_paths whole x h.0 r paths found s.has;
            indices = rw found s.indices;
            picked = rw found s.picked;
            data_type = ap (λ o. (field_target_at x r o).data_type) found;
          }))
      parts_read (subindex first q i rest) begins reached r paths read access h s =
          let found : vector_of_type r.data_type ≡ Some (h.0, h.1) = ap vector_of_type s.data_type ∙ h.2 in
          rw (along_element paths begins.data_type first q i rest h.0 h.1 h.2)
          (parts_read rest (at_element i begins h.0) reached (element_target i r) (stepped (element i) paths) read access h.4
          (record {
            has = element_paths whole i h.0 h.1 r paths found h.3 s.has;
            indices = rw found s.indices;
            picked = rw found s.picked;
            data_type = ap (λ o. (element_target_at i r o).data_type) found;
          }))
      parts_read (subaccess first e rest) begins reached r paths read access h s =
          let found : vector_of_type r.data_type ≡ Some (h.1, h.2) = ap vector_of_type s.data_type ∙ h.4 in
          let index = first_term (terms scope e) in
          let inside : term_reads (first_term (terms scope e)) ≡ tree.reads scope e [] =
          first_read (terms scope e) (tree.reads scope e) (leaf_paths (uint h.0)) refl (terms_read e (uint h.0) h.3) in
          rw (
            along_access paths begins.data_type first e rest h.1 h.2 h.4,
            ← append_assoc read (tree.reads scope e []) (tree.index_reads scope rest),
            or-true access,
          )
          (parts_read rest (at_any begins (h.1, h.2)) reached (picked_target (place_of e) index r) (spread h.2 paths) (read ++ tree.reads scope e []) true h.5
          (record {
            has = picked_paths whole (place_of e) index h.1 h.2 r paths found s.has;
            indices = rw found (map-append (path_at whole) (picks_read r.picks) (reads index) ∙ ap₂ (λ (xs ys : List LeafPath). xs ++ ys) s.indices inside);
            picked = rw found refl;
            data_type = ap (λ o. (picked_target_at (place_of e) index r o).data_type) found;
          }))

      operands_read : (es : Expressions) (ts : List DataType) (resets : Bool) (kinds : List NumTy) → HaveTypes scope es ts
          → operand_kinds resets ts ≡ Some kinds
          → map (path_at whole) (each_read (terms_of (operands scope es))) ≡ tree.operand_reads scope es
      operands_read no_expressions ts resets kinds h k = refl
      operands_read (expression e es) ts resets kinds h k =
          let apart = kinds_apart resets h.0 h.1 kinds (subst (λ us. operand_kinds resets us ≡ Some kinds) h.4 k) in
          let one = operand_one resets h.0 apart.first apart.is_first in
          let operand : term_reads (first_term (terms scope e)) ≡ tree.reads scope e [] =
          first_read (terms scope e) (tree.reads scope e) (leaf_paths h.0) one.path (terms_read e h.0 h.2) in
          map-append (path_at whole) (reads (first_term (terms scope e))) (each_read (terms_of (operands scope es)))
          ∙ ap₂ (λ (xs ys : List LeafPath). xs ++ ys) operand (operands_read es h.1 resets apart.more h.3 apart.are_more)

    -- what a sink or a reference reaches, from its name on
    abbrev pub SinkReads : SinkReference → Reached → DataType → Type 0
    SinkReads sink begins t =
        ReadsAs (target_of scope sink) (all_along ((named sink.name ∷ []) ∷ []) begins.data_type sink.parts) (tree.index_reads scope sink.parts)
        (has_access sink.parts) t

    pub sink_reads : (sink : SinkReference) (r : Reached) (h : Reaches scope sink r) → SinkReads sink h.0 r.data_type
    sink_reads sink r h =
        parts_read sink.parts h.0 r (named_target scope sink.name) ((named sink.name ∷ []) ∷ []) [] false h.2 (name_reads sink.name h.0 h.1)
