-- The drives of a module drive leaves of the module that statements may drive, by paths.
use Rattle.std.proofs.Common.{◌≡◌, ℕ, suc, ◌+◌, ◌<◌, List, [], ◌∷◌, ◌++◌, flat_map, Bool, true, false, not, if◌then◌else◌, length, slice_get, Option, Some, None, option_map, refl, sym, ap, ◌∙◌, subst, inl, inr, ⊎_elim, arith}
use Rattle.std.proofs.lemmas.Grind.{flat_map-append}
use Rattle.std.specs.List.{All}
use Rattle.std.proofs.lemmas.List.Elements.{All-head, All-tail}
use Rattle.fir_base.specs.Lists.{In}
use Rattle.fir_base.proofs.Each.{all_at}
use Rattle.fir_base.proofs.Members.{in_either, in_map_from}
use Rattle.fir_ast.specs.declared.place.Place.{Place}
use Rattle.fir_ast.specs.Expressions.{Expression, literal, mux, operation, reference, validif}
use Rattle.fir_ast.specs.Statements.{Block, SinkReference, Statement, connect, done, instance, invalid, memory, node, partial_connect, register, skip, then, when, wire}
use Rattle.fir_ast.specs.Types.{DataType}
use Rattle.fir_meaning.specs.ConnectPairs.{Pair, pairs, partial_pairs}
use Rattle.fir_meaning.specs.Equivalence.{is_connectable, is_partly_connectable}
use Rattle.fir_meaning.specs.ExpressionTypes.{reached_by}
use Rattle.fir_meaning.specs.Flows.{flow_under, is_source}
use Rattle.fir_meaning.specs.LeafPaths.{LeafPath}
use Rattle.fir_meaning.specs.MemoryTypes.{first_one}
use Rattle.fir_meaning.specs.ModuleScenes.{Scene, behind_all_ports, scope_before}
use Rattle.fir_meaning.specs.Reaching.{Reached}
use Rattle.fir_meaning.specs.SamePaths.{may_be_driven}
use Rattle.fir_meaning.specs.SizedScopes.{sink_expression}
use Rattle.fir_meaning.specs.SourceDrives.{Drive, drives, invalid_drive, invalid_drives, module_drives, pair_drive, pair_drives, side, type_here}
use Rattle.fir_meaning.specs.SourceFacts.{source_may_drive}
use Rattle.fir_meaning.specs.SourceReads.{leaves_named}
use Rattle.fir_meaning.specs.TypeGroup.{scope_at}
use Rattle.fir_meaning.specs.TypeLeaves.{TypeLeaf, type_leaves}
use Rattle.fir_meaning.specs.TypedScopes.{TypedScope}
use Rattle.fir_meaning.specs.Visibility.{Before, behind, behind_block, opened, reopened}
use Rattle.fir_meaning.specs.Visits.{Branch, Visit, branch, visit, visits, visits_in}
use Rattle.fir_meaning.specs.working.LeafModules.{leaf_at, may_drive}
use Rattle.fir_meaning.specs.working.LeafPairs.{LeafPair, leaf_pairs, partial_leaf_pairs}
use Rattle.fir_meaning.specs.working.Leafed.{target_of}
use Rattle.fir_meaning.specs.working.LeafedModules.{module_leaves}
use Rattle.fir_meaning.specs.working.WellTyped.{AreLegal, ConnectIsLegal, FlowsTo, HasType, IsLegal, MayBeDriven, MayBeDrivenIn, PairFlows, Reaches}
use Rattle.fir_meaning.proofs.FoundTypes.{found_sink}
use Rattle.fir_leaf.specs.working.LeafLaws.{Begins}
use Rattle.fir_leaf.proofs.PairsByNumber.{ArePairs, IsPair, pairs_numbered, partial_numbered}
use Rattle.fir_leaf.proofs.ScopesBegin.{begins_all, begins_block, begins_through}
use Rattle.fir_design.proofs.FineScenes.{IsFineScene, leaf_path, whole_scope}
use Rattle.fir_design.proofs.SourceLeaves.{source_may_drive_is}
use Rattle.fir_source_faults.specs.working.ReadsByPath.{ReadsByPath, leaves_from, leaves_of_target, path_in}
use Rattle.fir_source_faults.proofs.ConnectPieces.{found_here, sink_has_type}
use Rattle.fir_design_faults.proofs.TargetFlows.{sink_flows}

-- a leaf of the module that statements may drive
pub record IsDriven (s : Scene) (q : LeafPath) : Type 0 where
  pub leaf : ℕ
  pub within : leaf < length (module_leaves s)
  pub path : path_in s leaf ≡ q
  pub may : may_drive (leaf_at (module_leaves s) leaf).role ≡ true

abbrev pub DriveLeaves : Scene → List Drive → Type 0
DriveLeaves s ds = (d : Drive) → In ds d → (q : LeafPath) → In d.driven.leaves q → IsDriven s q

joined_leaves : (s : Scene) (ds es : List Drive) → DriveLeaves s ds → DriveLeaves s es → DriveLeaves s (ds ++ es)
joined_leaves s ds es h k d i q j = ⊎_elim (λ (l : In ds d). h d l q j) (λ (r : In es d). k d r q j) (in_either ds es d i)

single : (s : Scene) (c : Drive) → ((q : LeafPath) → In c.driven.leaves q → IsDriven s q) → DriveLeaves s (c ∷ [])
single s c h d (inl e) q j = h q (subst (λ (x : Drive). In x.driven.leaves q) (sym e) j)
single s c h d (inr i) q j = absurd i

module _ (s : Scene) (f : IsFineScene s) (reading : ReadsByPath s) where
  module _ (scope : TypedScope) (front : Begins scope (whole_scope s)) (x : SinkReference) (z : Reached) (h : Reaches scope x z) (k : ℕ) (l : TypeLeaf)
      (is : slice_get (type_leaves z.data_type) k ≡ Some l) where
    -- a leaf that the reference names, by its number
    record IsNamed (q : LeafPath) : Type 0 where
      leaf : ℕ
      within : leaf < length (module_leaves s)
      path : path_in s leaf ≡ q
      reaches : (p : LeafPath) × (z.path ≡ Some p)
      may : may_drive (leaf_at (module_leaves s) leaf).role ≡ not (is_source (flow_under l.flip z.flow))

    leaf_named : (q : LeafPath) → In (leaves_named scope x.name x.parts l.path) q → IsNamed q
    leaf_named q i =
        let names = reading.target scope x z k l front h is in
        let flows = sink_flows s f scope front x z h in
        let y = in_map_from (path_in s) (leaves_of_target (target_of scope x) k) q (subst (λ qs. In qs q) (sym names.leaves) i) in
        let lt = all_at (λ v. v < length (module_leaves s)) (leaves_of_target (target_of scope x) k) names.within y.0 y.1 in
        let own : slice_get (type_leaves (target_of scope x).data_type) k ≡ Some l = ap (λ t. slice_get (type_leaves t) k) flows.data_type ∙ is in
        record {
          leaf = y.0;
          within = lt;
          path = y.2;
          reaches = of_base (target_of scope x).base refl y.0 y.1;
          may = sym (source_may_drive_is s f y.0 lt) ∙ flows.each k l y.0 own y.1;
        }
      where
        of_base : (o : Option ℕ) → (target_of scope x).base ≡ o → (y : ℕ) → In (leaves_from o (target_of scope x).picks k) y → (p : LeafPath) × (z.path ≡ Some p)
        of_base None e y m = absurd m
        of_base (Some b) e y m = (sink_flows s f scope front x z h).there b e

    named_driven : MayBeDriven z l → (q : LeafPath) → In (leaves_named scope x.name x.parts l.path) q → IsDriven s q
    named_driven may q i =
        let n = leaf_named q i in
        let none : is_source (flow_under l.flip z.flow) ≡ false = may (n.reaches.0 ++ l.path) (ap (option_map (λ path. path ++ l.path)) n.reaches.1) in
        record { leaf = n.leaf; within = n.within; path = n.path; may = n.may ∙ ap not none }

    -- where the first may be driven, each may
    first_driven : may_be_driven (source_may_drive s) (first_one (leaves_named scope x.name x.parts l.path)) ≡ true
        → (q : LeafPath) → In (leaves_named scope x.name x.parts l.path) q → IsDriven s q
    first_driven e q i =
        let n = leaf_named q i in
        record { leaf = n.leaf; within = n.within; path = n.path; may = n.may ∙ by (leaves_named scope x.name x.parts l.path) refl e }
      where
        by : (qs : List LeafPath) → leaves_named scope x.name x.parts l.path ≡ qs → may_be_driven (source_may_drive s) (first_one qs) ≡ true
            → not (is_source (flow_under l.flip z.flow)) ≡ true
        by [] same e = absurd (cc)
        by (p ∷ qs) same e =
            let m = leaf_named p (subst (λ ps. In ps p) (sym same) (inl refl)) in
            sym m.may ∙ sym (source_may_drive_is s f m.leaf m.within) ∙ ap (source_may_drive s) (sym (leaf_path s f m.leaf) ∙ m.path) ∙ e

  module _ (v : Visit) (front : Begins (scope_before s v.before) (whole_scope s)) where
    abbrev scope : TypedScope
    scope = scope_before s v.before

    -- the right side of a connect
    right_driven : (e : Expression) (t : DataType) (k : ℕ) (l : TypeLeaf) → HasType scope e t → slice_get (type_leaves t) k ≡ Some l
        → MayBeDrivenIn (reached_by scope e) l → (q : LeafPath) → In (side scope e l.path).leaves q → IsDriven s q
    right_driven (reference p n ps) t k l h is may q i =
        let x : SinkReference = record { place = p; name = n; parts = ps } in
        let reaches : Reaches scope x h.1 = (h.0, h.2, h.3) in
        let found : reached_by scope (reference p n ps) ≡ Some h.1 = ap (λ c. c.has) (found_sink scope x h.1 reaches) in
        named_driven scope front x h.1 reaches k l (subst (λ u. slice_get (type_leaves u) k ≡ Some l) h.4 is)
        (subst (λ o. MayBeDrivenIn o l) found may) q i
    right_driven (literal y) t k l h is may q i = absurd i
    right_driven (operation p op es ks) t k l h is may q i = absurd i
    right_driven (mux p c a b) t k l h is may q i = absurd i
    right_driven (validif p c a) t k l h is may q i = absurd i

    module _ (p : Place) (x : SinkReference) (e : Expression) (left : Reached) (t : DataType) (reaches : Reaches (scope_before s v.before) x left)
        (has : HasType (scope_before s v.before) e t) where
      pair_driven : (way : List Bool) (n : LeafPair) (pair : Pair) → IsPair (type_leaves left.data_type) (type_leaves t) n pair
          → PairFlows left (reached_by scope e) pair → (q : LeafPath) → In (pair_drive s v way p (sink_expression x) e pair).driven.leaves q → IsDriven s q
      pair_driven way n pair w flows q i = by pair.left.flip flows i
        where
          by : (b : Bool) → FlowsTo b left (reached_by scope e) pair
              → (λ (d : Drive). In d.driven.leaves q) (if b
              then record { way = way; place = p; under = v.under; driven = side scope e pair.right.path; given = side scope (sink_expression x) pair.left.path }
              else record {
                way = way;
                place = p;
                under = v.under;
                driven = side scope (sink_expression x) pair.left.path;
                given = side scope e pair.right.path;
              })
              → IsDriven s q
          by true h i = right_driven e t n.right pair.right has w.right h q i
          by false h i = named_driven scope front x left reaches n.left pair.left w.left h q i

      pairs_driven : (way : List Bool) (ns : List LeafPair) (qs : List Pair) → ArePairs (IsPair (type_leaves left.data_type) (type_leaves t)) ns qs
          → All (PairFlows left (reached_by scope e)) qs → DriveLeaves s (pair_drives s v way p (sink_expression x) e qs)
      pairs_driven way [] [] h all = λ d i. absurd i
      pairs_driven way [] (q ∷ qs) h all = absurd h
      pairs_driven way (n ∷ ns) [] h all = absurd h
      pairs_driven way (n ∷ ns) (y ∷ qs) h all =
          joined_leaves s (pair_drive s v (way ++ false ∷ []) p (sink_expression x) e y ∷ []) (pair_drives s v (way ++ true ∷ []) p (sink_expression x) e qs)
          (single s (pair_drive s v (way ++ false ∷ []) p (sink_expression x) e y)
          (pair_driven (way ++ false ∷ []) n y h.0 (All-head (PairFlows left (reached_by scope e)) y qs all)))
          (pairs_driven (way ++ true ∷ []) ns qs h.1 (All-tail (PairFlows left (reached_by scope e)) y qs all))

    connect_driven : (fits : DataType → DataType → Bool) (numbers_of : DataType → DataType → List LeafPair) (pairs_of : DataType → DataType → List Pair)
        → ((t u : DataType) → fits t u ≡ true → ArePairs (IsPair (type_leaves t) (type_leaves u)) (numbers_of t u) (pairs_of t u)) → (p : Place)
        (x : SinkReference) (e : Expression) → ConnectIsLegal fits pairs_of scope x e
        → DriveLeaves s (pair_drives s v v.way p (sink_expression x) e (pairs_of (type_here scope (sink_expression x)) (type_here scope e)))
    connect_driven fits numbers_of pairs_of alike p x e h =
        let left : type_here scope (sink_expression x) ≡ h.0.data_type = found_here scope (sink_expression x) h.0.data_type (sink_has_type scope x h.0 h.2) in
        let right : type_here scope e ≡ h.1 = found_here scope e h.1 h.3 in
        rw (left, right)
        (pairs_driven p x e h.0 h.1 h.2 h.3 v.way (numbers_of h.0.data_type h.1) (pairs_of h.0.data_type h.1) (alike h.0.data_type h.1 h.4) h.5)

    invalid_driven : (p : Place) (x : SinkReference) (z : Reached) → Reaches scope x z → (way : List Bool) (ls : List TypeLeaf) (n : ℕ)
        → ((i : ℕ) (l : TypeLeaf) → slice_get ls i ≡ Some l → slice_get (type_leaves z.data_type) (n + i) ≡ Some l)
        → DriveLeaves s (invalid_drives s v way p (sink_expression x) ls)
    invalid_driven p x z h way [] n stand = λ d i. absurd i
    invalid_driven p x z h way (l ∷ ls) n stand =
        let first : n + 0 ≡ n = omega arith in
        let here : slice_get (type_leaves z.data_type) n ≡ Some l = rw first at (stand 0 l refl) in
        joined_leaves s (invalid_drive s v (way ++ false ∷ []) p (side scope (sink_expression x) l.path))
        (invalid_drives s v (way ++ true ∷ []) p (sink_expression x) ls)
        (one (may_be_driven (source_may_drive s) (first_one (leaves_named scope x.name x.parts l.path))) here
        (λ e. first_driven scope front x z h n l here e))
        (invalid_driven p x z h (way ++ true ∷ []) ls (suc n) (λ i y e. let next : suc n + i ≡ n + suc i = omega arith in rw next (stand (suc i) y e)))
      where
        one : (b : Bool) → slice_get (type_leaves z.data_type) n ≡ Some l
            → (b ≡ true → (q : LeafPath) → In (leaves_named scope x.name x.parts l.path) q → IsDriven s q)
            → DriveLeaves s
            (if b then record {
              way = way ++ false ∷ [];
              place = p;
              under = v.under;
              driven = side scope (sink_expression x) l.path;
              given = record { leaves = []; is_picked = false; index_reads = []; index_places = []; reads = [] };
            } ∷ [] else [])
        one true here h d (inl e) q j = h refl q (subst (λ (c : Drive). In c.driven.leaves q) (sym e) j)
        one true here h d (inr i) q j = absurd i
        one false here h d i q j = absurd i

  abbrev drives_of : List Visit → List Drive
  drives_of = flat_map (drives s)

  own_drives : (v : Visit) → DriveLeaves s (drives s v) → DriveLeaves s (drives_of (v ∷ []))
  own_drives v h = joined_leaves s (drives s v) [] h (λ d i. absurd i)

  both_drives : (vs ws : List Visit) → DriveLeaves s (drives_of vs) → DriveLeaves s (drives_of ws) → DriveLeaves s (drives_of (vs ++ ws))
  both_drives vs ws h k = rw (flat_map-append (drives s) vs ws) (joined_leaves s (drives_of vs) (drives_of ws) h k)

  nothing : (v : Visit) → drives s v ≡ [] → DriveLeaves s (drives_of (v ∷ []))
  nothing v e = own_drives v (rw e (λ d i. absurd i))

  mutual
    statement_driven : (z : Statement) (before : Before) (way : List Bool) (under : List Branch)
        → Begins (scope_at s.own.modules (behind before z)) (whole_scope s) → IsLegal s.own.modules before z
        → DriveLeaves s (drives_of (visits way before under z))
    statement_driven (wire p n begins t) before way under b h = nothing (visit way before under (wire p n begins t)) refl
    statement_driven (register p n begins t c r) before way under b h = nothing (visit way before under (register p n begins t c r)) refl
    statement_driven (node p n e) before way under b h = nothing (visit way before under (node p n e)) refl
    statement_driven (memory p n parts) before way under b h = nothing (visit way before under (memory p n parts)) refl
    statement_driven (skip p) before way under b h = nothing (visit way before under (skip p)) refl
    statement_driven (instance p n other) before way under b h = nothing (visit way before under (instance p n other)) refl
    statement_driven (when p c x y) before way under b h =
        let modules = s.own.modules in
        let inside = behind_block (opened before) x in
        let first = visits_in (way ++ false ∷ []) (opened before) (under ++ branch way before c true ∷ []) x in
        let second = visits_in (way ++ true ∷ []) (reopened before inside) (under ++ branch way before c false ∷ []) y in
        let behind_x : Begins (scope_at modules inside) (whole_scope s) =
        begins_through (scope_at modules inside) (scope_at modules (behind_block (reopened before inside) y)) (whole_scope s)
        (begins_block modules y (reopened before inside)) b in
        joined_leaves s [] (drives_of (first ++ second)) (λ d i. absurd i)
        (both_drives first second (block_driven x (opened before) (way ++ false ∷ []) (under ++ branch way before c true ∷ []) behind_x h.2)
        (block_driven y (reopened before inside) (way ++ true ∷ []) (under ++ branch way before c false ∷ []) b h.3))
    statement_driven (connect p x e) before way under b h =
        let v = visit way before under (connect p x e) in
        own_drives v (connect_driven v b is_connectable leaf_pairs pairs pairs_numbered p x e h)
    statement_driven (partial_connect p x e) before way under b h =
        let v = visit way before under (partial_connect p x e) in
        own_drives v (connect_driven v b is_partly_connectable partial_leaf_pairs partial_pairs partial_numbered p x e h)
    statement_driven (invalid p x) before way under b h =
        let v = visit way before under (invalid p x) in
        let scope = scope_before s before in
        let typed : type_here scope (sink_expression x) ≡ h.0.data_type = found_here scope (sink_expression x) h.0.data_type (sink_has_type scope x h.0 h.1) in
        own_drives v
        (rw typed
        (invalid_driven v b p x h.0 h.1 way (type_leaves h.0.data_type) 0 (λ i l e. let none : 0 + i ≡ i = omega arith in rw none e)))

    block_driven : (z : Block) (before : Before) (way : List Bool) (under : List Branch)
        → Begins (scope_at s.own.modules (behind_block before z)) (whole_scope s) → AreLegal s.own.modules before z
        → DriveLeaves s (drives_of (visits_in way before under z))
    block_driven done before way under b h = λ d i. absurd i
    block_driven ((then) z rest) before way under b h =
        let next = behind before z in
        both_drives (visits (way ++ false ∷ []) before under z) (visits_in (way ++ true ∷ []) next under rest)
        (statement_driven z before (way ++ false ∷ []) under
        (begins_through (scope_at s.own.modules next) (scope_at s.own.modules (behind_block next rest)) (whole_scope s)
        (begins_block s.own.modules rest next) b) h.0)
        (block_driven rest next (way ++ true ∷ []) under b h.1)

  pub module_driven : DriveLeaves s (module_drives s)
  module_driven = block_driven s.own.inside.body (behind_all_ports s.own.inside) [] [] (begins_all (whole_scope s)) f.legal
