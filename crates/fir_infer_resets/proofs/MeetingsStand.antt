-- Where the code has joined what meets, the joins of the meeting stand in the graph.
use Rattle.std.proofs.Common.{◌≡◌, ℕ, List, [], ◌∷◌, ◌++◌, flat_map, Bool, true, false, map, Option, Some, None, length, refl, sym, ap, ◌∙◌, subst, Bor}
use Rattle.std.specs.Prelude.{option_map, not}
use Rattle.std.proofs.lemmas.Option.{same_Some, none-some}
use Rattle.fir_base.specs.Lists.{In}
use Rattle.fir_base.proofs.Members.{in_map, in_flat_map}
use Rattle.fir_ast.specs.declared.expressions.Reference.{Reference}
use Rattle.fir_ast.specs.declared.statements.Ident.{Ident}
use Rattle.fir_ast.specs.Types.{DataType}
use Rattle.fir_ast.specs.Expressions.{Expression, reference, literal, operation, mux, validif}
use Rattle.fir_ast.specs.Statements.{PlacedName, SinkReference}
use Rattle.fir_ast.specs.working.Views.{sink_of, named_of}
use Rattle.fir_ast.specs.Circuits.{CircuitTree}
use Rattle.fir_meaning.specs.LeafPaths.{named}
use Rattle.fir_meaning.specs.TypeLeaves.{TypeLeaf, type_leaves}
use Rattle.fir_meaning.specs.ConnectPairs.{Pair, pairs, partial_pairs}
use Rattle.fir_meaning.specs.Equivalence.{is_connectable, is_partly_connectable}
use Rattle.fir_meaning.specs.ExpressionPlaces.{place_of}
use Rattle.fir_meaning.specs.working.NameGroups.{HasNames}
use Rattle.fir_meaning.specs.TypeGroup.{scope_at, type_faults}
use Rattle.fir_meaning.specs.ExpressionTypes.{expression_type}
use Rattle.fir_meaning.specs.TypedScopes.{TypedScope}
use Rattle.fir_meaning.specs.Visibility.{Before, declaration_at, declarations}
use Rattle.fir_meaning.specs.Components as component
use Rattle.fir_meaning.specs.Reaching.{Reached}
use Rattle.fir_types.specs.working.Walked.{Begins}
use Rattle.fir_meaning.specs.SizedScopes.{sink_expression}
use Rattle.fir_meaning.specs.working.WellTyped.{HasType, Reaches, ConnectIsLegal}
use Rattle.fir_meaning.proofs.FoundTypes.{found_type}
use Rattle.fir_meaning.proofs.PairedLeaves.{pairs_leaves}
use Rattle.fir_meaning.proofs.PartialPairs.{partial_fit}
use Rattle.fir_types.specs.declared.findings.Findings.{Findings}
use Rattle.fir_types.specs.declared.found.Found.{Found}
use Rattle.fir_types.specs.declared.note.LeafRange.{LeafRange}
use Rattle.fir_types.specs.working.Seen as seen
use Rattle.fir_infer_resets.specs.declared.joined.Joined.{Joined as JoinedOfCode}
use Rattle.fir_infer_resets.specs.declared.meet.Meet.{Meet}
use Rattle.fir_infer_resets.specs.declared.meet.Meet.TheVariants as code
use Rattle.fir_infer_resets.specs.declared.meet.Source.{Source}
use Rattle.fir_infer_resets.specs.declared.meet.Source.TheVariants as source
use Rattle.fir_infer_resets.specs.declared.root.Root.{Root}
use Rattle.fir_infer_resets.specs.declared.root.Root.TheVariants as root
use Rattle.fir_meaning.specs.ResetItems.{End, value_end, leaf_end}
use Rattle.fir_meaning.specs.ResetJoins.{Join, ResetModule, ends_of, each_with_each, connect_joins, node_joins, joins}
use Rattle.fir_infer_resets.specs.working.Meetings.{Meeting, Sides, connected, partly_connected, named_by, instanced, joins_of, meeting, meetings, met_joins}
use Rattle.fir_infer_resets.specs.working.Meets.{IsNoReference, IsRange, IsSource, AreSides, IsMeet}
use Rattle.fir_infer_resets.specs.working.Resolved.{StandsIn}
use Rattle.fir_infer_resets.specs.working.Holding.{Holds, HoldsMore}
use Rattle.fir_infer_resets.specs.working.FirstPairs.{first_pairs, met_pairs}
use Rattle.fir_infer_resets.specs.working.FirstEnds.{JoinsMet}
use Rattle.fir_infer_resets.specs.working.JoinedSides.{pick_lengths, IsSourceRoot, SidesJoined, OfConnect, ConnectJoined, NodeSidesJoined, NodeJoined}
use Rattle.fir_infer_resets.proofs.FirstOfPairs.{OfPairs, StandForAll, of_pairs, for_pairs, of_partial, for_partial}
use Rattle.fir_infer_resets.proofs.LegalMeetings.{SidesLegal, legal_meeting}
use Rattle.fir_infer_resets.proofs.MeetingJoins.{meetings_join}
use Rattle.fir_infer_resets.proofs.MeetingSides.{reference_side, node_side}
use Rattle.fir_infer_resets.proofs.MetSteps.{stand_already}
use Rattle.fir_infer_resets.proofs.NoResets.{no_reset_in}
use Rattle.fir_infer_resets.proofs.ReferenceRanges.{range_of}
use Rattle.fir_infer_resets.proofs.ReferenceSides.{value_side}
use Rattle.fir_infer_resets.proofs.SelfPairs.{fits_itself, with_itself, paired_with_itself}
use Rattle.fir_infer_resets.proofs.SidesMeet.{IsSide, all_stand}

-- the root of a source stands for its expression
record SourceSide (c : CircuitTree) (number : ℕ) (ts : List DataType) (t : DataType) (ends : TypeLeaf → List End) (right : Option (Root × Found)) : Type 0 where
  own : Root × Found
  is : right ≡ Some own
  data_type : seen.found_type ts own.1 ≡ t
  side : IsSide c number t ends own.0

value_ends : (c : CircuitTree) (number : ℕ) (t : DataType) (m : ResetModule) (before : Before) (own : Root) (e : Expression) → IsNoReference e
    → IsSide c number t (λ l. value_end (place_of e) l.ground_type ∷ []) own → IsSide c number t (ends_of m before e) own
value_ends c number t m before own (reference p n ps) other h = absurd other
value_ends c number t m before own (literal l) other h = h
value_ends c number t m before own (operation p op es ks) other h = h
value_ends c number t m before own (mux p x a b) other h = h
value_ends c number t m before own (validif p x a) other h = h

module _ (c : CircuitTree) (names : HasNames c) (clear : type_faults c ≡ []) (findings : Findings) (number : ℕ) (x : Meeting) (stands : StandsIn c findings number x) (ts : List DataType) where
  abbrev scope : TypedScope
  scope = scope_at x.inside.modules x.before

  source_side : (given : Source) (e : Expression) (t : DataType) (right : Option (Root × Found)) → IsSource ts scope given e → HasType scope e t → IsSourceRoot c number given right
      → SourceSide c number ts t (ends_of x.inside x.before e) right
  source_side (source.Reference r None) e t right is has own =
      let h : HasType scope (sink_expression (sink_of r.now)) t = subst (λ z. HasType scope z t) is.0 has in
      let range = range_of ts scope (sink_of r.now) None h.1 (h.0, h.2, h.3) is.1 in absurd (none-some range.own range.is)
  source_side (source.Reference r (Some given)) e t None is has own = absurd own
  source_side (source.Reference r (Some given)) e t (Some right) is has own =
      let sink = sink_of r.now in
      let h : HasType scope (sink_expression sink) t = subst (λ z. HasType scope z t) is.0 has in
      let reaches : Reaches scope sink h.1 = (h.0, h.2, h.3) in
      let range = range_of ts scope sink (Some given.now) h.1 reaches is.1 in
      let same : given.now ≡ range.own = same_Some given.now range.own range.is in
      let lengths = ap pick_lengths same ∙ range.lengths in
      let side = reference_side c names findings number x stands sink h.1 reaches (pick_lengths given.now) lengths right.0 own.0 in
      record {
        own = right;
        is = refl;
        data_type = ap (seen.found_type ts) (own.1 ∙ ap (λ (z : LeafRange). z.found) same) ∙ range.data_type ∙ sym h.4;
        side =
            subst (λ u. IsSide c number u (ends_of x.inside x.before e) right.0) (sym h.4)
            (subst (λ z. IsSide c number h.1.data_type (ends_of x.inside x.before z) right.0) (sym is.0) side);
      }
  source_side (source.Value p None) e t right is has own = absurd (none-some t (is.2 ∙ ap (λ z. z.has) (found_type scope e t has)))
  source_side (source.Value p (Some found)) e t None is has own = absurd own
  source_side (source.Value p (Some found)) e t (Some right) is has own =
      let type : seen.found_type ts found ≡ t = same_Some (seen.found_type ts found) t (is.2 ∙ ap (λ z. z.has) (found_type scope e t has)) in
      let side = value_side c number t (place_of e) (no_reset_in scope e t is.0 has) in
      record {
        own = right;
        is = refl;
        data_type = ap (seen.found_type ts) own.1 ∙ type;
        side = subst (IsSide c number t (ends_of x.inside x.before e)) (ap root.Value (sym is.1) ∙ sym own.0) (value_ends c number t x.inside x.before (root.Value (place_of e)) e is.0 side);
      }

  -- its joins are joins of the circuit
  pub of_circuit : (j : Join) → In (joins_of x) j → In (joins c) j
  of_circuit j i = subst (λ l. In l j) (sym (meetings_join c)) (in_flat_map joins_of (meetings c) x j stands.among i)

  -- the leaves that a connect, or a partial connect, pairs
  record PairsOf (partly : Bool) (t u : DataType) (ps : List Pair) : Type 0 where
    leaves : (p : Pair) → In ps p → In (type_leaves t) p.left × In (type_leaves u) p.right
    of : OfPairs [] (met_pairs partly [] t u) ps
    all : StandForAll [] (met_pairs partly [] t u) ps

  whole_pairs : (t u : DataType) → is_connectable t u ≡ true → PairsOf false t u (pairs t u)
  whole_pairs t u h =
      let both = pairs_leaves t u h in
      record {
        leaves = λ p i. (
          subst (λ l. In l p.left) both.left (in_map (λ (q : Pair). q.left) (pairs t u) p i),
          subst (λ l. In l p.right) both.right (in_map (λ (q : Pair). q.right) (pairs t u) p i),
        );
        of = of_pairs [] t u h;
        all = for_pairs [] t u h;
      }

  partly_pairs : (t u : DataType) → is_partly_connectable t u ≡ true → PairsOf true t u (partial_pairs t u)
  partly_pairs t u h =
      record { leaves = λ p i. let w = partial_fit t u h p i in (w.left, w.right); of = of_partial [] t u; all = for_partial [] t u }

  module _ (fits : DataType → DataType → Bool) (pairs_of : DataType → DataType → List Pair) (partly : Bool)
      (paired : (t u : DataType) → fits t u ≡ true → PairsOf partly t u (pairs_of t u)) (sink : SinkReference) (e : Expression) (legal : ConnectIsLegal fits pairs_of scope sink e) where
    abbrev left : Reached
    left = legal.0

    abbrev side_joins : Pair → List Join
    side_joins p = each_with_each (ends_of x.inside x.before (sink_expression sink) p.left) (ends_of x.inside x.before e p.right)

    abbrev these_joins : List Join
    these_joins = flat_map side_joins (pairs_of left.data_type legal.1)

    -- what is said of the connect
    sides_join : connect_joins pairs_of x.inside x.before sink e (expression_type scope (sink_expression sink)).has (expression_type scope e).has ≡ these_joins
    sides_join =
        let reaches = legal.2 in
        let has_sink : HasType scope (sink_expression sink) left.data_type = (reaches.0, left, reaches.1, reaches.2, refl) in
        ap (λ o. connect_joins pairs_of x.inside x.before sink e o (expression_type scope e).has) (ap (λ z. z.has) (found_type scope (sink_expression sink) left.data_type has_sink))
        ∙ ap (connect_joins pairs_of x.inside x.before sink e (Some left.data_type)) (ap (λ z. z.has) (found_type scope e legal.1 legal.3))

    connect_stands : (range : Option LeafRange) (given : Source) (old new : JoinedOfCode) → IsRange ts range scope sink → IsSource ts scope given e
        → ConnectJoined c number ts partly sink range given old new → ((j : Join) → In these_joins j → In (joins c) j) → (js : List Join) (before : Holds c js old)
        → HoldsMore before these_joins new
    connect_stands range given old new ranged is joined circuit js before =
        let own = range_of ts scope sink range left legal.2 ranged in
        let of : OfConnect c number ts partly sink own.own given old new = subst (λ o. ConnectJoined c number ts partly sink o given old new) own.is joined in
        let right = source_side given e legal.1 of.right is legal.3 of.right_is in
        let met = subst (λ o. SidesJoined c number ts partly of.left own.own.found o old new) right.is of.joined in
        let types = subst (λ u. JoinsMet c number of.left right.own.0 (met_pairs partly [] left.data_type u) old new) right.data_type
        (subst (λ t. JoinsMet c number of.left right.own.0 (met_pairs partly [] t (seen.found_type ts right.own.1)) old new) own.data_type met) in
        let side = reference_side c names findings number x stands sink left legal.2 (pick_lengths own.own) own.lengths of.left of.left_is in
        let ps = paired left.data_type legal.1 legal.4 in
        all_stand c number of.left right.own.0 left.data_type legal.1 (ends_of x.inside x.before (sink_expression sink)) (ends_of x.inside x.before e) side right.side
        (pairs_of left.data_type legal.1) (met_pairs partly [] left.data_type legal.1) ps.leaves ps.of ps.all circuit old new types js before

  -- a node
  module _ (n : PlacedName) (e : Expression) (t : DataType) (has : HasType scope e t)
      (begins : Begins (x.before.declared ++ declaration_at x.before n (component.node e) ∷ []) (declarations x.inside.inside)) where
    abbrev node_ends : ℕ → TypeLeaf → List End
    node_ends k l = leaf_end k n.place (named n.name ∷ l.path) l.ground_type ∷ []

    abbrev node_pair_joins : ℕ → Pair → List Join
    node_pair_joins k p = each_with_each (node_ends k p.left) (ends_of x.inside x.before e p.right)

    abbrev node_these : List Join
    node_these = flat_map (node_pair_joins number) (pairs t t)

    leaf_by_leaf : (k : ℕ) (ls : List TypeLeaf) → flat_map (λ l. node_pair_joins k (with_itself l)) ls ≡ flat_map (node_pair_joins k) (map with_itself ls)
    leaf_by_leaf k [] = refl
    leaf_by_leaf k (l ∷ ls) = ap (λ js. node_pair_joins k (with_itself l) ++ js) (leaf_by_leaf k ls)

    -- what is said of the node
    node_join : node_joins x.inside x.before n e (expression_type scope e).has ≡ node_these
    node_join =
        ap (node_joins x.inside x.before n e) (ap (λ z. z.has) (found_type scope e t has))
        ∙ leaf_by_leaf x.inside.number (type_leaves t) ∙ ap (λ k. flat_map (node_pair_joins k) (map with_itself (type_leaves t))) stands.number_is
        ∙ ap (flat_map (node_pair_joins number)) (sym (paired_with_itself t))

    node_stands : (given : Source) (old new : JoinedOfCode) → IsSource ts scope given e → NodeJoined c number ts n given old new
        → ((j : Join) → In node_these j → In (joins c) j) → (js : List Join) (before : Holds c js old) → HoldsMore before node_these new
    node_stands given old new is joined circuit js before =
        let right = source_side given e t joined.right is has joined.right_is in
        let met = subst (λ o. NodeSidesJoined c number ts joined.left o old new) right.is joined.joined in
        let types = subst (λ u. JoinsMet c number joined.left right.own.0 (first_pairs [] u u) old new) right.data_type met in
        let side = node_side c names findings number x stands n e t has begins joined.left joined.left_is in
        let ps = whole_pairs t t (fits_itself t) in
        all_stand c number joined.left right.own.0 t t (node_ends number) (ends_of x.inside x.before e) side right.side (pairs t t) (first_pairs [] t t) ps.leaves ps.of ps.all circuit
        old new types js before

  -- what the code has met
  legal_here : (sides : Sides) → x.sides ≡ sides → SidesLegal x.inside.modules (declarations x.inside.inside) x.before sides
  legal_here sides e = subst (SidesLegal x.inside.modules (declarations x.inside.inside) x.before) e (legal_meeting c names clear x stands.among).legal

  -- the joins of a meeting of these sides
  module _ (sides : Sides) (is : x.sides ≡ sides) (these : List Join) where
    whole_meeting : x ≡ meeting x.inside x.before sides
    whole_meeting = ap (meeting x.inside x.before) is

    in_circuit : joins_of (meeting x.inside x.before sides) ≡ these → (j : Join) → In these j → In (joins c) j
    in_circuit e j i = of_circuit j (subst (λ l. In l j) (sym (ap joins_of whole_meeting ∙ e)) i)

    for_meeting : (js : List Join) (old new : JoinedOfCode) (before : Holds c js old) → met_joins (meeting x.inside x.before sides) ≡ these → HoldsMore before these new
        → HoldsMore before (met_joins x) new
    for_meeting js old new before e h = subst (λ l. HoldsMore before l new) (sym (ap met_joins whole_meeting ∙ e)) h

  module _ (js : List Join) (old new : JoinedOfCode) (before : Holds c js old) where
    connected_by : (position : ℕ) (whole partly : Bool) (r : Bor Reference) (range : Option (Bor LeafRange)) (given : Source) → partly ≡ not whole
        → ConnectJoined c number ts partly (sink_of r.now) (option_map (λ y. y.now) range) given old new → (sides : Sides) → x.sides ≡ sides
        → AreSides ts scope position (code.Connected whole r range given) sides → HoldsMore before (met_joins x) new
    connected_by position true partly r range given p joined (connected sink e) is met =
        let legal = legal_here (connected sink e) is in
        let here = subst (λ b. ConnectJoined c number ts b sink (option_map (λ y. y.now) range) given old new) p
        (subst (λ s. ConnectJoined c number ts partly s (option_map (λ y. y.now) range) given old new) (sym met.0) joined) in
        let these = these_joins is_connectable pairs false whole_pairs sink e legal in
        let same = sides_join is_connectable pairs false whole_pairs sink e legal in
        for_meeting (connected sink e) is these js old new before same
        (connect_stands is_connectable pairs false whole_pairs sink e legal (option_map (λ y. y.now) range) given old new met.1 met.2 here
        (in_circuit (connected sink e) is these same) js before)
    connected_by position false partly r range given p joined (partly_connected sink e) is met =
        let legal = legal_here (partly_connected sink e) is in
        let here = subst (λ b. ConnectJoined c number ts b sink (option_map (λ y. y.now) range) given old new) p
        (subst (λ s. ConnectJoined c number ts partly s (option_map (λ y. y.now) range) given old new) (sym met.0) joined) in
        let these = these_joins is_partly_connectable partial_pairs true partly_pairs sink e legal in
        let same = sides_join is_partly_connectable partial_pairs true partly_pairs sink e legal in
        for_meeting (partly_connected sink e) is these js old new before same
        (connect_stands is_partly_connectable partial_pairs true partly_pairs sink e legal (option_map (λ y. y.now) range) given old new met.1 met.2 here
        (in_circuit (partly_connected sink e) is these same) js before)
    connected_by position true partly r range given p joined (partly_connected sink e) is met = absurd met
    connected_by position true partly r range given p joined (named_by n e) is met = absurd met
    connected_by position true partly r range given p joined (instanced n name) is met = absurd met
    connected_by position false partly r range given p joined (connected sink e) is met = absurd met
    connected_by position false partly r range given p joined (named_by n e) is met = absurd met
    connected_by position false partly r range given p joined (instanced n name) is met = absurd met

    named_by_code : (position at : ℕ) (i : Bor Ident) (given : Source) → NodeJoined c number ts (named_of i.now) given old new → (sides : Sides) → x.sides ≡ sides
        → AreSides ts scope position (code.Node i at given) sides → HoldsMore before (met_joins x) new
    named_by_code position at i given joined (named_by n e) is met =
        let legal = legal_here (named_by n e) is in
        let here = subst (λ m. NodeJoined c number ts m given old new) (sym met.0) joined in
        let these = node_these n e legal.0.0 legal.0.1 legal.1 in
        let same = node_join n e legal.0.0 legal.0.1 legal.1 in
        for_meeting (named_by n e) is these js old new before same
        (node_stands n e legal.0.0 legal.0.1 legal.1 given old new met.2 here (in_circuit (named_by n e) is these same) js before)
    named_by_code position at i given joined (connected sink e) is met = absurd met
    named_by_code position at i given joined (partly_connected sink e) is met = absurd met
    named_by_code position at i given joined (instanced n name) is met = absurd met

  -- an instance joins nothing
  instanced_by : (js : List Join) (old : JoinedOfCode) (before : Holds c js old) (position at : ℕ) (i : Bor Ident) (sides : Sides) → x.sides ≡ sides
      → AreSides ts scope position (code.Instance i at) sides → HoldsMore before (met_joins x) old
  instanced_by js old before position at i (instanced n name) is met =
      for_meeting (instanced n name) is [] js old old before refl (stand_already c js old before [] (λ j k r. absurd k))
  instanced_by js old before position at i (connected sink e) is met = absurd met
  instanced_by js old before position at i (partly_connected sink e) is met = absurd met
  instanced_by js old before position at i (named_by n e) is met = absurd met

  -- each by what the code has met
  pub connect_met : (own : Meet) (whole partly : Bool) (r : Bor Reference) (range : Option (Bor LeafRange)) (given : Source) → own ≡ code.Connected whole r range given → partly ≡ not whole
      → IsMeet ts own x → (js : List Join) (old new : JoinedOfCode) (before : Holds c js old)
      → ConnectJoined c number ts partly (sink_of r.now) (option_map (λ y. y.now) range) given old new → HoldsMore before (met_joins x) new
  connect_met own whole partly r range given is p met js old new before joined =
      connected_by js old new before (length x.before.declared) whole partly r range given p joined x.sides refl
      (subst (λ o. AreSides ts scope (length x.before.declared) o x.sides) is met)

  pub node_met : (own : Meet) (at : ℕ) (i : Bor Ident) (given : Source) → own ≡ code.Node i at given → IsMeet ts own x → (js : List Join) (old new : JoinedOfCode) (before : Holds c js old)
      → NodeJoined c number ts (named_of i.now) given old new → HoldsMore before (met_joins x) new
  node_met own at i given is met js old new before joined =
      named_by_code js old new before (length x.before.declared) at i given joined x.sides refl (subst (λ o. AreSides ts scope (length x.before.declared) o x.sides) is met)

  pub instance_met : (own : Meet) (at : ℕ) (i : Bor Ident) → own ≡ code.Instance i at → IsMeet ts own x → (js : List Join) (old : JoinedOfCode) (before : Holds c js old)
      → HoldsMore before (met_joins x) old
  instance_met own at i is met js old before =
      instanced_by js old before (length x.before.declared) at i x.sides refl (subst (λ o. AreSides ts scope (length x.before.declared) o x.sides) is met)
