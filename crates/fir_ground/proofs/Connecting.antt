-- Connects and `is invalid`, from what comes of their expressions.
use Rattle.std.proofs.Common.{◌≡◌, ℕ, ◌≤◌, List, [], ◌∷◌, ◌++◌, map, length, Bool, Option, Some, None, Vec, Global, refl, sym, ap, ◌∙◌, subst, arith}
use Rattle.std.proofs.lemmas.List.{length-map}
use Rattle.fir_ast.specs.declared.place.Place.{Place}
use Rattle.fir_ast.specs.Types.{DataType}
use Rattle.fir_ast.specs.Expressions.{Expression}
use Rattle.fir_ast.specs.Statements.{SinkReference}
use Rattle.fir_meaning.specs.CostGroup.{cost_limit}
use Rattle.fir_meaning.specs.ExpressionTypes.{expression_type}
use Rattle.fir_meaning.specs.Reaching.{Reached}
use Rattle.fir_meaning.specs.TypedScopes.{TypedScope}
use Rattle.fir_meaning.specs.TypeLeaves.{leaf_count}
use Rattle.fir_meaning.specs.working.WellTyped.{HasType, Reaches as ReachesThere}
use Rattle.fir_meaning.proofs.FoundTypes.{found_type as found_at}
use Rattle.fir_types.specs.declared.found.Found.{Found}
use Rattle.fir_types.specs.working.Notes.{Note, expression_notes}
use Rattle.fir_types.specs.working.Seen.{found_type}
use Rattle.fir_leaf.specs.declared.node.Node.{Node}
use Rattle.fir_leaf.specs.declared.node.Node.TheVariants as node
use Rattle.fir_leaf.specs.declared.statement.LeafStmt.{LeafStmt}
use Rattle.fir_meaning.specs.working.Leafed.{target_of, target_read, target_terms, terms}
use Rattle.fir_meaning.specs.working.LeafedBlocks.{Sides, connect_block, invalid_block, pairs_block, sides}
use Rattle.fir_meaning.specs.FoundTypes.{type_where}
use Rattle.fir_meaning.specs.working.LeafPairs.{LeafPair}
use Rattle.fir_leaf.specs.working.NodeBlocks.{Emitted}
use Rattle.fir_leaf.specs.working.Nodes.{Grows, node_term}
use Rattle.fir_meaning.specs.working.Targets as over
use Rattle.fir_meaning.specs.working.Targets.{leaves_so_far}
use Rattle.fir_meaning.specs.working.Terms as term
use Rattle.fir_ground.specs.declared.ground.Ground.{Ground}
use Rattle.fir_leaf_pairs.specs.declared.pairs.LeafPair.{LeafPair as PairOfCode}
use Rattle.fir_ground.specs.declared.sides.Sides.{Sides as SidesOfCode}
use Rattle.fir_ground.specs.declared.source.Source.{Source}
use Rattle.fir_leaf_pairs.specs.declared.target.Target.{Target}
use Rattle.fir_ground.specs.declared.walk.Walk.{Walk}
use Rattle.fir_ground.specs.working.Connects.{ComesStill, GivesBackWhere, MayDriveSides, ShowsSides}
use Rattle.fir_leaf_pairs.specs.working.Drives.{DrivesPairs, HasSides, HasTarget, Stand, StandsFor}
use Rattle.fir_ground.specs.working.Expressions.{ExpandsSource, MayName}
use Rattle.fir_ground.specs.working.Grounds.{Comes, Reaches, types_in}
use Rattle.fir_leaf_pairs.specs.working.PairNumbers.{AreWithin}
use Rattle.fir_leaf_pairs.specs.working.Pairing.{pair_seen}
use Rattle.fir_leaf_pairs.proofs.Emitting.{emitted_as}
use Rattle.fir_leaf_pairs.proofs.Entries.{grows_on}
use Rattle.fir_leaf_pairs.proofs.Giving.{shows_new}
use Rattle.fir_ground.proofs.NamesStay.{gives_stand, has_stays, may_have, may_stay, names_stay, stand_stays}
use Rattle.fir_ground.proofs.TargetRooms.{Aims, aims_read, aims_sink, within_cost}
use Rattle.fir_ground.proofs.TermCounts.{target_long, terms_long}

-- a source that is a reference, and one that is none
pub source_found : (ts : List DataType) (nodes : List Node) (typed : TypedScope) (e : Expression) (t : DataType) (o : Option Target) (target : Target)
    → leaves_so_far typed ≤ cost_limit → HasType typed e t → o ≡ Some target → MayName ts nodes o (target_read typed e) → found_type ts target.found ≡ t
source_found ts nodes typed e t o target small has is may = named (target_read typed e) refl (subst (λ x. MayName ts nodes x (target_read typed e)) is may)
  where
    named : (r : Option over.Target) → target_read typed e ≡ r → MayName ts nodes (Some target) r → found_type ts target.found ≡ t
    named None at h = absurd h
    named (Some x) at h = h.data_type ∙ (aims_read typed e t x small has at).same

pub no_source : (ts : List DataType) (nodes : List Node) (o : Option Target) (r : Option over.Target) → o ≡ None → MayName ts nodes o r → r ≡ None
no_source ts nodes o r is may = named r (subst (λ x. MayName ts nodes x r) is may)
  where
    named : (r : Option over.Target) → MayName ts nodes None r → r ≡ None
    named None h = refl
    named (Some x) h = absurd h

pub comes_on : (g : Ground) (next rest : List Note) (a b c : Walk) → Comes g next a b → Comes g rest b c → Comes g rest a c
comes_on g next rest a b c one two = record {
  grows = grows_on a.nodes.items b.nodes.items c.nodes.items one.grows two.grows;
  ahead = two.ahead;
  drivers = two.drivers ∙ one.drivers;
}

pub sides_shown : (g : Ground) (typed : TypedScope) (sink : SinkReference) (e : Expression) (t : DataType) (rest : List Note) (old mid new : Walk) (left : Target)
    (source : Source) (found : Found)
    → Reaches g (expression_notes typed e ++ rest) old mid left (target_of typed sink)
    → ExpandsSource g rest mid new source (target_read typed e) (terms typed e)
    → found_type (types_in g) found ≡ t
    → ShowsSides g typed rest old new sink e t (record { left = left; source = source; found = found })
sides_shown g typed sink e t rest old mid new left source found reaches expands is = record {
  comes = comes_on g (expression_notes typed e ++ rest) rest old mid new reaches.comes expands.expands.comes;
  left = names_stay (types_in g) mid.nodes.items new.nodes.items left (target_of typed sink) expands.expands.comes.grows reaches.names;
  right = expands.target;
  gives = gives_stand mid.nodes.items new.nodes.items source.ids.items (terms typed e) expands.expands.gives;
  found = is;
}

-- pairs of both sides, of which one may be flipped
pub sides_driven : (ts : List DataType) (old new : List Node) (before after : List LeafStmt) (p : Place) (s : SidesOfCode) (pairs : List PairOfCode)
    (ids backs : List ℕ)
    → ids ≡ s.source.ids.items → GivesBackWhere ts old new s.left pairs backs → DrivesPairs before after p s.left s.source.target ids backs pairs
    → MayDriveSides ts old new before after p s pairs
sides_driven ts old new before after p s pairs ids backs ids_are back drives = λ m meant has given within.
    let r = meant.left in
    let n : ℕ = leaf_count r.data_type in
    let grows : Grows old new = back.grows r has.left.names has.left.room in
    let here : HasSides ts new n m s.left s.source.target ids meant =
    subst (λ xs. HasSides ts new n m s.left s.source.target xs meant) (sym ids_are)
    (record {
      left = has_stays ts old new n s.left r grows has.left;
      right = may_stay ts old new m s.source.target meant.right grows has.right;
      gives = stand_stays old new s.source.ids.items meant.gives grows has.gives;
      all = has.all;
    }) in
    record {
      grows = grows;
      emitted = drives ts new n m meant here
          (λ flipped.
          let stand : Stand new backs (target_terms r) = back.gives r has.left.names has.left.room flipped in
          let long : length backs ≡ n = sym (length-map backs (node_term new)) ∙ ap length stand.terms ∙ target_long r in
          record { gives = subst (Stand new backs) (sym given) stand; all = omega (arith, long) }) within;
    }

-- both sides of a connect that is legal
pub connect_comes : (pairs_of : DataType → DataType → List LeafPair) (g : Ground) (typed : TypedScope) (sink : SinkReference) (e : Expression) (r : Reached)
    (t : DataType) (rest : List Note)
    (old mid : Walk) (nodes : Vec Node Global) (before after : List LeafStmt) (p : Place) (s : SidesOfCode) (pairs : List PairOfCode)
    → leaves_so_far typed ≤ cost_limit
    → ReachesThere typed sink r → HasType typed e t → ShowsSides g typed rest old mid sink e t s → map pair_seen pairs ≡ pairs_of r.data_type t
    → AreWithin (leaf_count r.data_type) (leaf_count t) (pairs_of r.data_type t) → MayDriveSides (types_in g) mid.nodes.items nodes.items before after p s pairs
    → ComesStill g rest old (record mid { nodes = nodes }) before after (connect_block pairs_of typed p sink e)
connect_comes pairs_of g typed sink e r t rest old mid nodes before after p s pairs small reaches has shown are within drives =
    let ts = types_in g in
    let own = target_of typed sink in
    let aims : Aims own r.data_type = aims_sink typed sink r small reaches in
    let meant : Sides = sides typed sink e in
    let m : ℕ = leaf_count t in
    let long : length s.source.ids.items ≡ m =
    sym (length-map s.source.ids.items (node_term mid.nodes.items)) ∙ ap length shown.gives.terms ∙ terms_long typed small e t has in
    let both : HasSides ts mid.nodes.items (leaf_count own.data_type) m s.left s.source.target s.source.ids.items meant = record {
      left = record { names = shown.left; room = within_cost own r.data_type aims };
      right = may_have ts mid.nodes.items m s.source.target (target_read typed e) (λ x is. (aims_read typed e t x small has is).room) shown.right;
      gives = shown.gives;
      all = omega (arith, long);
    } in
    let inside : AreWithin (leaf_count own.data_type) m (map pair_seen pairs) =
    subst (AreWithin (leaf_count own.data_type) m) (sym are) (subst (λ u. AreWithin (leaf_count u) m (pairs_of r.data_type t)) (sym aims.same) within) in
    let driven = drives m meant both refl inside in
    let typed_is : type_where (expression_type typed e).has ≡ t = ap (λ c. type_where c.has) (found_at typed e t has) in
    let block : pairs_block p meant (map pair_seen pairs) ≡ connect_block pairs_of typed p sink e =
    ap (pairs_block p meant) (are ∙ ap (λ u. pairs_of u t) (sym aims.same) ∙ ap (pairs_of own.data_type) (sym typed_is)) in
    record {
      comes = record {
        grows = grows_on old.nodes.items mid.nodes.items nodes.items shown.comes.grows driven.grows;
        ahead = shown.comes.ahead;
        drivers = shown.comes.drivers;
      };
      emitted = emitted_as nodes.items before after (pairs_block p meant (map pair_seen pairs)) (connect_block pairs_of typed p sink e) block driven.emitted;
    }

-- the types of both sides are these
pub pairs_are : (pairs_of : DataType → DataType → List LeafPair) (g : Ground) (typed : TypedScope) (sink : SinkReference) (e : Expression) (r : Reached) (t : DataType)
    (rest : List Note)
    (old mid : Walk) (s : SidesOfCode) → leaves_so_far typed ≤ cost_limit → ReachesThere typed sink r → ShowsSides g typed rest old mid sink e t s
    → pairs_of (found_type (types_in g) s.left.found) (found_type (types_in g) s.found) ≡ pairs_of r.data_type t
pairs_are pairs_of g typed sink e r t rest old mid s small reaches shown =
    ap (λ u. pairs_of u (found_type (types_in g) s.found)) (shown.left.data_type ∙ (aims_sink typed sink r small reaches).same)
    ∙ ap (pairs_of r.data_type) shown.found

pub left_is : (g : Ground) (typed : TypedScope) (sink : SinkReference) (e : Expression) (r : Reached) (t : DataType) (rest : List Note)
    (old mid : Walk) (s : SidesOfCode) → leaves_so_far typed ≤ cost_limit → ReachesThere typed sink r → ShowsSides g typed rest old mid sink e t s
    → found_type (types_in g) s.left.found ≡ r.data_type
left_is g typed sink e r t rest old mid s small reaches shown = shown.left.data_type ∙ (aims_sink typed sink r small reaches).same

pub invalid_comes : (g : Ground) (typed : TypedScope) (sink : SinkReference) (r : Reached) (rest : List Note) (old mid : Walk) (nodes : Vec Node Global)
    (before after : List LeafStmt) (p : Place)
    (t : Target) (id : ℕ) (sinks : List Bool) (may_drive : ℕ → Bool) → leaves_so_far typed ≤ cost_limit → ReachesThere typed sink r
    → Reaches g rest old mid t (target_of typed sink) → id ≡ length mid.nodes.items → nodes.items ≡ mid.nodes.items ++ node.Zeros ∷ []
    → ((nodes : List Node) (x : over.Target) → HasTarget (types_in g) nodes (leaf_count x.data_type) t x → StandsFor nodes id term.zeros
    → Emitted nodes before after (invalid_block may_drive p x))
    → ComesStill g rest old (record mid { nodes = nodes }) before after (invalid_block may_drive p (target_of typed sink))
invalid_comes g typed sink r rest old mid nodes before after p t id sinks may_drive small there reaches at grown drives =
    let own = target_of typed sink in
    let zero = shows_new mid.nodes.items nodes.items node.Zeros id term.zeros at grown refl in
    let aims : Aims own r.data_type = aims_sink typed sink r small there in
    record {
      comes = record {
        grows = grows_on old.nodes.items mid.nodes.items nodes.items reaches.comes.grows zero.grows;
        ahead = reaches.comes.ahead;
        drivers = reaches.comes.drivers;
      };
      emitted =
          drives nodes.items own
          (record { names = names_stay (types_in g) mid.nodes.items nodes.items t own zero.grows reaches.names; room = within_cost own r.data_type aims })
          (record { within = zero.within; term = zero.term });
    }
