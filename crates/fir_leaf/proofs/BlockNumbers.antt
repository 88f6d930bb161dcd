-- The numbers that stand in the statements of a legal block are those of leaves that the module declares.
-- So only at such numbers it counts which leaves may be driven.
use Rattle.std.proofs.Common.{◌≡◌, ℕ, zero, suc, ◌+◌, ◌<◌, ◌≤◌, List, [], ◌∷◌, Bool, true, false, if◌then◌else◌, length, Option, Some, None, refl, sym, ap, ◌∙◌, subst, arith, length-append}
use Rattle.std.proofs.lemmas.Option.{slice_get_within}
use Rattle.fir_ast.specs.declared.place.Place.{Place}
use Rattle.fir_ast.specs.Types.{DataType, uint}
use Rattle.fir_ast.specs.Expressions.{Expression, reference, literal, operation, mux, validif}
use Rattle.fir_ast.specs.Statements.{SinkReference, Statement, wire, register, node, instance, memory, when, connect, partial_connect, invalid, skip, Block, done, then}
use Rattle.fir_ast.specs.Circuits.{ModuleTree}
use Rattle.fir_meaning.specs.TypeLeaves.{type_leaves, leaf_count}
use Rattle.fir_meaning.specs.Visibility.{Before, opened, reopened, behind, behind_block}
use Rattle.fir_meaning.specs.Equivalence.{is_connectable, is_partly_connectable}
use Rattle.fir_meaning.specs.ConnectPairs.{Pair, pairs, partial_pairs}
use Rattle.fir_meaning.specs.TypedScopes.{TypedScope}
use Rattle.fir_meaning.specs.ExpressionTypes.{expression_type}
use Rattle.fir_meaning.specs.TypeGroup.{scope_at}
use Rattle.fir_meaning.specs.ResetJoins.{numbered_module}
use Rattle.fir_meaning.specs.working.WellTyped.{HasType, ConnectIsLegal, IsLegal, AreLegal}
use Rattle.fir_meaning.proofs.FoundTypes.{found_type}
use Rattle.fir_meaning.specs.working.Terms.{Term, zeros}
use Rattle.fir_meaning.specs.working.LeafBlocks.{LeafBlock, joined}
use Rattle.fir_meaning.specs.working.LeafBlocks as over
use Rattle.fir_meaning.specs.working.LeafPairs.{LeafPair, leaf_pairs, partial_leaf_pairs}
use Rattle.fir_meaning.specs.working.Leafed.{target_of, target_read}
use Rattle.fir_meaning.specs.working.LeafedBlocks.{alone, driven, driven_from, driven_where, term_at, Sides, pair_block, pairs_block, invalid_leaf, invalid_leaves, sides, instance_block, connect_block, leafed, leafed_all}
use Rattle.fir_meaning.specs.FoundTypes.{type_where}
use Rattle.fir_leaf.specs.working.LeafNumbers.{TermWithin, BlockWithin}
use Rattle.fir_leaf.specs.working.LeafLaws.{known_paths, scope_paths, Begins}
use Rattle.fir_meaning.specs.working.Targets.{Target, leaves_so_far}
use Rattle.fir_leaf.proofs.LeafPlaces.{leaves_counted}
use Rattle.fir_leaf.proofs.NamedPlaces.{known_counted, paths_joined}
use Rattle.fir_leaf.proofs.PairsByNumber.{IsPair, ArePairs, pairs_numbered, partial_numbered}
use Rattle.fir_leaf.proofs.ScopesBegin.{begins_through, begins_behind, begins_block}
use Rattle.fir_leaf.proofs.TargetNumbers.{TargetWithin}
use Rattle.fir_leaf.proofs.TermNumbers.{EachWithin, IsWithin, at_within, target_within, terms_within, condition_within, sink_within}

joined_within : (n : ℕ) (b c : LeafBlock) → BlockWithin n b → BlockWithin n c → BlockWithin n (joined b c)
joined_within n over.done c h k = k
joined_within n (over.then s b) c h k = (h.0, joined_within n b c h.1 k)

driven_within : (n : ℕ) (p : Place) (r : Target) (k : ℕ) (t : Term) → TargetWithin n r → k < leaf_count r.data_type → TermWithin n t
    → BlockWithin n (driven p r k t)
driven_within n p r k t h lt inside = by r.base refl
  where
    by : (o : Option ℕ) → r.base ≡ o → BlockWithin n (driven_from p o r k t)
    by None e = tt
    by (Some b) e = (((h.leaf b k e lt, h.picks, h.each b k e lt), inside), tt)

-- a side that may drive nothing
abbrev SideWithin : ℕ → Option Target → DataType → Type 0
SideWithin n None u = Unit {0}
SideWithin n (Some r) u = IsWithin n r u

module _ (n : ℕ) (p : Place) (s : Sides) (t u : DataType) (left : IsWithin n s.left t) (right : SideWithin n s.right u) (gives : EachWithin n s.gives)
    (gives_back : EachWithin n s.gives_back) where
  right_within : (o : Option Target) (k : ℕ) (x : Term) → SideWithin n o u → k < leaf_count u → TermWithin n x → BlockWithin n (driven_where p o k x)
  right_within None k x h lt inside = tt
  right_within (Some r) k x h lt inside = driven_within n p r k x h.within (subst (λ v. k < leaf_count v) (sym h.data_type) lt) inside

  pair_within : (m : LeafPair) (q : Pair) → IsPair (type_leaves t) (type_leaves u) m q → BlockWithin n (pair_block p s m)
  pair_within m q h =
      by m.flip
      (right_within s.right m.right (term_at s.gives_back m.left) right
      (omega (arith, slice_get_within (type_leaves u) m.right q.right h.right, leaves_counted u))
      (at_within n s.gives_back m.left gives_back))
      (driven_within n p s.left m.left (term_at s.gives m.right) left.within
      (subst (λ v. m.left < leaf_count v) (sym left.data_type) (omega (arith, slice_get_within (type_leaves t) m.left q.left h.left, leaves_counted t)))
      (at_within n s.gives m.right gives))
    where
      by : (b : Bool) → BlockWithin n (driven_where p s.right m.right (term_at s.gives_back m.left))
          → BlockWithin n (driven p s.left m.left (term_at s.gives m.right))
          → BlockWithin n
          (if b then driven_where p s.right m.right (term_at s.gives_back m.left) else driven p s.left m.left (term_at s.gives m.right))
      by true x y = x
      by false x y = y

  pairs_within : (ms : List LeafPair) (qs : List Pair) → ArePairs (IsPair (type_leaves t) (type_leaves u)) ms qs → BlockWithin n (pairs_block p s ms)
  pairs_within [] qs h = tt
  pairs_within (m ∷ ms) [] h = absurd h
  pairs_within (m ∷ ms) (q ∷ qs) h = joined_within n (pair_block p s m) (pairs_block p s ms) (pair_within m q h.0) (pairs_within ms qs h.1)

-- invalid leaves, also where they may be driven only as far as leaves go
module _ (n : ℕ) (p : Place) (r : Target) (h : TargetWithin n r) where
  invalid_within : (may : ℕ → Bool) (k count : ℕ) → k + count ≤ leaf_count r.data_type → BlockWithin n (invalid_leaves may p r k count)
  invalid_within may k zero long = tt
  invalid_within may k (suc count) long =
      joined_within n (invalid_leaf may p r.base r k) (invalid_leaves may p r (suc k) count) (one r.base refl) (invalid_within may (suc k) count (omega arith))
    where
      driven_if : (c : Bool) (b : ℕ) → r.base ≡ Some b → BlockWithin n (if c then alone (over.drive p (b + k) r.picks zeros) else over.done)
      driven_if true b e = (((h.leaf b k e (omega arith), h.picks, h.each b k e (omega arith)), tt), tt)
      driven_if false b e = tt

      one : (o : Option ℕ) → r.base ≡ o → BlockWithin n (invalid_leaf may p o r k)
      one None e = tt
      one (Some b) e = driven_if (may (b + k)) b e

  invalid_alike : (may other : ℕ → Bool) → ((x : ℕ) → x < n → may x ≡ other x) → (k count : ℕ) → k + count ≤ leaf_count r.data_type
      → invalid_leaves may p r k count ≡ invalid_leaves other p r k count
  invalid_alike may other same k zero long = refl
  invalid_alike may other same k (suc count) long = rw (one r.base refl, invalid_alike may other same (suc k) count (omega arith)) refl
    where
      one : (o : Option ℕ) → r.base ≡ o → invalid_leaf may p o r k ≡ invalid_leaf other p o r k
      one None e = refl
      one (Some b) e = rw (same (b + k) (h.leaf b k e (omega arith))) refl

-- as many leaves are declared as there are paths
far_counted : (scope : TypedScope) → leaves_so_far scope ≡ length (scope_paths scope)
far_counted [] = refl
far_counted (k ∷ ks) = omega (arith, known_counted k, far_counted ks, length-append (known_paths k) (scope_paths ks))

far_within : (scope whole : TypedScope) → Begins scope whole → leaves_so_far scope ≤ length (scope_paths whole)
far_within scope whole b =
    rw (← b.1, paths_joined scope b.0) (omega (arith, far_counted scope, length-append (scope_paths scope) (scope_paths b.0)))

module _ (modules : List ModuleTree) (whole : TypedScope) where
  abbrev bound : ℕ
  bound = length (scope_paths whole)

  module _ (scope : TypedScope) (begins : Begins scope whole) where
    source_within : (e : Expression) (t : DataType) → HasType scope e t → SideWithin (length (scope_paths whole)) (target_read scope e) t
    source_within (reference p n ps) t h =
        let s : SinkReference = record { place = p; name = n; parts = ps } in
        let met = sink_within scope whole begins s h.1 (h.0, h.2, h.3) in
        record { within = met.within; data_type = met.data_type ∙ sym h.4 }
    source_within (literal l) t h = tt
    source_within (operation p op es ks) t h = tt
    source_within (mux p c a b) t h = tt
    source_within (validif p c a) t h = tt

    connect_within : (fits : DataType → DataType → Bool) (numbers_of : DataType → DataType → List LeafPair) (pairs_of : DataType → DataType → List Pair)
        → ((t u : DataType) → fits t u ≡ true → ArePairs (IsPair (type_leaves t) (type_leaves u)) (numbers_of t u) (pairs_of t u))
        → (p : Place) (s : SinkReference) (e : Expression) → ConnectIsLegal fits pairs_of scope s e
        → BlockWithin (length (scope_paths whole)) (connect_block numbers_of scope p s e)
    connect_within fits numbers_of pairs_of alike p s e h =
        let met = sink_within scope whole begins s h.0 h.2 in
        let target = target_of scope s in
        let source : type_where (expression_type scope e).has ≡ h.1 = ap (λ c. type_where c.has) (found_type scope e h.1 h.3) in
        let by_number : numbers_of target.data_type (type_where (expression_type scope e).has) ≡ numbers_of h.0.data_type h.1 =
        ap (λ u. numbers_of u (type_where (expression_type scope e).has)) met.data_type ∙ ap (numbers_of h.0.data_type) source in
        rw by_number
        (pairs_within bound p (sides scope s e) h.0.data_type h.1 met (source_within e h.1 h.3) (terms_within scope whole begins e h.1 h.3)
        (target_within bound target met.within) (numbers_of h.0.data_type h.1) (pairs_of h.0.data_type h.1) (alike h.0.data_type h.1 h.4))

    instance_within : (child : Option (ℕ × ModuleTree)) → BlockWithin (length (scope_paths whole)) (instance_block scope child)
    instance_within None = tt
    instance_within (Some child) = (far_within scope whole begins, tt)

  -- the scope behind the first block of a when, and that before the when
  behind_first : (before : Before) (a b : Block)
      → Begins (scope_at modules (behind_block (reopened before (behind_block (opened before) a)) b)) whole
      → Begins (scope_at modules (behind_block (opened before) a)) whole
  behind_first before a b h =
      let inside = behind_block (opened before) a in
      begins_through (scope_at modules inside) (scope_at modules (behind_block (reopened before inside) b)) whole
      (begins_block modules b (reopened before inside)) h

  before_when : (before : Before) (a b : Block)
      → Begins (scope_at modules (behind_block (reopened before (behind_block (opened before) a)) b)) whole → Begins (scope_at modules before) whole
  before_when before a b h =
      begins_through (scope_at modules before) (scope_at modules (behind_block (opened before) a)) whole (begins_block modules a (opened before))
      (behind_first before a b h)

  next_begins : (before : Before) (s : Statement) (rest : Block) → Begins (scope_at modules (behind_block (behind before s) rest)) whole
      → Begins (scope_at modules (behind before s)) whole
  next_begins before s rest h =
      begins_through (scope_at modules (behind before s)) (scope_at modules (behind_block (behind before s) rest)) whole
      (begins_block modules rest (behind before s)) h

  module _ (may : ℕ → Bool) where
    mutual
      statement_within : (s : Statement) (before : Before) → Begins (scope_at modules (behind before s)) whole → IsLegal modules before s
          → BlockWithin (length (scope_paths whole)) (leafed modules may before s)
      statement_within (wire p n begins t) before b h = tt
      statement_within (register p n begins t c r) before b h = tt
      statement_within (node p n e) before b h = tt
      statement_within (instance p n m) before b h =
          instance_within (scope_at modules before)
          (begins_through (scope_at modules before) (scope_at modules (behind before (instance p n m))) whole (begins_behind modules (instance p n m) before) b)
          (numbered_module 0 modules m.name)
      statement_within (memory p n parts) before b h = tt
      statement_within (when p c a e) before b h = (
        (
          condition_within (scope_at modules before) whole (before_when before a e b) c (uint h.0) h.1,
          block_within a (opened before) (behind_first before a e b) h.2,
          block_within e (reopened before (behind_block (opened before) a)) b h.3,
        ),
        tt,
      )
      statement_within (connect p s e) before b h =
          connect_within (scope_at modules before) b is_connectable leaf_pairs pairs pairs_numbered p s e h
      statement_within (partial_connect p s e) before b h =
          connect_within (scope_at modules before) b is_partly_connectable partial_leaf_pairs partial_pairs partial_numbered p s e h
      statement_within (invalid p s) before b h =
          let r = target_of (scope_at modules before) s in
          invalid_within bound p r (sink_within (scope_at modules before) whole b s h.0 h.1).within may 0 (leaf_count r.data_type) (omega arith)
      statement_within (skip p) before b h = tt

      pub block_within : (b : Block) (before : Before) → Begins (scope_at modules (behind_block before b)) whole → AreLegal modules before b
          → BlockWithin (length (scope_paths whole)) (leafed_all modules may before b)
      block_within done before b h = tt
      block_within ((then) s rest) before b h =
          joined_within bound (leafed modules may before s) (leafed_all modules may (behind before s) rest)
          (statement_within s before (next_begins before s rest b) h.0) (block_within rest (behind before s) b h.1)

  -- tests that agree at all leaves give the same statements
  module _ (may other : ℕ → Bool) (same : (x : ℕ) → x < length (scope_paths whole) → may x ≡ other x) where
    mutual
      statement_alike : (s : Statement) (before : Before) → Begins (scope_at modules (behind before s)) whole → IsLegal modules before s
          → leafed modules may before s ≡ leafed modules other before s
      statement_alike (when p c a e) before b h =
          rw (
            block_alike a (opened before) (behind_first before a e b) h.2,
            block_alike e (reopened before (behind_block (opened before) a)) b h.3,
          )
          refl
      statement_alike (invalid p s) before b h =
          let r = target_of (scope_at modules before) s in
          invalid_alike bound p r (sink_within (scope_at modules before) whole b s h.0 h.1).within may other same 0 (leaf_count r.data_type) (omega arith)
      statement_alike s before b h = refl

      pub block_alike : (b : Block) (before : Before) → Begins (scope_at modules (behind_block before b)) whole → AreLegal modules before b
          → leafed_all modules may before b ≡ leafed_all modules other before b
      block_alike done before b h = refl
      block_alike ((then) s rest) before b h =
          rw (statement_alike s before (next_begins before s rest b) h.0, block_alike rest (behind before s) b h.1) refl
