-- What the pairs of a connect store by numbers they store by paths, where both sides name the same leaves.
use Rattle.std.proofs.Common.{◌≡◌, ℕ, ◌<◌, List, [], ◌∷◌, Bool, true, false, if◌then◌else◌, length, map, slice_get, Option, Some, None, option_map, refl, ap, ◌∙◌, subst}
use Rattle.std.proofs.lemmas.Option.{get_or_from_slice_get, slice_get_within}
use Rattle.fir_base.proofs.Elements.{beside}
use Rattle.fir_bits.specs.declared.values.Num.{Num}
use Rattle.fir_ast.specs.declared.place.Place.{Place}
use Rattle.fir_meaning.specs.LeafPaths.{LeafPath}
use Rattle.fir_meaning.specs.TypeLeaves.{TypeLeaf, type_leaves}
use Rattle.fir_meaning.specs.ConnectPairs.{Pair}
use Rattle.fir_meaning.specs.TypedScopes.{TypedScope}
use Rattle.fir_meaning.specs.working.Terms.{Term, zeros}
use Rattle.fir_meaning.specs.working.TermValues.{Holds, eval}
use Rattle.fir_meaning.specs.working.LeafBlocks.{LeafStore, LeafBlock, joined, exec, exec_all, stored}
use Rattle.fir_meaning.specs.working.LeafBlocks as over
use Rattle.fir_meaning.specs.working.Targets.{Target}
use Rattle.fir_meaning.specs.working.LeafPairs.{LeafPair}
use Rattle.fir_meaning.specs.working.LeafedBlocks.{driven_from, driven_where, term_at, Sides, pair_block, pairs_block}
use Rattle.fir_meaning.specs.TreeAims.{Aim}
use Rattle.fir_meaning.specs.TreeValues.{ValuesByPath, leaf_where}
use Rattle.fir_meaning.specs.working.TreeStores.{PathStore, LeafFacts, path_stored}
use Rattle.fir_leaf.specs.working.LeafLaws.{numbered, path_at, scope_paths, IsFine, IsSameStore, number_given}
use Rattle.fir_leaf.specs.working.Standing.{leaf_from, target_leaf, Stands}
use Rattle.fir_leaf.proofs.LeafPlaces.{leaves_counted}
use Rattle.fir_leaf.proofs.PairsByNumber.{IsPair, ArePairs}
use Rattle.fir_leaf.proofs.OneStore.{one_stored}

-- the term of a leaf gives its value
pub term_value : {A : Type 0} → (f : Term → Num) (value : A → Num) (ts : List Term) (ls : List A) (k : ℕ) (l : A) → map f ts ≡ map value ls
    → slice_get ls k ≡ Some l → f (term_at ts k) ≡ value l
term_value f value ts ls k l h e =
    let r = beside f value ts ls h k l e in
    ap f (get_or_from_slice_get ts k r.0 zeros r.1) ∙ r.2

-- the leaf that is picked of a target that may be none
abbrev pub leaf_in : Holds → (ℕ → ℕ) → Option Target → ℕ → Option ℕ
leaf_in holds numbers None k = None
leaf_in holds numbers (Some r) k = target_leaf holds numbers r k

module _ (whole : TypedScope) (fine : IsFine whole) (facts : LeafFacts) (env : ValuesByPath) where
  abbrev holds : Holds
  holds = numbered whole facts.holds

  abbrev numbers : ℕ → ℕ
  numbers = numbered whole env

  -- what the statements over leaves store
  abbrev pub run : LeafBlock → List Bool → LeafStore ℕ → LeafStore ℕ
  run b taken ns = exec_all holds (numbered whole facts.depth) numbers (number_given whole facts.holds env) b taken ns

  abbrev stores : Option ℕ → Term → List Bool → LeafStore ℕ → LeafStore ℕ
  stores o t taken ns = stored holds (numbered whole facts.depth) numbers (number_given whole facts.holds env) o t taken ns

  pub run_joined : (b c : LeafBlock) (taken : List Bool) (ns : LeafStore ℕ) → run (joined b c) taken ns ≡ run c taken (run b taken ns)
  run_joined over.done c taken ns = refl
  run_joined (over.then s b) c taken ns = run_joined b c taken (exec holds (numbered whole facts.depth) numbers (number_given whole facts.holds env) s taken ns)

  -- both name the same of leaves of a type
  pub record NameSame (ls : List TypeLeaf) (r : Option Target) (q : Option LeafPath) : Type 0 where
    pub at : (k : ℕ) (l : TypeLeaf) → slice_get ls k ≡ Some l → leaf_where q l.path ≡ option_map (path_at whole) (leaf_in holds numbers r k)
    pub within : (k y : ℕ) → k < length ls → leaf_in holds numbers r k ≡ Some y → y < length (scope_paths whole)

  pub nothing_named : (ls : List TypeLeaf) → NameSame ls None None
  nothing_named ls = record { at = λ k l h. refl; within = λ k y lt h. cc }

  pub standing_named : (r : Target) (a : Aim) → Stands whole facts.holds env r a → NameSame (type_leaves r.data_type) (Some r) a.at
  standing_named r a s = record {
    at = s.at;
    within = λ k y lt h. s.within k y (subst (λ n. k < n) (leaves_counted r.data_type) lt) h;
  }

  driven_stores : (p : Place) (o : Option ℕ) (r : Target) (k : ℕ) (t : Term) (taken : List Bool) (ns : LeafStore ℕ)
      → run (driven_from p o r k t) taken ns ≡ stores (leaf_from holds numbers o r.picks k) t taken ns
  driven_stores p None r k t taken ns = refl
  driven_stores p (Some b) r k t taken ns = refl

  where_stores : (p : Place) (r : Option Target) (k : ℕ) (t : Term) (taken : List Bool) (ns : LeafStore ℕ)
      → run (driven_where p r k t) taken ns ≡ stores (leaf_in holds numbers r k) t taken ns
  where_stores p None k t taken ns = refl
  where_stores p (Some r) k t taken ns = driven_stores p r.base r k t taken ns

  -- one leaf that is driven
  pub driven_same : (p : Place) (ls : List TypeLeaf) (r : Option Target) (q : Option LeafPath) (k : ℕ) (l : TypeLeaf) (t : Term) (v : Num) (taken : List Bool)
      (ns : LeafStore ℕ) (ps : PathStore) → NameSame ls r q → slice_get ls k ≡ Some l → eval holds numbers t ≡ v → IsSameStore whole ns ps
      → IsSameStore whole (run (driven_where p r k t) taken ns) (path_stored facts env (leaf_where q l.path) v taken ps)
  driven_same p ls r q k l t v taken ns ps named h e same =
      rw (where_stores p r k t taken ns)
      (one_stored whole fine facts env (leaf_in holds numbers r k) (leaf_where q l.path) t v taken ns ps (λ y. named.within k y (slice_get_within ls k l h))
      (named.at k l h) e same)

  -- two sides of a connect, of which each gives values and names leaves
  module _ (sides : Sides) (lefts rights : List TypeLeaf) (left right : Option LeafPath) (gives gives_back : LeafPath → Num)
      (named_left : NameSame lefts (Some sides.left) left) (named_right : NameSame rights sides.right right)
      (given : map (eval holds numbers) sides.gives ≡ map (λ l. gives l.path) rights)
      (given_back : map (eval holds numbers) sides.gives_back ≡ map (λ l. gives_back l.path) lefts) (p : Place) (taken : List Bool) where
    -- as a pair stores by paths
    abbrev pub pair_stored : Pair → PathStore → PathStore
    pair_stored pair ps =
        if pair.left.flip
        then path_stored facts env (leaf_where right pair.right.path) (gives_back pair.left.path) taken ps
        else path_stored facts env (leaf_where left pair.left.path) (gives pair.right.path) taken ps

    abbrev pub pairs_stored : List Pair → PathStore → PathStore
    pairs_stored [] ps = ps
    pairs_stored (pair ∷ rest) ps = pairs_stored rest (pair_stored pair ps)

    pair_same : (n : LeafPair) (pair : Pair) (ns : LeafStore ℕ) (ps : PathStore) → IsPair lefts rights n pair → IsSameStore whole ns ps
        → IsSameStore whole (run (pair_block p sides n) taken ns) (pair_stored pair ps)
    pair_same n pair ns ps w same = by n.flip pair.left.flip w.flip
      where
        by : (f g : Bool) → f ≡ g
            → IsSameStore whole
            (run
            (if f
            then driven_where p sides.right n.right (term_at sides.gives_back n.left)
            else driven_where p (Some sides.left) n.left (term_at sides.gives n.right)) taken ns)
            (if g then path_stored facts env (leaf_where right pair.right.path) (gives_back pair.left.path) taken ps
            else path_stored facts env (leaf_where left pair.left.path) (gives pair.right.path) taken ps)
        by true true e =
            driven_same p rights sides.right right n.right pair.right (term_at sides.gives_back n.left) (gives_back pair.left.path) taken ns ps named_right
            w.right
            (term_value (eval holds numbers) (λ l. gives_back l.path) sides.gives_back lefts n.left pair.left given_back w.left) same
        by false false e =
            driven_same p lefts (Some sides.left) left n.left pair.left (term_at sides.gives n.right) (gives pair.right.path) taken ns ps named_left w.left
            (term_value (eval holds numbers) (λ l. gives l.path) sides.gives rights n.right pair.right given w.right) same
        by true false e = absurd (cc)
        by false true e = absurd (cc)

    pub pairs_same : (ms : List LeafPair) (qs : List Pair) (ns : LeafStore ℕ) (ps : PathStore) → ArePairs (IsPair lefts rights) ms qs → IsSameStore whole ns ps
        → IsSameStore whole (run (pairs_block p sides ms) taken ns) (pairs_stored qs ps)
    pairs_same [] [] ns ps h same = same
    pairs_same [] (q ∷ qs) ns ps h same = absurd h
    pairs_same (m ∷ ms) [] ns ps h same = absurd h
    pairs_same (m ∷ ms) (q ∷ qs) ns ps h same =
        rw (run_joined (pair_block p sides m) (pairs_block p sides ms) taken ns)
        (pairs_same ms qs (run (pair_block p sides m) taken ns) (pair_stored q ps) h.1 (pair_same m q ns ps h.0 same))
