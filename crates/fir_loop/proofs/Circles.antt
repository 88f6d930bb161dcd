-- The leaves of a circle of leaves and nodes are a closed walk.
use Rattle.std.proofs.Common.{◌≡◌, ℕ, zero, suc, ◌+◌, ◌-◌, ◌<◌, List, [], ◌∷◌, ◌++◌, Some, length, map, take, get_or, unwrap_or, option_map, length-append, refl, sym, ap, ◌∙◌, subst, inl, inr, ◌⊎◌, arith, append-nil}
use Rattle.std.proofs.lemmas.List.{take_more, map-append}
use Rattle.std.specs.Prelude.{slice_get}
use Rattle.std.proofs.lemmas.Option.{none-some, same_Some, slice_get_within, slice_get_read}
use Rattle.fir_base.specs.Lists.{In, Distinct}
use Rattle.fir_base.proofs.Each.{all_joined}
use Rattle.fir_base.proofs.Elements.{all_there}
use Rattle.fir_ast.specs.declared.fault.FirFault.TheVariants.{Loop}
use Rattle.fir_net.specs.declared.leaf.Leaf.{Leaf}
use Rattle.fir_net.specs.declared.reads.Read.{Read}
use Rattle.fir_net.specs.declared.reads.Read.TheVariants as read
use Rattle.fir_net.specs.declared.net.FlatNet.{FlatNet}
use Rattle.fir_net.specs.working.Dependence.{Reads}
use Rattle.fir_net.specs.working.IsNet.{IsNet}
use Rattle.fir_loop.specs.working.IsLoop.{HangsThrough, HangsOn, IsLoop, ShowsLoop, path_of}
use Rattle.fir_loop.specs.working.IsCircle.{Chain, Turns, IsCircle, leaves_in, AreLeaves}
use Rattle.fir_base.proofs.Writes.{push_end, push_cases}
use Rattle.fir_graph.proofs.Positions.{distinct_at}
use Rattle.fir_loop.proofs.NetReads.{goes_down, reads_from}

-- the leaves of joined lists, and which they are
leaves_in-append : (xs ys : List Read) → leaves_in (xs ++ ys) ≡ leaves_in xs ++ leaves_in ys
leaves_in-append [] ys = refl
leaves_in-append (read.Leaf k ∷ xs) ys = ap (λ zs. k ∷ zs) (leaves_in-append xs ys)
leaves_in-append (read.Node k ∷ xs) ys = leaves_in-append xs ys

in_leaves : (xs : List Read) (k : ℕ) → In (leaves_in xs) k → In xs (read.Leaf k)
in_leaves [] k m = absurd m
in_leaves (read.Leaf j ∷ xs) k (inl e) = inl (ap read.Leaf e)
in_leaves (read.Leaf j ∷ xs) k (inr m) = inr (in_leaves xs k m)
in_leaves (read.Node j ∷ xs) k m = inr (in_leaves xs k m)

distinct_leaves : (xs : List Read) → Distinct xs → Distinct (leaves_in xs)
distinct_leaves [] d = tt
distinct_leaves (read.Leaf k ∷ xs) d = ((λ m. d.0 (in_leaves xs k m)), distinct_leaves xs d.1)
distinct_leaves (read.Node k ∷ xs) d = distinct_leaves xs d.1

-- leaves, each of which hangs on the next
abbrev LeafChain : FlatNet → ℕ → List ℕ → ℕ → Type 0
LeafChain net a [] b = HangsOn net a b
LeafChain net a (x ∷ xs) b = HangsOn net a x × LeafChain net x xs b

abbrev LeafTurns : FlatNet → List ℕ → Type 0
LeafTurns net [] = ⊥
LeafTurns net (x ∷ xs) = LeafChain net x xs x

module _ (net : FlatNet) (whole : IsNet net) where
  hangs_push : (v : Read) (ns : List ℕ) (n : ℕ) (w : Read) → HangsThrough net v ns (read.Node n) → Reads net (read.Node n) w → HangsThrough net v (ns ++ n ∷ []) w
  hangs_push v [] n w h r = (h, r)
  hangs_push v (m ∷ ms) n w h r = (h.0, hangs_push (read.Node m) ms n w h.1 r)

  chain_join : (a : Read) (xs : List Read) (b : Read) (ys : List Read) (c : Read) → Chain net a xs b → Chain net b ys c → Chain net a (xs ++ b ∷ ys) c
  chain_join a [] b ys c p q = (p, q)
  chain_join a (x ∷ xs) b ys c p q = (p.0, chain_join x xs b ys c p.1 q)

  chain_split : (a : Read) (xs : List Read) (b : Read) (ys : List Read) (c : Read) → Chain net a (xs ++ b ∷ ys) c → Chain net a xs b × Chain net b ys c
  chain_split a [] b ys c h = (h.0, h.1)
  chain_split a (x ∷ xs) b ys c h = let r = chain_split x xs b ys c h.1 in ((h.0, r.0), r.1)

  -- nodes alone never come back
  descends : (a : ℕ) (xs : List Read) (b : ℕ) → Chain net (read.Node a) xs (read.Node b) → leaves_in xs ≡ [] → b < a
  descends a [] b c e = goes_down net whole a b c
  descends a (read.Leaf k ∷ xs) b c e = cc
  descends a (read.Node k ∷ xs) b c e = omega (arith, goes_down net whole a k c.0, descends k xs b c.1 e)

  -- what c hangs on, the leaf a hangs on through nodes
  record Through (a : ℕ) (w : Read) : Type 0 where
    nodes : List ℕ
    through : HangsThrough net (read.Leaf a) nodes w

  record Ahead (a : ℕ) (c : Read) : Type 0 where
    next : (w : Read) → Reads net c w → Through a w

  at_leaf : (a : ℕ) → Ahead a (read.Leaf a)
  at_leaf a = record { next = λ w r. record { nodes = []; through = r } }

  past : (a n : ℕ) → Through a (read.Node n) → Ahead a (read.Node n)
  past a n t = record { next = λ w r. record { nodes = t.nodes ++ n ∷ []; through = hangs_push (read.Leaf a) t.nodes n w t.through r } }

  hangs : (a b : ℕ) → Through a (read.Leaf b) → HangsOn net a b
  hangs a b t = record { nodes = t.nodes; through = t.through }

  -- along a chain the leaves hang on one another
  leaf_chain : (xs : List Read) (a : ℕ) (c : Read) (b : ℕ) → Ahead a c → Chain net c xs (read.Leaf b) → LeafChain net a (leaves_in xs) b
  leaf_chain [] a c b h r = hangs a b (h.next (read.Leaf b) r)
  leaf_chain (read.Leaf x ∷ xs) a c b h r = (hangs a x (h.next (read.Leaf x) r.0), leaf_chain xs x (read.Leaf x) b (at_leaf x) r.1)
  leaf_chain (read.Node x ∷ xs) a c b h r = leaf_chain xs a (read.Node x) b (past a x (h.next (read.Node x) r.0)) r.1

  -- the first leaf
  record Split (xs : List Read) : Type 0 where
    pre : List Read
    leaf : ℕ
    post : List Read
    is : xs ≡ pre ++ read.Leaf leaf ∷ post
    none : leaves_in pre ≡ []

  split : (xs : List Read) → (leaves_in xs ≡ []) ⊎ Split xs
  split [] = inl refl
  split (read.Leaf k ∷ xs) = inr (record { pre = []; leaf = k; post = xs; is = refl; none = refl })
  split (read.Node k ∷ xs) = by (split xs)
    where
      by : (leaves_in xs ≡ []) ⊎ Split xs → (leaves_in xs ≡ []) ⊎ Split (read.Node k ∷ xs)
      by (inl e) = inl e
      by (inr s) = inr (record { pre = read.Node k ∷ s.pre; leaf = s.leaf; post = s.post; is = ap (λ zs. read.Node k ∷ zs) s.is; none = s.none })

  leaf_turns : (circle : List Read) → Turns net circle → LeafTurns net (leaves_in circle)
  leaf_turns [] t = t
  leaf_turns (read.Leaf x ∷ xs) t = leaf_chain xs x (read.Leaf x) x (at_leaf x) t
  leaf_turns (read.Node x ∷ xs) t = by (split xs)
    where
      by : (leaves_in xs ≡ []) ⊎ Split xs → LeafTurns net (leaves_in xs)
      by (inl e) = absurd (omega (arith, descends x xs x t e))
      by (inr s) =
          let c = chain_split (read.Node x) s.pre (read.Leaf s.leaf) s.post (read.Node x) (subst (λ (zs : List Read). Chain net (read.Node x) zs (read.Node x)) s.is t) in
          let round = leaf_chain (s.post ++ read.Node x ∷ s.pre) s.leaf (read.Leaf s.leaf) s.leaf (at_leaf s.leaf) (chain_join (read.Leaf s.leaf) s.post (read.Node x) s.pre (read.Leaf s.leaf) c.1 c.0) in
          let behind : leaves_in (s.post ++ read.Node x ∷ s.pre) ≡ leaves_in s.post =
          leaves_in-append s.post (read.Node x ∷ s.pre) ∙ ap (λ zs. leaves_in s.post ++ zs) s.none ∙ append-nil (leaves_in s.post)
          in
          let all : leaves_in xs ≡ s.leaf ∷ leaves_in s.post = ap leaves_in s.is ∙ leaves_in-append s.pre (read.Leaf s.leaf ∷ s.post) ∙ ap (λ zs. zs ++ s.leaf ∷ leaves_in s.post) s.none in
          let turns : LeafTurns net (s.leaf ∷ leaves_in s.post) = subst (λ (zs : List ℕ). LeafChain net s.leaf zs s.leaf) behind round in
          subst (LeafTurns net) (sym all) turns

  steps_of : (a : ℕ) (xs : List ℕ) (b : ℕ) → LeafChain net a xs b → (i x y : ℕ) → slice_get (a ∷ xs ++ b ∷ []) i ≡ Some x → slice_get (a ∷ xs ++ b ∷ []) (suc i) ≡ Some y → HangsOn net x y
  steps_of a [] b c zero x y h k = rw (← same_Some a x h, ← same_Some b y k) c
  steps_of a [] b c (suc i) x y h k = absurd (none-some y k)
  steps_of a (z ∷ xs) b c zero x y h k = rw (← same_Some a x h, ← same_Some z y k) c.0
  steps_of a (z ∷ xs) b c (suc i) x y h k = steps_of z xs b c.1 i x y h k

  loop_of : (x : ℕ) (xs : List ℕ) → LeafTurns net (x ∷ xs) → Distinct (x ∷ xs) → IsLoop net (x ∷ xs ++ x ∷ [])
  loop_of x xs turns d = record {
    long = omega (arith, long);
    steps = λ i y z h k. let e : i + 1 ≡ suc i = omega arith in steps_of x xs x turns i y z h (ap (slice_get (x ∷ xs ++ x ∷ [])) (sym e) ∙ k);
    closed =
        let end : length (x ∷ xs ++ x ∷ []) - 1 ≡ length (x ∷ xs) = omega (arith, long) in
        sym (ap (slice_get (x ∷ xs ++ x ∷ [])) end ∙ push_end (x ∷ xs) x);
    once = λ i j y ij h k. once i j y ij (push_cases (x ∷ xs) x i y h) (push_cases (x ∷ xs) x j y k);
  }
    where
      long : length (x ∷ xs ++ x ∷ []) ≡ length (x ∷ xs) + 1
      long = length-append (x ∷ xs) (x ∷ [])

      once : (i j y : ℕ) → i < j → (slice_get (x ∷ xs) i ≡ Some y) ⊎ ((i ≡ length (x ∷ xs)) × (x ≡ y)) → (slice_get (x ∷ xs) j ≡ Some y) ⊎ ((j ≡ length (x ∷ xs)) × (x ≡ y)) → (i ≡ 0) × (j ≡ length (x ∷ xs ++ x ∷ []) - 1)
      once i j y ij (inl h) (inl k) = absurd (omega (arith, ij, distinct_at (x ∷ xs) d i j y h k))
      once i j y ij (inl h) (inr (e, f)) = (distinct_at (x ∷ xs) d i 0 y h (ap Some f), omega (arith, e, long))
      once i j y ij (inr (e, f)) (inl k) = absurd (omega (arith, ij, e, slice_get_within (x ∷ xs) j y k))
      once i j y ij (inr (e, f)) (inr (g, t)) = absurd (omega (arith, ij, e, g))

  -- a circle has a leaf
  pub circle_has : (circle : List Read) → IsCircle net circle → 0 < length (leaves_in circle)
  circle_has circle c = by (leaves_in circle) (leaf_turns circle c.turns)
    where
      by : (walk : List ℕ) → LeafTurns net walk → 0 < length walk
      by [] t = absurd t
      by (x ∷ xs) t = omega arith

  chain_leaves : (v : Read) (vs : List Read) (w : Read) → Chain net v vs w → AreLeaves net (leaves_in (v ∷ vs))
  chain_leaves (read.Leaf k) [] w c = (reads_from net (read.Leaf k) w c, tt)
  chain_leaves (read.Leaf k) (x ∷ xs) w c = (reads_from net (read.Leaf k) x c.0, chain_leaves x xs w c.1)
  chain_leaves (read.Node k) [] w c = tt
  chain_leaves (read.Node k) (x ∷ xs) w c = chain_leaves x xs w c.1

  circle_leaves : (circle : List Read) → Turns net circle → AreLeaves net (leaves_in circle)
  circle_leaves [] t = tt
  circle_leaves (v ∷ vs) t = chain_leaves v vs v t

  -- leaves, and the first again, that are a loop of the net
  pub record IsWalk (first : ℕ) (walk : List ℕ) : Type 0 where
    pub starts : slice_get walk 0 ≡ Some first
    pub leaves : AreLeaves net walk
    pub loop : IsLoop net walk

  pub walk_of : (circle : List Read) → IsCircle net circle → (leaves : List ℕ) → leaves ≡ leaves_in circle → (first : ℕ) → first ≡ get_or leaves 0 first → (walk : List ℕ) → walk ≡ leaves ++ first ∷ [] → IsWalk first walk
  walk_of circle c leaves is first at walk all =
      let some : 0 < length leaves = omega (arith, circle_has circle c, ap length is) in
      let starts = slice_get_read leaves (length leaves) 0 first refl some at in
      rw all (by leaves starts (subst (LeafTurns net) (sym is) (leaf_turns circle c.turns)) (subst Distinct (sym is) (distinct_leaves circle c.once)) (subst (AreLeaves net) (sym is) (circle_leaves circle c.turns)))
    where
      by : (leaves : List ℕ) → slice_get leaves 0 ≡ Some first → LeafTurns net leaves → Distinct leaves → AreLeaves net leaves → IsWalk first (leaves ++ first ∷ [])
      by [] h t d l = absurd t
      by (x ∷ xs) h t d l =
          let same : first ≡ x = cc in
          rw same (record { starts = refl; leaves = all_joined (λ k. k < length net.leaves) (x ∷ xs) (x ∷ []) l (l.0, tt); loop = loop_of x xs t d })

  pub first_within : (first : ℕ) (walk : List ℕ) → IsWalk first walk → first < length net.leaves
  first_within first walk w = all_there (λ k. k < length net.leaves) walk w.leaves 0 first w.starts

  -- the fault that tells it
  pub walk_shows : (first : ℕ) (walk : List ℕ) (leaf : Leaf) (names : List (List ℕ)) → IsWalk first walk → slice_get net.leaves first ≡ Some leaf → names ≡ map (path_of net) walk → ShowsLoop net (Loop leaf.place names)
  walk_shows first [] leaf names w at e = absurd (none-some first w.starts)
  walk_shows first (x ∷ xs) leaf names w at e =
      let same : x ≡ first = same_Some x first w.starts in
      record { first = x; rest = xs; leaf = leaf; at = ap (slice_get net.leaves) same ∙ at; loop = w.loop; is = ap (Loop leaf.place) e }

-- one path more
pub paths_more : (net : FlatNet) (walk : List ℕ) (i k : ℕ) (leaf : Leaf) (names : List (List ℕ)) → names ≡ map (path_of net) (take i walk) → i < length walk → k ≡ get_or walk i k → slice_get net.leaves k ≡ Some leaf → names ++ leaf.path ∷ [] ≡ map (path_of net) (take (i + 1) walk)
paths_more net walk i k leaf names is low at of =
    let path : path_of net k ≡ leaf.path = ap (λ o. unwrap_or (option_map (λ l. l.path) o) []) of in
    rw (is, take_more walk i k low, map-append, ← at, path) refl
