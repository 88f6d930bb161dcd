-- The pairs of leaves by numbers are those by paths, in order, where a connect is legal.
use Rattle.std.proofs.Common.{◌≡◌, ℕ, zero, suc, ◌+◌, ◌*◌, ◌≤◌, min, List, [], ◌∷◌, ◌++◌, Bool, true, false, ◌==◌, ◌&&◌, length, map, slice_get, Option, Some, None, refl, sym, ap, ◌∙◌, subst, arith}
use Rattle.std.specs.Bool.{beq}
use Rattle.std.specs.Str.{bytes_eq}
use Rattle.std.proofs.lemmas.Bool.{eqb-true}
use Rattle.std.proofs.lemmas.List.{length-map}
use Rattle.fir_base.proofs.SameNames.{name_is}
use Rattle.fir_base.proofs.Tests.{both}
use Rattle.fir_ast.specs.Types.{DataType, bundle, vector, Fields, no_fields, field}
use Rattle.fir_meaning.specs.LeafPaths.{Step, named, element}
use Rattle.fir_meaning.specs.TypeLeaves.{turned, TypeLeaf, under, type_leaves, field_leaves, leaf_count}
use Rattle.fir_meaning.specs.TypeKinds.{FieldFound, field_named}
use Rattle.fir_meaning.specs.Equivalence.{fitting_ground, met, fields_alike, is_connectable, is_partly_connectable, fields_partly_connectable}
use Rattle.fir_meaning.specs.ConnectPairs.{Pair, both_under, element_pairs, pairs, field_pairs, partial_pairs, partial_field_pairs}
use Rattle.fir_meaning.proofs.LeafSteps.{same_flip}
use Rattle.fir_meaning.specs.working.FieldSizes.{leaves_before_field}
use Rattle.fir_meaning.specs.working.LeafPairs.{LeafPair, past, turned_pair, element_leaf_pairs, leaf_pairs, field_leaf_pairs, partial_leaf_pairs, partial_field_leaf_pairs}
use Rattle.fir_leaf.proofs.LeafPlaces.{get_left, get_right, get_mapped, leaves_counted, field_stands_from, element_stands_from}

-- the leaves of a pair, by their numbers in two lists
pub record IsPair (ls ks : List TypeLeaf) (n : LeafPair) (p : Pair) : Type 0 where
  pub left : slice_get ls n.left ≡ Some p.left
  pub right : slice_get ks n.right ≡ Some p.right
  pub flip : n.flip ≡ p.left.flip

-- pair by pair
abbrev pub ArePairs : (LeafPair → Pair → Type 0) → List LeafPair → List Pair → Type 0
ArePairs R [] [] = Unit {0}
ArePairs R (n ∷ ns) (p ∷ ps) = R n p × ArePairs R ns ps
ArePairs R _ _ = ⊥

pairs_joined : (R : LeafPair → Pair → Type 0) (ns ms : List LeafPair) (ps qs : List Pair) → ArePairs R ns ps → ArePairs R ms qs
    → ArePairs R (ns ++ ms) (ps ++ qs)
pairs_joined R [] ms [] qs h k = k
pairs_joined R [] ms (p ∷ ps) qs h k = absurd h
pairs_joined R (n ∷ ns) ms [] qs h k = absurd h
pairs_joined R (n ∷ ns) ms (p ∷ ps) qs h k = (h.0, pairs_joined R ns ms ps qs h.1 k)

pairs_mapped : (R S : LeafPair → Pair → Type 0) (f : LeafPair → LeafPair) (g : Pair → Pair) (ns : List LeafPair) (ps : List Pair)
    → ((n : LeafPair) (p : Pair) → R n p → S (f n) (g p)) → ArePairs R ns ps → ArePairs S (map f ns) (map g ps)
pairs_mapped R S f g [] [] to h = tt
pairs_mapped R S f g [] (p ∷ ps) to h = absurd h
pairs_mapped R S f g (n ∷ ns) [] to h = absurd h
pairs_mapped R S f g (n ∷ ns) (p ∷ ps) to h = (to n p h.0, pairs_mapped R S f g ns ps to h.1)

pairs_moved : (R S : LeafPair → Pair → Type 0) (f : LeafPair → LeafPair) (ns : List LeafPair) (ps : List Pair)
    → ((n : LeafPair) (p : Pair) → R n p → S (f n) p) → ArePairs R ns ps → ArePairs S (map f ns) ps
pairs_moved R S f [] [] to h = tt
pairs_moved R S f [] (p ∷ ps) to h = absurd h
pairs_moved R S f (n ∷ ns) [] to h = absurd h
pairs_moved R S f (n ∷ ns) (p ∷ ps) to h = (to n p h.0, pairs_moved R S f ns ps to h.1)

-- of some elements of two vectors, from a number on
pairs_of_elements : (n m i k : ℕ) (t u : DataType) (ns : List LeafPair) (ps : List Pair) → i + k ≤ n → i + k ≤ m
    → ArePairs (IsPair (type_leaves t) (type_leaves u)) ns ps
    → ArePairs (IsPair (type_leaves (vector t n)) (type_leaves (vector u m))) (element_leaf_pairs i k (leaf_count t) (leaf_count u) ns) (element_pairs i k ps)
pairs_of_elements n m i zero t u ns ps l r h = tt
pairs_of_elements n m i (suc k) t u ns ps l r h =
    let less_n : i + 1 + k ≤ n = omega arith in
    let less_m : i + 1 + k ≤ m = omega arith in
    let all = IsPair (type_leaves (vector t n)) (type_leaves (vector u m)) in
    let shift = past (i * leaf_count t) (i * leaf_count u) in
    pairs_joined all (map shift ns) (element_leaf_pairs (i + 1) k (leaf_count t) (leaf_count u) ns)
    (map (both_under false (element i)) ps) (element_pairs (i + 1) k ps)
    (pairs_mapped (IsPair (type_leaves t) (type_leaves u)) all shift (both_under false (element i)) ns ps here h)
    (pairs_of_elements n m (i + 1) k t u ns ps less_n less_m h)
  where
    here : (x : LeafPair) (p : Pair) → IsPair (type_leaves t) (type_leaves u) x p
        → IsPair (type_leaves (vector t n)) (type_leaves (vector u m)) (past (i * leaf_count t) (i * leaf_count u) x) (both_under false (element i) p)
    here x p w = record {
      left = (element_stands_from t n i (omega arith)).each x.left p.left w.left;
      right = (element_stands_from u m i (omega arith)).each x.right p.right w.right;
      flip = w.flip;
    }

-- of a field of two bundles, and of those that follow
field_pair : (f : Bool) (s : Step) (ls ls' ks ks' : List TypeLeaf) (n : LeafPair) (p : Pair) → IsPair ls ks n p
    → IsPair (map (under f s) ls ++ ls') (map (under f s) ks ++ ks') (turned_pair f n) (both_under f s p)
field_pair f s ls ls' ks ks' n p w = record {
  left = get_left (map (under f s) ls) ls' n.left (under f s p.left) (get_mapped (under f s) ls n.left p.left w.left);
  right = get_left (map (under f s) ks) ks' n.right (under f s p.right) (get_mapped (under f s) ks n.right p.right w.right);
  flip = ap (turned f) w.flip;
}

later_pair : (us ls vs ks : List TypeLeaf) (c d : ℕ) (n : LeafPair) (p : Pair) → length us ≡ c → length vs ≡ d → IsPair ls ks n p
    → IsPair (us ++ ls) (vs ++ ks) (past c d n) p
later_pair us ls vs ks c d n p a b w = record {
  left = get_right us ls c n.left a ∙ w.left;
  right = get_right vs ks d n.right b ∙ w.right;
  flip = w.flip;
}

under_counted : (f : Bool) (s : Step) (t : DataType) → length (map (under f s) (type_leaves t)) ≡ leaf_count t
under_counted f s t = length-map (type_leaves t) (under f s) ∙ leaves_counted t

mutual
  pub pairs_numbered : (t u : DataType) → is_connectable t u ≡ true → ArePairs (IsPair (type_leaves t) (type_leaves u)) (leaf_pairs t u) (pairs t u)
  pairs_numbered (bundle fs) (bundle gs) h = fields_numbered fs gs h
  pairs_numbered (bundle fs) u h = absurd (cc)
  pairs_numbered (vector t n) (vector u m) h =
      let tests = both (n == m) (is_connectable t u) h in
      let e : n ≡ m = eqb-true n m tests.0 in
      pairs_of_elements n m 0 n t u (leaf_pairs t u) (pairs t u) (omega arith) (omega arith) (pairs_numbered t u tests.1)
  pairs_numbered (vector t n) u h = absurd (cc)
  pairs_numbered t (bundle gs) h = absurd (cc)
  pairs_numbered t (vector u m) h = absurd (cc)
  pairs_numbered t u h = (record { left = refl; right = refl; flip = refl }, tt)

  fields_numbered : (fs gs : Fields) → fields_alike fitting_ground fs gs ≡ true
      → ArePairs (IsPair (field_leaves fs) (field_leaves gs)) (field_leaf_pairs fs gs) (field_pairs fs gs)
  fields_numbered no_fields no_fields h = tt
  fields_numbered no_fields (field q g y c u gs) h = absurd (cc)
  fields_numbered (field p f x b t fs) no_fields h = absurd (cc)
  fields_numbered (field p f x b t fs) (field q g y c u gs) h =
      let first = both (beq f g) _ h in
      let second = both (bytes_eq x y) _ first.1 in
      let third = both (is_connectable t u) _ second.1 in
      let flips : f ≡ g = same_flip f g first.0 in
      let names : x ≡ y = name_is x y second.0 in
      let one = map (under f (named x)) (type_leaves t) in
      let other = map (under f (named x)) (type_leaves u) in
      let all = IsPair (one ++ field_leaves fs) (other ++ field_leaves gs) in
      let ns = field_leaf_pairs (field p f x b t fs) (field q g y c u gs) in
      let ps = field_pairs (field p f x b t fs) (field q g y c u gs) in
      subst (λ (s : Bool). ArePairs (IsPair (one ++ field_leaves fs) (map (under s (named y)) (type_leaves u) ++ field_leaves gs)) ns ps) flips
      (subst (λ (n : List ℕ). ArePairs (IsPair (one ++ field_leaves fs) (map (under f (named n)) (type_leaves u) ++ field_leaves gs)) ns ps) names
      (pairs_joined all (map (turned_pair f) (leaf_pairs t u)) (map (past (leaf_count t) (leaf_count u)) (field_leaf_pairs fs gs))
      (map (both_under f (named x)) (pairs t u)) (field_pairs fs gs)
      (pairs_mapped (IsPair (type_leaves t) (type_leaves u)) all (turned_pair f) (both_under f (named x)) (leaf_pairs t u) (pairs t u)
      (field_pair f (named x) (type_leaves t) (field_leaves fs) (type_leaves u) (field_leaves gs)) (pairs_numbered t u third.0))
      (pairs_moved (IsPair (field_leaves fs) (field_leaves gs)) all (past (leaf_count t) (leaf_count u)) (field_leaf_pairs fs gs) (field_pairs fs gs)
      (λ n p.
      later_pair one (field_leaves fs) other (field_leaves gs) (leaf_count t) (leaf_count u) n p (under_counted f (named x) t)
      (under_counted f (named x) u))
      (fields_numbered fs gs third.1))))

-- of a field that the other side has too
module _ (f : Bool) (x : List ℕ) (t : DataType) (fs gs : Fields) where
  abbrev found_leaf_pairs : Option FieldFound → List LeafPair
  found_leaf_pairs = met [] (λ g. map (turned_pair f) (map (past 0 (leaves_before_field x gs)) (partial_leaf_pairs t g.data_type)))

  abbrev found_pairs : Option FieldFound → List Pair
  found_pairs = met [] (λ g. map (both_under f (named x)) (partial_pairs t g.data_type))

  found_numbered : (found : Option FieldFound) → field_named x gs ≡ found
      → met true (λ g. beq f g.flip && is_partly_connectable t g.data_type) found ≡ true
      → ((u : DataType) → is_partly_connectable t u ≡ true → ArePairs (IsPair (type_leaves t) (type_leaves u)) (partial_leaf_pairs t u) (partial_pairs t u))
      → ArePairs (IsPair (map (under f (named x)) (type_leaves t) ++ field_leaves fs) (field_leaves gs)) (found_leaf_pairs found) (found_pairs found)
  found_numbered None e h inside = tt
  found_numbered (Some g) e h inside =
      let tests = both (beq f g.flip) (is_partly_connectable t g.data_type) h in
      let shift = past 0 (leaves_before_field x gs) in
      let whole = IsPair (map (under f (named x)) (type_leaves t) ++ field_leaves fs) (field_leaves gs) in
      let outer : LeafPair → Pair → Type 0 = λ n p. whole (turned_pair f n) (both_under f (named x) p) in
      pairs_mapped outer whole (turned_pair f) (both_under f (named x)) (map shift (partial_leaf_pairs t g.data_type)) (partial_pairs t g.data_type)
      (λ n p w. w)
      (pairs_moved (IsPair (type_leaves t) (type_leaves g.data_type)) outer shift (partial_leaf_pairs t g.data_type) (partial_pairs t g.data_type)
      (λ n p w. here g e (same_flip f g.flip tests.0) n p w) (inside g.data_type tests.1))
    where
      here : (g : FieldFound) → field_named x gs ≡ Some g → f ≡ g.flip → (n : LeafPair) (p : Pair) → IsPair (type_leaves t) (type_leaves g.data_type) n p
          → IsPair (map (under f (named x)) (type_leaves t) ++ field_leaves fs) (field_leaves gs) (turned_pair f (past 0 (leaves_before_field x gs) n))
          (both_under f (named x) p)
      here g e flips n p w =
          let front = map (under f (named x)) (type_leaves t) in
          let none : 0 + n.left ≡ n.left = omega arith in
          record {
            left =
                ap (slice_get (front ++ field_leaves fs)) none
                ∙ get_left front (field_leaves fs) n.left (under f (named x) p.left) (get_mapped (under f (named x)) (type_leaves t) n.left p.left w.left);
            right = (field_stands_from gs x g e).each n.right p.right w.right ∙ ap (λ (s : Bool). Some (under s (named x) p.right)) (sym flips);
            flip = ap (turned f) w.flip;
          }

mutual
  pub partial_numbered : (t u : DataType) → is_partly_connectable t u ≡ true
      → ArePairs (IsPair (type_leaves t) (type_leaves u)) (partial_leaf_pairs t u) (partial_pairs t u)
  partial_numbered (bundle fs) (bundle gs) h = partial_fields_numbered fs gs h
  partial_numbered (bundle fs) u h = absurd (cc)
  partial_numbered (vector t n) (vector u m) h =
      pairs_of_elements n m 0 (min n m) t u (partial_leaf_pairs t u) (partial_pairs t u) (omega arith) (omega arith) (partial_numbered t u h)
  partial_numbered (vector t n) u h = absurd (cc)
  partial_numbered t (bundle gs) h = absurd (cc)
  partial_numbered t (vector u m) h = absurd (cc)
  partial_numbered t u h = (record { left = refl; right = refl; flip = refl }, tt)

  partial_fields_numbered : (fs gs : Fields) → fields_partly_connectable fs gs ≡ true
      → ArePairs (IsPair (field_leaves fs) (field_leaves gs)) (partial_field_leaf_pairs fs gs) (partial_field_pairs fs gs)
  partial_fields_numbered no_fields gs h = tt
  partial_fields_numbered (field p f x b t fs) gs h =
      let found = field_named x gs in
      let tests = both (met true (λ g. beq f g.flip && is_partly_connectable t g.data_type) found) (fields_partly_connectable fs gs) h in
      let front = map (under f (named x)) (type_leaves t) in
      let all = IsPair (front ++ field_leaves fs) (field_leaves gs) in
      pairs_joined all (found_leaf_pairs f x t fs gs found) (map (past (leaf_count t) 0) (partial_field_leaf_pairs fs gs))
      (found_pairs f x t fs gs found) (partial_field_pairs fs gs)
      (found_numbered f x t fs gs found refl tests.0 (λ u. partial_numbered t u))
      (pairs_moved (IsPair (field_leaves fs) (field_leaves gs)) all (past (leaf_count t) 0) (partial_field_leaf_pairs fs gs) (partial_field_pairs fs gs)
      (λ n p. later_pair front (field_leaves fs) [] (field_leaves gs) (leaf_count t) 0 n p (under_counted f (named x) t) refl)
      (partial_fields_numbered fs gs tests.1))
