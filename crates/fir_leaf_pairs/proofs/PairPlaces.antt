-- Pairs of parts, at their places in whole types.
use Rattle.std.proofs.Common.{◌≡◌, ℕ, zero, suc, ◌+◌, ◌*◌, List, [], ◌∷◌, ◌++◌, map, Bool, true, false, refl, sym, ap, ◌∙◌, arith, append_assoc}
use Rattle.std.proofs.lemmas.List.{append-nil, map-append}
use Rattle.fir_ast.specs.Types.{DataType}
use Rattle.fir_meaning.specs.TypeLeaves.{turned, leaf_count}
use Rattle.fir_meaning.specs.working.LeafPairs.{LeafPair, past, turned_pair, element_leaf_pairs}
use Rattle.fir_leaf_pairs.specs.declared.pairs.LeafPair.{LeafPair as PairOfCode}
use Rattle.fir_leaf_pairs.specs.working.PairNumbers.{AreWithin}
use Rattle.fir_leaf_pairs.specs.working.Pairing.{pairs_of, Joins, Paired, pair_seen, placed}
use Rattle.fir_leaf_pairs.proofs.PairNumbers.{pairs_within, partial_within}

turned_twice : (a b c : Bool) → turned a (turned b c) ≡ turned (turned a b) c
turned_twice true true true = refl
turned_twice true true false = refl
turned_twice true false c = refl
turned_twice false b c = refl

pub placed_turned : (f g : Bool) (l r : ℕ) (ps : List LeafPair) → map (placed f l r) (map (turned_pair g) ps) ≡ map (placed (turned f g) l r) ps
placed_turned f g l r [] = refl
placed_turned f g l r (p ∷ ps) =
    ap (λ flip. record { left = l + p.left; right = r + p.right; flip = flip } ∷ map (placed f l r) (map (turned_pair g) ps)) (turned_twice f g p.flip)
    ∙ ap (λ qs. placed (turned f g) l r p ∷ qs) (placed_turned f g l r ps)

pub placed_past : (f : Bool) (l r n m : ℕ) (ps : List LeafPair) → map (placed f l r) (map (past n m) ps) ≡ map (placed f (l + n) (r + m)) ps
placed_past f l r n m [] = refl
placed_past f l r n m (p ∷ ps) =
    let left : l + (n + p.left) ≡ (l + n) + p.left = omega arith in
    let right : r + (m + p.right) ≡ (r + m) + p.right = omega arith in
    ap (λ x. record { left = x; right = r + (m + p.right); flip = turned f p.flip } ∷ map (placed f l r) (map (past n m) ps)) left
    ∙ ap (λ x. record { left = (l + n) + p.left; right = x; flip = turned f p.flip } ∷ map (placed f l r) (map (past n m) ps)) right
    ∙ ap (λ qs. placed f (l + n) (r + m) p ∷ qs) (placed_past f l r n m ps)

-- the other way round
past_placed : (f : Bool) (l r n m : ℕ) (ps : List LeafPair) → map (past n m) (map (placed f l r) ps) ≡ map (placed f (l + n) (r + m)) ps
past_placed f l r n m [] = refl
past_placed f l r n m (p ∷ ps) =
    let left : n + (l + p.left) ≡ (l + n) + p.left = omega arith in
    let right : m + (r + p.right) ≡ (r + m) + p.right = omega arith in
    ap (λ x. record { left = x; right = m + (r + p.right); flip = turned f p.flip } ∷ map (past n m) (map (placed f l r) ps)) left
    ∙ ap (λ x. record { left = (l + n) + p.left; right = x; flip = turned f p.flip } ∷ map (past n m) (map (placed f l r) ps)) right
    ∙ ap (λ qs. placed f (l + n) (r + m) p ∷ qs) (past_placed f l r n m ps)

pub placed_elements : (f : Bool) (l r i n a b : ℕ) (ps : List LeafPair)
    → map (placed f l r) (element_leaf_pairs i n a b ps) ≡ element_leaf_pairs i n a b (map (placed f l r) ps)
placed_elements f l r i zero a b ps = refl
placed_elements f l r i (suc n) a b ps =
    map-append (placed f l r) (map (past (i * a) (i * b)) ps) (element_leaf_pairs (i + 1) n a b ps)
    ∙ ap (λ qs. qs ++ map (placed f l r) (element_leaf_pairs (i + 1) n a b ps))
    (placed_past f l r (i * a) (i * b) ps ∙ sym (past_placed f l r (i * a) (i * b) ps))
    ∙ ap (λ qs. map (past (i * a) (i * b)) (map (placed f l r) ps) ++ qs) (placed_elements f l r (i + 1) n a b ps)

pub placed_here : (ps : List LeafPair) → map (placed false 0 0) ps ≡ ps
placed_here [] = refl
placed_here (p ∷ ps) =
    let left : 0 + p.left ≡ p.left = omega arith in
    let right : 0 + p.right ≡ p.right = omega arith in
    ap (λ x. record { left = x; right = 0 + p.right; flip = p.flip } ∷ map (placed false 0 0) ps) left
    ∙ ap (λ x. record { left = p.left; right = x; flip = p.flip } ∷ map (placed false 0 0) ps) right
    ∙ ap (λ qs. p ∷ qs) (placed_here ps)

pub placed_within : (f : Bool) (l r n m : ℕ) (ps : List LeafPair) → AreWithin n m ps → AreWithin (l + n) (r + m) (map (placed f l r) ps)
placed_within f l r n m [] h = tt
placed_within f l r n m (p ∷ ps) h = (omega (arith, h.0), omega (arith, h.1), placed_within f l r n m ps h.2)

pub are_within : (partial : Bool) (s t : DataType) → Joins partial s t → AreWithin (leaf_count s) (leaf_count t) (pairs_of partial s t)
are_within true s t h = partial_within s t
are_within false s t h = pairs_within s t h

none_within : (n m : ℕ) (ps : List LeafPair) → n ≡ 0 → AreWithin n m ps → ps ≡ []
none_within n m [] e h = refl
none_within n m (p ∷ ps) e h = absurd (omega (arith, e, h.0))

-- a type without leaves has no pairs
pub no_pairs : (partial : Bool) (s t : DataType) → Joins partial s t → leaf_count s ≡ 0 → pairs_of partial s t ≡ []
no_pairs partial s t joins e = none_within (leaf_count s) (leaf_count t) (pairs_of partial s t) e (are_within partial s t joins)

-- no pair has come, and one pairing behind another
pub paired_none : (old : List PairOfCode) → Paired old old []
paired_none old = record { more = []; grown = sym (append-nil old); are = refl }

pub paired_one : (old new : List PairOfCode) (p : PairOfCode) → new ≡ old ++ p ∷ [] → Paired old new (pair_seen p ∷ [])
paired_one old new p e = record { more = p ∷ []; grown = e; are = refl }

pub paired_then : (old mid new : List PairOfCode) (ps qs : List LeafPair) → Paired old mid ps → Paired mid new qs → Paired old new (ps ++ qs)
paired_then old mid new ps qs a b = record {
  more = a.more ++ b.more;
  grown = b.grown ∙ ap (λ l. l ++ b.more) a.grown ∙ append_assoc old a.more b.more;
  are = map-append pair_seen a.more b.more ∙ ap (λ l. l ++ map pair_seen b.more) a.are ∙ ap (λ l. ps ++ l) b.are;
}

pub paired_as : (old new : List PairOfCode) (ps qs : List LeafPair) → ps ≡ qs → Paired old new ps → Paired old new qs
paired_as old new ps qs e h = record { more = h.more; grown = h.grown; are = h.are ∙ e }
