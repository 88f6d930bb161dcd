-- Pairs of one element, put again for the others.
use Rattle.std.proofs.Common.{◌≡◌, ℕ, zero, suc, ◌+◌, ◌*◌, ◌-◌, ◌^◌, ◌<◌, ◌≤◌, Bool, List, [], ◌∷◌, ◌++◌, map, take, drop, length, get_or, refl, sym, ap, ◌∙◌, subst, append_assoc, arith}
use Rattle.std.proofs.lemmas.List.{append-nil, map-append, length-drop, get_or_append_left, get_or-drop, take_more, take_all, drop_at, drop-append-le, take-append-le, map_push}
use Rattle.std.specs.Prelude.{slice_range}
use Rattle.fir_meaning.specs.TypeLeaves.{leaf_count}
use Rattle.fir_ast.specs.Types.{DataType}
use Rattle.fir_meaning.specs.working.LeafPairs.{LeafPair, past, element_leaf_pairs}
use Rattle.fir_type_table.specs.working.Saturated.{saturated}
use Rattle.fir_leaf_pairs.specs.declared.pairs.LeafPair.{LeafPair as PairOfCode}
use Rattle.fir_leaf_pairs.specs.working.PairNumbers.{AreWithin}
use Rattle.fir_leaf_pairs.specs.working.Pairing.{pairs_of, pairs_of_elements, Meets, MeetElements, Paired, pair_seen, placed, moved, copies}
use Rattle.fir_leaf_pairs.proofs.PairPlaces.{placed_elements, placed_within, are_within, paired_as}

-- one more of a copy
pub copy_more : (old now : List PairOfCode) (start k l r : ℕ) (p : PairOfCode) → now ≡ old ++ map (moved l r) (take (k - start) (drop start old))
    → start ≤ k → k < length old → p ≡ get_or now k p
    → now ++ moved l r p ∷ [] ≡ old ++ map (moved l r) (take ((k + 1) - start) (drop start old))
copy_more old now start k l r p is from below at =
    let j : ℕ = k - start in
    let here : p ≡ get_or old k p = at ∙ ap (λ xs. get_or xs k p) is ∙ get_or_append_left old (map (moved l r) (take j (drop start old))) p k below in
    let place : start + j ≡ k = omega arith in
    let there : get_or (drop start old) j p ≡ p = get_or-drop start old j p ∙ ap (λ n. get_or old n p) place ∙ sym here in
    let short : j < length (drop start old) = omega (arith, length-drop start old) in
    let next : (k + 1) - start ≡ j + 1 = omega arith in
    let longer : take ((k + 1) - start) (drop start old) ≡ take j (drop start old) ++ p ∷ [] =
    ap (λ n. take n (drop start old)) next ∙ take_more (drop start old) j p short ∙ ap (λ x. take j (drop start old) ++ x ∷ []) there in
    ap (λ xs. xs ++ moved l r p ∷ []) is ∙ append_assoc old (map (moved l r) (take j (drop start old))) (moved l r p ∷ [])
    ∙ ap (λ xs. old ++ xs) (sym (map_push (moved l r) (take j (drop start old)) p)) ∙ ap (λ xs. old ++ map (moved l r) xs) (sym longer)

copies_push : (i n a b : ℕ) (ps : List PairOfCode)
    → copies i n a b ps ++ map (moved (saturated ((i + n) * a)) (saturated ((i + n) * b))) ps ≡ copies i (n + 1) a b ps
copies_push i zero a b ps =
    let e : i + 0 ≡ i = omega arith in
    ap (λ k. map (moved (saturated (k * a)) (saturated (k * b))) ps) e ∙ sym (append-nil (map (moved (saturated (i * a)) (saturated (i * b))) ps))
copies_push i (suc n) a b ps =
    let e : i + suc n ≡ (i + 1) + n = omega arith in
    let next : suc (n + 1) ≡ suc n + 1 = omega arith in
    append_assoc (map (moved (saturated (i * a)) (saturated (i * b))) ps) (copies (i + 1) n a b ps)
    (map (moved (saturated ((i + suc n) * a)) (saturated ((i + suc n) * b))) ps)
    ∙ ap (λ k. map (moved (saturated (i * a)) (saturated (i * b))) ps ++ (copies (i + 1) n a b ps ++ map (moved (saturated (k * a)) (saturated (k * b))) ps)) e
    ∙ ap (λ xs. map (moved (saturated (i * a)) (saturated (i * b))) ps ++ xs) (copies_push (i + 1) n a b ps)
    ∙ ap (λ k. copies i k a b ps) next

pub no_copies : (i n a b : ℕ) → copies i n a b [] ≡ []
no_copies i zero a b = refl
no_copies i (suc n) a b = no_copies (i + 1) n a b

-- those of one more element
pub copies_more : (old now new : List PairOfCode) (start end i a b left right : ℕ) → start ≤ length old → end ≡ length old → 1 ≤ i
    → now ≡ old ++ copies 1 (i - 1) a b (drop start old) → left ≡ saturated (i * a) → right ≡ saturated (i * b)
    → new ≡ now ++ map (moved left right) (slice_range now start end)
    → new ≡ old ++ copies 1 ((i + 1) - 1) a b (drop start old)
copies_more old now new start end i a b left right from whole some is l r grown =
    let one : List PairOfCode = drop start old in
    let rest : List PairOfCode = copies 1 (i - 1) a b one in
    let long : length one ≡ end - start = length-drop start old ∙ ap (λ n. n - start) (sym whole) in
    let same : slice_range now start end ≡ one =
    ap (λ xs. take (end - start) (drop start xs)) is ∙ ap (take (end - start)) (drop-append-le start old rest from)
    ∙ take-append-le (end - start) one rest (omega (arith, long)) ∙ take_all (end - start) one (omega (arith, long)) in
    let count : 1 + (i - 1) ≡ i = omega arith in
    let next : (i - 1) + 1 ≡ (i + 1) - 1 = omega arith in
    grown ∙ ap (λ xs. now ++ map (moved left right) xs) same ∙ ap (λ x. now ++ map (moved x right) one) l
    ∙ ap (λ x. now ++ map (moved (saturated (i * a)) x) one) r
    ∙ ap (λ xs. xs ++ map (moved (saturated (i * a)) (saturated (i * b))) one) is
    ∙ append_assoc old rest (map (moved (saturated (i * a)) (saturated (i * b))) one)
    ∙ ap (λ k. old ++ (rest ++ map (moved (saturated (k * a)) (saturated (k * b))) one)) (sym count)
    ∙ ap (λ xs. old ++ xs) (copies_push 1 (i - 1) a b one) ∙ ap (λ k. old ++ copies 1 k a b one) next

moved_left : (n x p : ℕ) → n + x ≤ 2 ^ 64 → p < n → saturated (p + saturated x) ≡ x + p
moved_left n x p room below = omega arith

moved_seen : (x y n m : ℕ) (cs : List PairOfCode) → n + x ≤ 2 ^ 64 → m + y ≤ 2 ^ 64 → AreWithin n m (map pair_seen cs)
    → map pair_seen (map (moved (saturated x) (saturated y)) cs) ≡ map (past x y) (map pair_seen cs)
moved_seen x y n m [] a b h = refl
moved_seen x y n m (c ∷ cs) a b h =
    ap (λ k. record { left = k; right = saturated (c.right + saturated y); flip = c.flip } ∷ map pair_seen (map (moved (saturated x) (saturated y)) cs))
    (moved_left n x c.left a h.0)
    ∙ ap (λ k. record { left = x + c.left; right = k; flip = c.flip } ∷ map pair_seen (map (moved (saturated x) (saturated y)) cs))
    (moved_left m y c.right b h.1)
    ∙ ap (λ ps. past x y (pair_seen c) ∷ ps) (moved_seen x y n m cs a b h.2)

room_here : (n i k a : ℕ) → n + (i + suc k) * a < 2 ^ 64 + a → n + i * a ≤ 2 ^ 64
room_here n i k a h = grind arith

room_next : (n i k a : ℕ) → n + (i + suc k) * a < 2 ^ 64 + a → n + ((i + 1) + k) * a < 2 ^ 64 + a
room_next n i k a h = let e : i + suc k ≡ (i + 1) + k = omega arith in subst (λ j. n + j * a < 2 ^ 64 + a) e h

copies_seen : (i k a b n m : ℕ) (cs : List PairOfCode) → n + (i + k) * a < 2 ^ 64 + a → m + (i + k) * b < 2 ^ 64 + b → AreWithin n m (map pair_seen cs)
    → map pair_seen (copies i k a b cs) ≡ element_leaf_pairs i k a b (map pair_seen cs)
copies_seen i zero a b n m cs x y h = refl
copies_seen i (suc k) a b n m cs x y h =
    map-append pair_seen (map (moved (saturated (i * a)) (saturated (i * b))) cs) (copies (i + 1) k a b cs)
    ∙ ap (λ ps. ps ++ map pair_seen (copies (i + 1) k a b cs)) (moved_seen (i * a) (i * b) n m cs (room_here n i k a x) (room_here m i k b y) h)
    ∙ ap (λ ps. map (past (i * a) (i * b)) (map pair_seen cs) ++ ps) (copies_seen (i + 1) k a b n m cs (room_next n i k a x) (room_next m i k b y) h)

past_nothing : (a b : ℕ) (ps : List LeafPair) → map (past (0 * a) (0 * b)) ps ≡ ps
past_nothing a b [] = refl
past_nothing a b (p ∷ ps) =
    let left : 0 * a + p.left ≡ p.left = omega arith in
    let right : 0 * b + p.right ≡ p.right = omega arith in
    ap (λ x. record { left = x; right = 0 * b + p.right; flip = p.flip } ∷ map (past (0 * a) (0 * b)) ps) left
    ∙ ap (λ x. record { left = p.left; right = x; flip = p.flip } ∷ map (past (0 * a) (0 * b)) ps) right
    ∙ ap (λ qs. p ∷ qs) (past_nothing a b ps)

first_room : (l k a : ℕ) → l + suc k * a < 2 ^ 64 → l + a < 2 ^ 64
first_room l k a h = grind arith

all_room : (l k a : ℕ) → l + suc k * a < 2 ^ 64 → (l + a) + (1 + k) * a < 2 ^ 64 + a
all_room l k a h = grind arith

-- the first of some elements
pub first_meets : (partial : Bool) (l r n : ℕ) (s t : DataType) → (n ≡ 0 → ⊥) → MeetElements partial l r n s t → Meets partial l r s t
first_meets partial l r zero s t some h = absurd (some refl)
first_meets partial l r (suc k) s t some h = record {
  joins = h.joins;
  left = first_room l k (leaf_count s) h.left;
  right = first_room r k (leaf_count t)
      h.right;
}

pub elements_paired : (partial flip : Bool) (l r n start each other : ℕ) (s t : DataType) (old mid new : List PairOfCode) → (n ≡ 0 → ⊥)
    → MeetElements partial l r n s t → start ≡ length old → each ≡ saturated (leaf_count s) → other ≡ saturated (leaf_count t)
    → Paired old mid (map (placed flip l r) (pairs_of partial s t)) → new ≡ mid ++ copies 1 (n - 1) each other (drop start mid)
    → Paired old new (map (placed flip l r) (pairs_of_elements partial n s t))
elements_paired partial flip l r zero start each other s t old mid new some h from e o one grown = absurd (some refl)
elements_paired partial flip l r (suc k) start each other s t old mid new some h from e o one grown =
    let a = leaf_count s in
    let b = leaf_count t in
    let exact_a : each ≡ a = let room = first_room l k a h.left in omega arith in
    let exact_b : other ≡ b = let room = first_room r k b h.right in omega arith in
    let ps : List LeafPair = map (placed flip l r) (pairs_of partial s t) in
    let tail : drop start mid ≡ one.more = ap (drop start) one.grown ∙ drop_at old one.more start (sym from) in
    let count : suc k - 1 ≡ k = omega arith in
    let within : AreWithin (l + a) (r + b) (map pair_seen one.more) =
    subst (AreWithin (l + a) (r + b)) (sym one.are) (placed_within flip l r a b (pairs_of partial s t) (are_within partial s t h.joins)) in
    let seen : map pair_seen (copies 1 k a b one.more) ≡ element_leaf_pairs 1 k a b ps =
    copies_seen 1 k a b (l + a) (r + b) one.more (all_room l k a h.left) (all_room r k b h.right) within ∙ ap (element_leaf_pairs 1 k a b) one.are in
    let exact : copies 1 (suc k - 1) each other (drop start mid) ≡ copies 1 k a b one.more =
    ap (λ n. copies 1 n each other (drop start mid)) count ∙ ap (λ x. copies 1 k x other (drop start mid)) exact_a
    ∙ ap (λ x. copies 1 k a x (drop start mid)) exact_b
    ∙ ap (copies 1 k a b) tail in
    let all : Paired old new (ps ++ element_leaf_pairs 1 k a b ps) = record {
      more = one.more ++ copies 1 k a b one.more;
      grown = grown ∙ ap (λ xs. mid ++ xs) exact ∙ ap (λ xs. xs ++ copies 1 k a b one.more) one.grown ∙ append_assoc old one.more (copies 1 k a b one.more);
      are = map-append pair_seen one.more (copies 1 k a b one.more) ∙ ap (λ xs. xs ++ map pair_seen (copies 1 k a b one.more)) one.are
          ∙ ap (λ xs. ps ++ xs) seen;
    } in
    paired_as old new (ps ++ element_leaf_pairs 1 k a b ps) (map (placed flip l r) (pairs_of_elements partial (suc k) s t))
    (ap (λ qs. qs ++ element_leaf_pairs 1 k a b ps) (sym (past_nothing a b ps)) ∙ sym (placed_elements flip l r 0 (suc k) a b (pairs_of partial s t))) all
