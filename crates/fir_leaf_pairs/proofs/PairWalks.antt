-- The walk over two types: vectors, bundles, and the fields of bundles one by one.
use Rattle.std.proofs.Common.{◌≡◌, ℕ, ◌+◌, ◌*◌, ◌^◌, ◌<◌, ◌≤◌, min, List, [], ◌∷◌, ◌++◌, map, length, get_or, Bool, true, false, refl, sym, ap, ◌∙◌, subst, append_assoc, arith, ⊎_elim}
use Rattle.std.proofs.lemmas.List.{append-nil, map-append}
use Rattle.std.proofs.lemmas.Bool.{cases_lt}
use Rattle.fir_ast.specs.declared.place.Place.{Place}
use Rattle.fir_ast.specs.Types.{DataType, bundle, vector, Fields, no_fields, field}
use Rattle.fir_meaning.specs.TypeLeaves.{turned, leaf_count, field_count}
use Rattle.fir_meaning.specs.working.LeafPairs.{LeafPair, past, turned_pair, element_leaf_pairs, ground_leaf_pair, leaf_pairs, field_leaf_pairs}
use Rattle.fir_type_table.specs.declared.entry.Member.{Member}
use Rattle.fir_type_table.specs.working.Saturated.{saturated}
use Rattle.fir_type_table.specs.working.Tables.{type_at, member_of, member_fields}
use Rattle.fir_type_table.proofs.MemberLists.{members_from, members_next, members_end}
use Rattle.fir_leaf_pairs.specs.declared.pairs.LeafPair.{LeafPair as PairOfCode}
use Rattle.fir_leaf_pairs.specs.declared.pairs.Part.{Part}
use Rattle.fir_leaf_pairs.specs.working.Pairing.{pairs_of, pairs_of_elements, Joins, Meets, MeetElements, Paired, pair_seen, placed, part_type, PairsParts, PairsFields, is_ground_type}
use Rattle.fir_leaf_pairs.proofs.PairNumbers.{same_vectors, same_fields}
use Rattle.fir_leaf_pairs.proofs.PairPlaces.{placed_turned, placed_past, no_pairs, paired_none, paired_one, paired_then, paired_as}

-- parts of these types
pub parts_of : (ts : List DataType) (partial flip : Bool) (left right : Part) (old new : List PairOfCode) (s t : DataType) → part_type ts left ≡ s
    → part_type ts right ≡ t
    → (Meets partial left.first right.first s t → Paired old new (map (placed flip left.first right.first) (pairs_of partial s t)))
    → PairsParts ts partial flip left right old new
parts_of ts partial flip left right old new s t a b h = λ meets.
    let P : DataType → DataType → Type 0 = λ x y. Meets partial left.first right.first x y
    → Paired old new (map (placed flip left.first right.first) (pairs_of partial x y)) in
    let whole : P (part_type ts left) (part_type ts right) = subst (λ x. P x (part_type ts right)) (sym a) (subst (P s) (sym b) h) in
    whole meets

-- without pairs
pub parts_apart : (partial flip : Bool) (l r : ℕ) (s t : DataType) (old : List PairOfCode) → pairs_of partial s t ≡ []
    → Paired old old (map (placed flip l r) (pairs_of partial s t))
parts_apart partial flip l r s t old e = paired_as old old [] (map (placed flip l r) (pairs_of partial s t)) (ap (map (placed flip l r)) (sym e))
    (paired_none old)

pub parts_empty : (ts : List DataType) (partial flip : Bool) (left right : Part) (old : List PairOfCode) → saturated (leaf_count (part_type ts left)) ≡ 0
    → PairsParts ts partial flip left right old old
parts_empty ts partial flip left right old none = λ meets.
    let e : leaf_count (part_type ts left) ≡ 0 = omega arith in
    parts_apart partial flip left.first right.first (part_type ts left) (part_type ts right) old
    (no_pairs partial (part_type ts left) (part_type ts right) meets.joins e)

-- ground types
pub ground_pairs : (partial : Bool) (s t : DataType) → is_ground_type s ≡ true → is_ground_type t ≡ true → pairs_of partial s t ≡ ground_leaf_pair
ground_pairs true (bundle fs) _ a b = absurd (cc)
ground_pairs true (vector s n) _ a b = absurd (cc)
ground_pairs true _ (bundle gs) a b = absurd (cc)
ground_pairs true _ (vector t n) a b = absurd (cc)
ground_pairs true _ _ a b = refl
ground_pairs false (bundle fs) _ a b = absurd (cc)
ground_pairs false (vector s n) _ a b = absurd (cc)
ground_pairs false _ (bundle gs) a b = absurd (cc)
ground_pairs false _ (vector t n) a b = absurd (cc)
ground_pairs false _ _ a b = refl

turned_straight : (flip : Bool) → turned flip false ≡ flip
turned_straight true = refl
turned_straight false = refl

pub parts_ground : (partial flip : Bool) (l r : ℕ) (s t : DataType) (old new : List PairOfCode) → is_ground_type s ≡ true → is_ground_type t ≡ true
    → new ≡ old ++ record { left = l; right = r; flip = flip } ∷ []
    → Paired old new (map (placed flip l r) (pairs_of partial s t))
parts_ground partial flip l r s t old new a b grown =
    let one : PairOfCode = record { left = l; right = r; flip = flip } in
    let left : l + 0 ≡ l = omega arith in
    let right : r + 0 ≡ r = omega arith in
    let own : map (placed flip l r) (pairs_of partial s t) ≡ pair_seen one ∷ [] =
    ap (map (placed flip l r)) (ground_pairs partial s t a b)
    ∙ ap (λ x. record { left = x; right = r + 0; flip = turned flip false } ∷ []) left
    ∙ ap (λ x. record { left = l; right = x; flip = turned flip false } ∷ []) right
    ∙ ap (λ x. record { left = l; right = r; flip = x } ∷ []) (turned_straight flip) in
    paired_as old new (pair_seen one ∷ []) (map (placed flip l r) (pairs_of partial s t)) (sym own) (paired_one old new one grown)

-- a ground type and another
pub mixed_left : (partial : Bool) (s t : DataType) → is_ground_type s ≡ true → is_ground_type t ≡ false → pairs_of partial s t ≡ []
mixed_left true (bundle fs) _ a b = absurd (cc)
mixed_left true (vector s n) _ a b = absurd (cc)
mixed_left true _ (bundle gs) a b = refl
mixed_left true _ (vector t n) a b = refl
mixed_left true _ _ a b = absurd (cc)
mixed_left false (bundle fs) _ a b = absurd (cc)
mixed_left false (vector s n) _ a b = absurd (cc)
mixed_left false _ (bundle gs) a b = refl
mixed_left false _ (vector t n) a b = refl
mixed_left false _ _ a b = absurd (cc)

pub mixed_right : (partial : Bool) (s t : DataType) → is_ground_type s ≡ false → is_ground_type t ≡ true → pairs_of partial s t ≡ []
mixed_right true (bundle fs) (bundle gs) a b = absurd (cc)
mixed_right true (bundle fs) _ a b = refl
mixed_right true (vector s n) (vector t m) a b = absurd (cc)
mixed_right true (vector s n) _ a b = refl
mixed_right true _ _ a b = absurd (cc)
mixed_right false (bundle fs) (bundle gs) a b = absurd (cc)
mixed_right false (bundle fs) _ a b = refl
mixed_right false (vector s n) (vector t m) a b = absurd (cc)
mixed_right false (vector s n) _ a b = refl
mixed_right false _ _ a b = absurd (cc)

bundle_vector : (partial : Bool) (fs : Fields) (t : DataType) (m : ℕ) → pairs_of partial (bundle fs) (vector t m) ≡ []
bundle_vector true fs t m = refl
bundle_vector false fs t m = refl

vector_bundle : (partial : Bool) (s : DataType) (n : ℕ) (gs : Fields) → pairs_of partial (vector s n) (bundle gs) ≡ []
vector_bundle true s n gs = refl
vector_bundle false s n gs = refl

-- vectors
less_room : (l n k a : ℕ) → k ≤ n → l + n * a < 2 ^ 64 → l + k * a < 2 ^ 64
less_room l n k a le h = grind arith

vector_joins : (partial : Bool) (s t : DataType) (n m : ℕ) → Joins partial (vector s n) (vector t m) → Joins partial s t
vector_joins true s t n m h = tt
vector_joins false s t n m h = (same_vectors s t n m h).elements

vector_pairs : (partial : Bool) (s t : DataType) (n m : ℕ) → Joins partial (vector s n) (vector t m)
    → pairs_of partial (vector s n) (vector t m) ≡ pairs_of_elements partial (min n m) s t
vector_pairs true s t n m h = refl
vector_pairs false s t n m h =
    let same : n ≡ m = (same_vectors s t n m h).length in
    let e : n ≡ min n m = omega arith in
    ap (λ k. element_leaf_pairs 0 k (leaf_count s) (leaf_count t) (leaf_pairs s t)) e

pub parts_vectors : (partial flip : Bool) (l r n m : ℕ) (s t : DataType) (old new : List PairOfCode)
    → (MeetElements partial l r (min n m) s t → Paired old new (map (placed flip l r) (pairs_of_elements partial (min n m) s t)))
    → Meets partial l r (vector s n) (vector t m) → Paired old new (map (placed flip l r) (pairs_of partial (vector s n) (vector t m)))
parts_vectors partial flip l r n m s t old new h meets =
    paired_as old new (map (placed flip l r) (pairs_of_elements partial (min n m) s t)) (map (placed flip l r) (pairs_of partial (vector s n) (vector t m)))
    (ap (map (placed flip l r)) (sym (vector_pairs partial s t n m meets.joins)))
    (h (record {
      joins = vector_joins partial s t n m meets.joins;
      left = less_room l n (min n m) (leaf_count s) (omega arith) meets.left;
      right = less_room r m (min n m) (leaf_count t) (omega arith) meets.right;
    }))

-- fields in step: one of each side, and those behind
pub record StepMeets (l r : ℕ) (t u : DataType) (fs gs : Fields) : Type 0 where
  pub here : Meets false l r t u
  pub behind : Meets false (l + leaf_count t) (r + leaf_count u) (bundle fs) (bundle gs)

step_meets : (l r : ℕ) (p b q c : Place) (f g : Bool) (x y : List ℕ) (t u : DataType) (fs gs : Fields)
    → Meets false l r (bundle (field p f x b t fs)) (bundle (field q g y c u gs)) → StepMeets l r t u fs gs
step_meets l r p b q c f g x y t u fs gs h =
    let same = same_fields f g x y t u fs gs h.joins in
    let left : l + (leaf_count t + field_count fs) < 2 ^ 64 = h.left in
    let right : r + (leaf_count u + field_count gs) < 2 ^ 64 = h.right in
    record {
      here = record { joins = same.here; left = omega arith; right = omega arith };
      behind = record { joins = same.behind; left = omega arith; right = omega arith };
    }

step_pairs : (flip : Bool) (l r : ℕ) (p b q c : Place) (f g : Bool) (x y : List ℕ) (t u : DataType) (fs gs : Fields)
    → map (placed flip l r) (field_leaf_pairs (field p f x b t fs) (field q g y c u gs))
    ≡ map (placed (turned flip f) l r) (leaf_pairs t u) ++ map (placed flip (l + leaf_count t) (r + leaf_count u)) (field_leaf_pairs fs gs)
step_pairs flip l r p b q c f g x y t u fs gs =
    map-append (placed flip l r) (map (turned_pair f) (leaf_pairs t u)) (map (past (leaf_count t) (leaf_count u)) (field_leaf_pairs fs gs))
    ∙ ap (λ ps. ps ++ map (placed flip l r) (map (past (leaf_count t) (leaf_count u)) (field_leaf_pairs fs gs))) (placed_turned flip f l r (leaf_pairs t u))
    ∙ ap (λ ps. map (placed (turned flip f) l r) (leaf_pairs t u) ++ ps) (placed_past flip l r (leaf_count t) (leaf_count u) (field_leaf_pairs fs gs))

-- what has come, and what is left
pub record StepsLeft (ts : List DataType) (flip : Bool) (l r : ℕ) (fs gs : List Member) (i one other : ℕ) (old new : List PairOfCode) : Type 0 where
  pub done : List LeafPair
  pub paired : Paired old new done
  pub meets : Meets false one other (bundle (members_from ts fs i)) (bundle (members_from ts gs i))
  pub all : done ++ map (placed flip one other) (field_leaf_pairs (members_from ts fs i) (members_from ts gs i))
      ≡ map (placed flip l r) (field_leaf_pairs (member_fields ts fs) (member_fields ts gs))

abbrev pub StepsSoFar : List DataType → Bool → ℕ → ℕ → List Member → List Member → ℕ → ℕ → ℕ → List PairOfCode → List PairOfCode → Type 0
StepsSoFar ts flip l r fs gs i one other old new =
    Meets false l r (bundle (member_fields ts fs)) (bundle (member_fields ts gs)) → StepsLeft ts flip l r fs gs i one other old new

pub steps_none : (ts : List DataType) (flip : Bool) (l r : ℕ) (fs gs : List Member) (old : List PairOfCode) → StepsSoFar ts flip l r fs gs 0 l r old old
steps_none ts flip l r fs gs old = λ meets. record { done = []; paired = paired_none old; meets = meets; all = refl }

pub steps_more : (ts : List DataType) (flip : Bool) (l r : ℕ) (fs gs : List Member) (i one other next behind : ℕ) (turn : Bool) (f g : Member)
    (old mid new : List PairOfCode)
    → StepsSoFar ts flip l r fs gs i one other old mid → i < length fs → i < length gs → f ≡ get_or fs i f → g ≡ get_or gs i g → turn ≡ turned flip f.flip
    → PairsParts ts false turn (record { ty = f.ty; first = one }) (record { ty = g.ty; first = other }) mid new
    → next ≡ saturated (one + saturated (leaf_count (type_at ts f.ty.number))) → behind ≡ saturated (other + saturated (leaf_count (type_at ts g.ty.number)))
    → StepsSoFar ts flip l r fs gs (i + 1) next behind old new
steps_more ts flip l r fs gs i one other next behind turn f g old mid new so_far less fewer f_is g_is turn_is pairs next_is behind_is = λ start.
    let now = so_far start in
    let rest_f : Fields = members_from ts fs (i + 1) in
    let rest_g : Fields = members_from ts gs (i + 1) in
    let t : DataType = type_at ts f.ty.number in
    let u : DataType = type_at ts g.ty.number in
    let left_is = members_next ts fs i f less f_is in
    let right_is = members_next ts gs i g fewer g_is in
    let meets : Meets false one other (bundle (member_of ts f rest_f)) (bundle (member_of ts g rest_g)) =
    subst (λ x. Meets false one other (bundle x) (bundle (member_of ts g rest_g))) left_is
    (subst (λ y. Meets false one other (bundle (members_from ts fs i)) (bundle y)) right_is now.meets) in
    let step = step_meets one other f.place f.type_place g.place g.type_place f.flip g.flip f.name g.name t u rest_f rest_g meets in
    let own : List LeafPair = map (placed (turned flip f.flip) one other) (leaf_pairs t u) in
    let came : Paired mid new own = subst (λ w. Paired mid new (map (placed w one other) (leaf_pairs t u))) turn_is (pairs step.here) in
    let next_exact : next ≡ one + leaf_count t = let b = step.here.left in omega arith in
    let behind_exact : behind ≡ other + leaf_count u = let b = step.here.right in omega arith in
    let both : map (placed flip one other) (field_leaf_pairs (members_from ts fs i) (members_from ts gs i))
    ≡ own ++ map (placed flip (one + leaf_count t) (other + leaf_count u)) (field_leaf_pairs rest_f rest_g) =
    ap (λ x. map (placed flip one other) (field_leaf_pairs x (members_from ts gs i))) left_is
    ∙ ap (λ y. map (placed flip one other) (field_leaf_pairs (member_of ts f rest_f) y)) right_is
    ∙ step_pairs flip one other f.place f.type_place g.place g.type_place f.flip g.flip f.name g.name t u rest_f rest_g in
    record {
      done = now.done ++ own;
      paired = paired_then old mid new now.done own now.paired came;
      meets =
          subst (λ x. Meets false x behind (bundle rest_f) (bundle rest_g)) (sym next_exact)
          (subst (λ y. Meets false (one + leaf_count t) y (bundle rest_f) (bundle rest_g)) (sym behind_exact) step.behind);
      all =
          ap (λ x. (now.done ++ own) ++ map (placed flip x behind) (field_leaf_pairs rest_f rest_g)) next_exact
          ∙ ap (λ y. (now.done ++ own) ++ map (placed flip (one + leaf_count t) y) (field_leaf_pairs rest_f rest_g)) behind_exact
          ∙ append_assoc now.done own (map (placed flip (one + leaf_count t) (other + leaf_count u)) (field_leaf_pairs rest_f rest_g))
          ∙ ap (λ ps. now.done ++ ps) (sym both) ∙ now.all;
    }

none_on_left : (gs : Fields) → field_leaf_pairs no_fields gs ≡ []
none_on_left no_fields = refl
none_on_left (field q g y c u gs) = refl

none_on_right : (fs : Fields) → field_leaf_pairs fs no_fields ≡ []
none_on_right no_fields = refl
none_on_right (field p f x b t fs) = refl

nothing_left : (ts : List DataType) (fs gs : List Member) (i : ℕ) → min (length fs) (length gs) ≤ i
    → field_leaf_pairs (members_from ts fs i) (members_from ts gs i) ≡ []
nothing_left ts fs gs i end =
    ⊎_elim
    (λ less. ap (field_leaf_pairs (members_from ts fs i)) (members_end ts gs i (omega arith)) ∙ none_on_right (members_from ts fs i))
    (λ more. ap (λ x. field_leaf_pairs x (members_from ts gs i)) (members_end ts fs i more) ∙ none_on_left (members_from ts gs i))
    (cases_lt i (length fs))

pub steps_all : (ts : List DataType) (flip : Bool) (l r : ℕ) (fs gs : List Member) (i one other : ℕ) (old new : List PairOfCode)
    → min (length fs) (length gs) ≤ i → StepsSoFar ts flip l r fs gs i one other old new → PairsFields ts flip l r fs gs old new
steps_all ts flip l r fs gs i one other old new end so_far = λ start.
    let now = so_far start in
    let whole : now.done ≡ map (placed flip l r) (field_leaf_pairs (member_fields ts fs) (member_fields ts gs)) =
    sym (append-nil now.done) ∙ ap (λ ps. now.done ++ map (placed flip one other) ps) (sym (nothing_left ts fs gs i end)) ∙ now.all in
    paired_as old new now.done (map (placed flip l r) (field_leaf_pairs (member_fields ts fs) (member_fields ts gs))) whole now.paired
