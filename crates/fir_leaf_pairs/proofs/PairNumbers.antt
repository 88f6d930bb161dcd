-- The leaves of a pair are leaves of the two types.
use Rattle.std.proofs.Common.{◌≡◌, ℕ, zero, suc, ◌+◌, ◌*◌, ◌≤◌, min, List, [], ◌∷◌, ◌++◌, map, Bool, true, false, ◌&&◌, ◌==◌, Option, Some, None, refl, ap, arith, lit<}
use Rattle.std.specs.Prelude.{if◌then◌else◌}
use Rattle.std.specs.Bool.{beq}
use Rattle.std.specs.Str.{bytes_eq}
use Rattle.fir_ast.specs.Types.{DataType, bundle, vector, Fields, no_fields, field}
use Rattle.fir_meaning.specs.TypeLeaves.{leaf_count, field_count}
use Rattle.fir_meaning.specs.TypeKinds.{FieldFound, field_named}
use Rattle.fir_meaning.specs.Equivalence.{fitting_ground, is_connectable, fields_alike, met}
use Rattle.fir_meaning.specs.working.LeafPairs.{LeafPair, past, turned_pair, element_leaf_pairs, leaf_pairs, field_leaf_pairs, partial_leaf_pairs, partial_field_leaf_pairs}
use Rattle.fir_meaning.specs.working.FieldSizes.{leaves_before_field}
use Rattle.fir_leaf_pairs.specs.working.PairNumbers.{AreWithin}

pub within_joined : (n m : ℕ) (ps qs : List LeafPair) → AreWithin n m ps → AreWithin n m qs → AreWithin n m (ps ++ qs)
within_joined n m [] qs h k = k
within_joined n m (p ∷ ps) qs h k = (h.0, h.1, within_joined n m ps qs h.2 k)

pub within_more : (n m a b : ℕ) (ps : List LeafPair) → n ≤ a → m ≤ b → AreWithin n m ps → AreWithin a b ps
within_more n m a b [] le lf h = tt
within_more n m a b (p ∷ ps) le lf h = (omega (arith, h.0, le), omega (arith, h.1, lf), within_more n m a b ps le lf h.2)

within_turned : (f : Bool) (n m : ℕ) (ps : List LeafPair) → AreWithin n m ps → AreWithin n m (map (turned_pair f) ps)
within_turned f n m [] h = tt
within_turned f n m (p ∷ ps) h = (h.0, h.1, within_turned f n m ps h.2)

-- so many leaves further
within_past : (l r n m a b : ℕ) (ps : List LeafPair) → l + n ≤ a → r + m ≤ b → AreWithin n m ps → AreWithin a b (map (past l r) ps)
within_past l r n m a b [] le lf h = tt
within_past l r n m a b (p ∷ ps) le lf h = (omega (arith, h.0, le), omega (arith, h.1, lf), within_past l r n m a b ps le lf h.2)

row : (i n k : ℕ) → i + suc k ≤ n → (each : ℕ) → i * each + each ≤ n * each
row i n k le each = grind arith

pub elements_within : (i k n m a b : ℕ) (ps : List LeafPair) → i + k ≤ n → i + k ≤ m → AreWithin a b ps
    → AreWithin (n * a) (m * b) (element_leaf_pairs i k a b ps)
elements_within i zero n m a b ps le lf h = tt
elements_within i (suc k) n m a b ps le lf h =
    within_joined (n * a) (m * b) (map (past (i * a) (i * b)) ps) (element_leaf_pairs (i + 1) k a b ps)
    (within_past (i * a) (i * b) a b (n * a) (m * b) ps (row i n k le a) (row i m k lf b) h)
    (elements_within (i + 1) k n m a b ps (omega arith) (omega arith) h)

pub both_true : (a b : Bool) → (a && b) ≡ true → (a ≡ true) × (b ≡ true)
both_true true true e = (refl, refl)
both_true true false e = absurd (cc)
both_true false b e = absurd (cc)

pub same_number : (n m : ℕ) → (n == m) ≡ true → n ≡ m
same_number n m e = grind arith

-- vectors that a connect may join
pub record SameVectors (t u : DataType) (n m : ℕ) : Type 0 where
  pub length : n ≡ m
  pub elements : is_connectable t u ≡ true

pub same_vectors : (t u : DataType) (n m : ℕ) → is_connectable (vector t n) (vector u m) ≡ true → SameVectors t u n m
same_vectors t u n m e =
    let both = both_true (n == m) (is_connectable t u) e in
    record { length = same_number n m both.0; elements = both.1 }

-- bundles
pub record SameFields (t u : DataType) (fs gs : Fields) : Type 0 where
  pub here : is_connectable t u ≡ true
  pub behind : fields_alike fitting_ground fs gs ≡ true

pub same_fields : (f g : Bool) (x y : List ℕ) (t u : DataType) (fs gs : Fields)
    → (beq f g && (bytes_eq x y && (is_connectable t u && fields_alike fitting_ground fs gs))) ≡ true → SameFields t u fs gs
same_fields f g x y t u fs gs e =
    let first = both_true (beq f g) (bytes_eq x y && (is_connectable t u && fields_alike fitting_ground fs gs)) e in
    let second = both_true (bytes_eq x y) (is_connectable t u && fields_alike fitting_ground fs gs) first.1 in
    let third = both_true (is_connectable t u) (fields_alike fitting_ground fs gs) second.1 in
    record { here = third.0; behind = third.1 }

mutual
  pub pairs_within : (s t : DataType) → is_connectable s t ≡ true → AreWithin (leaf_count s) (leaf_count t) (leaf_pairs s t)
  pairs_within (bundle fs) (bundle gs) e = fields_within fs gs e
  pairs_within (bundle fs) _ e = tt
  pairs_within (vector t n) (vector u m) e =
      let same = same_vectors t u n m e in
      elements_within 0 n n m (leaf_count t) (leaf_count u) (leaf_pairs t u) (omega arith) (omega (arith, same.length)) (pairs_within t u same.elements)
  pairs_within (vector t n) _ e = tt
  pairs_within _ (bundle gs) e = tt
  pairs_within _ (vector u m) e = tt
  pairs_within _ _ e = (lit< tt, lit< tt, tt)

  fields_within : (fs gs : Fields) → fields_alike fitting_ground fs gs ≡ true → AreWithin (field_count fs) (field_count gs) (field_leaf_pairs fs gs)
  fields_within (field p f x b t fs) (field q g y c u gs) e =
      let same = same_fields f g x y t u fs gs e in
      let a = leaf_count t in
      let d = leaf_count u in
      within_joined (a + field_count fs) (d + field_count gs) (map (turned_pair f) (leaf_pairs t u)) (map (past a d) (field_leaf_pairs fs gs))
      (within_more a d (a + field_count fs) (d + field_count gs) (map (turned_pair f) (leaf_pairs t u)) (omega arith) (omega arith)
      (within_turned f a d (leaf_pairs t u) (pairs_within t u same.here)))
      (within_past a d (field_count fs) (field_count gs) (a + field_count fs) (d + field_count gs) (field_leaf_pairs fs gs) (omega arith) (omega arith)
      (fields_within fs gs same.behind))
  fields_within no_fields _ e = tt
  fields_within _ no_fields e = tt

pub field_before : (x : List ℕ) (gs : Fields) (g : FieldFound) → field_named x gs ≡ Some g → leaves_before_field x gs + leaf_count g.data_type ≤ field_count gs
field_before x no_fields g e = absurd (cc)
field_before x (field p flip y b t rest) g e = before_either (bytes_eq y x) flip t x rest g e (field_before x rest g)
  where
    before_either : (same flip : Bool) (t : DataType) (x : List ℕ) (rest : Fields) (g : FieldFound)
        → (if same then Some (record { flip = flip; data_type = t }) else field_named x rest) ≡ Some g
        → (field_named x rest ≡ Some g → leaves_before_field x rest + leaf_count g.data_type ≤ field_count rest)
        → (if same then 0 else leaf_count t + leaves_before_field x rest) + leaf_count g.data_type ≤ leaf_count t + field_count rest
    before_either true flip t x rest g e h = let is : t ≡ g.data_type = cc in omega (arith, ap leaf_count is)
    before_either false flip t x rest g e h = omega (arith, h e)

-- of a field that the right side may have too
pub named_within : (f : Bool) (a b c d : ℕ) (inner : DataType → List LeafPair) (o : Option FieldFound) → d ≤ a
    → ((g : FieldFound) → o ≡ Some g → (b + leaf_count g.data_type ≤ c) × AreWithin d (leaf_count g.data_type) (inner g.data_type))
    → AreWithin a c (met [] (λ g. map (turned_pair f) (map (past 0 b) (inner g.data_type))) o)
named_within f a b c d inner None le h = tt
named_within f a b c d inner (Some g) le h =
    let both = h g refl in
    within_turned f a c (map (past 0 b) (inner g.data_type))
    (within_past 0 b d (leaf_count g.data_type) a c (inner g.data_type) (omega arith) both.0 both.1)

mutual
  pub partial_within : (s t : DataType) → AreWithin (leaf_count s) (leaf_count t) (partial_leaf_pairs s t)
  partial_within (bundle fs) (bundle gs) = partial_fields_within fs gs
  partial_within (bundle fs) _ = tt
  partial_within (vector t n) (vector u m) =
      elements_within 0 (min n m) n m (leaf_count t) (leaf_count u) (partial_leaf_pairs t u) (omega arith) (omega arith) (partial_within t u)
  partial_within (vector t n) _ = tt
  partial_within _ (bundle gs) = tt
  partial_within _ (vector u m) = tt
  partial_within _ _ = (lit< tt, lit< tt, tt)

  partial_fields_within : (fs gs : Fields) → AreWithin (field_count fs) (field_count gs) (partial_field_leaf_pairs fs gs)
  partial_fields_within no_fields gs = tt
  partial_fields_within (field p f x b t fs) gs =
      let a = leaf_count t in
      within_joined (a + field_count fs) (field_count gs)
      (met [] (λ g. map (turned_pair f) (map (past 0 (leaves_before_field x gs)) (partial_leaf_pairs t g.data_type))) (field_named x gs))
      (map (past a 0) (partial_field_leaf_pairs fs gs))
      (named_within f (a + field_count fs) (leaves_before_field x gs) (field_count gs) a (partial_leaf_pairs t) (field_named x gs) (omega arith)
      (λ g e. (field_before x gs g e, partial_within t g.data_type)))
      (within_past a 0 (field_count fs) (field_count gs) (a + field_count fs) (field_count gs) (partial_field_leaf_pairs fs gs) (omega arith) (omega arith)
      (partial_fields_within fs gs))
