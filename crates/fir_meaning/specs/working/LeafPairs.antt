-- Which leaves a connect and a partial connect pair, by their numbers in the two types (FIRRTL spec, "Connects", "Partial Connects").
-- It follows both types in depth, as the pairs of paths do.
use Rattle.std.specs.Prelude.{ℕ, zero, suc, ◌+◌, ◌*◌, min, List, [], ◌∷◌, ◌++◌, map, Bool, false}
use Rattle.fir_ast.specs.Types.{DataType, bundle, vector, Fields, no_fields, field}
use Rattle.fir_meaning.specs.TypeLeaves.{turned, leaf_count}
use Rattle.fir_meaning.specs.TypeKinds.{field_named}
use Rattle.fir_meaning.specs.Equivalence.{met}
use Rattle.fir_meaning.specs.working.FieldSizes.{leaves_before_field}

-- a leaf of the left type, one of the right, and whether the right one is driven
pub record LeafPair : Type 0 where
  pub left : ℕ
  pub right : ℕ
  pub flip : Bool

abbrev pub past : ℕ → ℕ → LeafPair → LeafPair
past n m p = record { left = n + p.left; right = m + p.right; flip = p.flip }

abbrev pub turned_pair : Bool → LeafPair → LeafPair
turned_pair flip p = record { left = p.left; right = p.right; flip = turned flip p.flip }

-- of so many elements from a number on, whose types have so many leaves each
abbrev pub element_leaf_pairs : ℕ → ℕ → ℕ → ℕ → List LeafPair → List LeafPair
element_leaf_pairs i zero each other ps = []
element_leaf_pairs i (suc n) each other ps = map (past (i * each) (i * other)) ps ++ element_leaf_pairs (i + 1) n each other ps

abbrev pub ground_leaf_pair : List LeafPair
ground_leaf_pair = record { left = 0; right = 0; flip = false } ∷ []

-- of `<=`
abbrev mutual
  pub leaf_pairs : DataType → DataType → List LeafPair
  leaf_pairs (bundle fs) (bundle gs) = field_leaf_pairs fs gs
  leaf_pairs (bundle fs) _ = []
  leaf_pairs (vector t n) (vector u m) = element_leaf_pairs 0 n (leaf_count t) (leaf_count u) (leaf_pairs t u)
  leaf_pairs (vector t n) _ = []
  leaf_pairs s (bundle gs) = []
  leaf_pairs s (vector u m) = []
  leaf_pairs s t = ground_leaf_pair

  pub field_leaf_pairs : Fields → Fields → List LeafPair
  field_leaf_pairs (field p f x b t fs) (field q g y c u gs) =
      map (turned_pair f) (leaf_pairs t u) ++ map (past (leaf_count t) (leaf_count u)) (field_leaf_pairs fs gs)
  field_leaf_pairs _ _ = []

-- of `<-`: of the fields that both have, and of the first elements up to the shorter length
abbrev mutual
  pub partial_leaf_pairs : DataType → DataType → List LeafPair
  partial_leaf_pairs (bundle fs) (bundle gs) = partial_field_leaf_pairs fs gs
  partial_leaf_pairs (bundle fs) _ = []
  partial_leaf_pairs (vector t n) (vector u m) = element_leaf_pairs 0 (min n m) (leaf_count t) (leaf_count u) (partial_leaf_pairs t u)
  partial_leaf_pairs (vector t n) _ = []
  partial_leaf_pairs s (bundle gs) = []
  partial_leaf_pairs s (vector u m) = []
  partial_leaf_pairs s t = ground_leaf_pair

  pub partial_field_leaf_pairs : Fields → Fields → List LeafPair
  partial_field_leaf_pairs no_fields gs = []
  partial_field_leaf_pairs (field p f x b t fs) gs =
      met [] (λ g. map (turned_pair f) (map (past 0 (leaves_before_field x gs)) (partial_leaf_pairs t g.data_type))) (field_named x gs)
      ++ map (past (leaf_count t) 0) (partial_field_leaf_pairs fs gs)
