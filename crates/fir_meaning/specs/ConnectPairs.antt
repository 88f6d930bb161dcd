-- Which leaves a connect and a partial connect pair (FIRRTL spec, "Connects", "Partial Connects").
-- A leaf of the left side is driven by the one of the right; where it is flipped, the right one is driven by the left.
use Rattle.std.specs.Prelude.{ℕ, zero, suc, ◌+◌, List, [], ◌∷◌, ◌++◌, map, Bool, false, min}
use Rattle.fir_ast.specs.Types.{DataType, bundle, vector, Fields, no_fields, field}
use Rattle.fir_meaning.specs.LeafPaths.{Step, named, element}
use Rattle.fir_meaning.specs.TypeLeaves.{TypeLeaf, under}
use Rattle.fir_meaning.specs.TypeKinds.{field_named}
use Rattle.fir_meaning.specs.Equivalence.{met}

pub record Pair : Type 0 where
  pub left : TypeLeaf
  pub right : TypeLeaf

abbrev pub both_under : Bool → Step → Pair → Pair
both_under flip s p = record { left = under flip s p.left; right = under flip s p.right }

abbrev pub element_pairs : ℕ → ℕ → List Pair → List Pair
element_pairs i zero ps = []
element_pairs i (suc n) ps = map (both_under false (element i)) ps ++ element_pairs (i + 1) n ps

abbrev pub ground_pair : DataType → DataType → List Pair
ground_pair s t = record { left = record { path = []; flip = false; ground_type = s }; right = record { path = []; flip = false; ground_type = t } } ∷ []

-- of `<=`
abbrev mutual
  pub pairs : DataType → DataType → List Pair
  pairs (bundle fs) (bundle gs) = field_pairs fs gs
  pairs (bundle fs) _ = []
  pairs (vector t n) (vector u m) = element_pairs 0 n (pairs t u)
  pairs (vector t n) _ = []
  pairs s (bundle gs) = []
  pairs s (vector u m) = []
  pairs s t = ground_pair s t

  pub field_pairs : Fields → Fields → List Pair
  field_pairs (field p f x b t fs) (field q g y c u gs) = map (both_under f (named x)) (pairs t u) ++ field_pairs fs gs
  field_pairs _ _ = []

-- of `<-`, in the order of the left side: of the fields that both have, and of the first elements up to the shorter length
abbrev mutual
  pub partial_pairs : DataType → DataType → List Pair
  partial_pairs (bundle fs) (bundle gs) = partial_field_pairs fs gs
  partial_pairs (bundle fs) _ = []
  partial_pairs (vector t n) (vector u m) = element_pairs 0 (min n m) (partial_pairs t u)
  partial_pairs (vector t n) _ = []
  partial_pairs s (bundle gs) = []
  partial_pairs s (vector u m) = []
  partial_pairs s t = ground_pair s t

  pub partial_field_pairs : Fields → Fields → List Pair
  partial_field_pairs no_fields gs = []
  partial_field_pairs (field p f x b t fs) gs =
      met [] (λ g. map (both_under f (named x)) (partial_pairs t g.data_type)) (field_named x gs) ++ partial_field_pairs fs gs
