-- The walk over two types that finds the pairs of their leaves: what each part of it gives.
use Rattle.std.specs.Prelude.{◌≡◌, ℕ, zero, suc, ◌+◌, ◌*◌, ◌^◌, ◌<◌, List, [], ◌++◌, map, Bool, true, false}
use Rattle.fir_ast.specs.Types.{DataType, bundle, vector, Fields}
use Rattle.fir_meaning.specs.TypeLeaves.{turned, leaf_count}
use Rattle.fir_meaning.specs.TypeKinds.{field_named}
use Rattle.fir_meaning.specs.Equivalence.{is_connectable, met}
use Rattle.fir_meaning.specs.working.LeafPairs.{LeafPair, past, turned_pair, element_leaf_pairs, leaf_pairs, field_leaf_pairs, partial_leaf_pairs, partial_field_leaf_pairs}
use Rattle.fir_type_table.specs.declared.entry.Member.{Member}
use Rattle.fir_type_table.specs.working.Saturated.{saturated}
use Rattle.fir_meaning.specs.working.FieldSizes.{leaves_before_field}
use Rattle.fir_type_table.specs.working.Tables.{type_at, member_fields}
use Rattle.fir_types.specs.declared.found.Found.{Found}
use Rattle.fir_types.specs.working.Seen.{found_type}
use Rattle.fir_leaf_pairs.specs.declared.pairs.LeafPair.{LeafPair as PairOfCode}
use Rattle.fir_leaf_pairs.specs.declared.pairs.Part.{Part}

abbrev pub pair_seen : PairOfCode → LeafPair
pair_seen p = record { left = p.left; right = p.right; flip = p.flip }

-- those of a partial connect, or of a connect
abbrev pub pairs_of : Bool → DataType → DataType → List LeafPair
pairs_of true s t = partial_leaf_pairs s t
pairs_of false s t = leaf_pairs s t

abbrev pub Joins : Bool → DataType → DataType → Type 0
Joins true s t = Unit {0}
Joins false s t = is_connectable s t ≡ true

-- types that a connect may join, whose leaves from these numbers on have numbers of 64 bits
pub record Meets (partial : Bool) (l r : ℕ) (s t : DataType) : Type 0 where
  pub joins : Joins partial s t
  pub left : l + leaf_count s < 2 ^ 64
  pub right : r + leaf_count t < 2 ^ 64

-- these pairs have come
pub record Paired (old new : List PairOfCode) (ps : List LeafPair) : Type 0 where
  pub more : List PairOfCode
  pub grown : new ≡ old ++ more
  pub are : map pair_seen more ≡ ps

-- a pair of two types whose leaves begin at these numbers, below a field that is flipped or not
abbrev pub placed : Bool → ℕ → ℕ → LeafPair → LeafPair
placed flip l r p = record { left = l + p.left; right = r + p.right; flip = turned flip p.flip }

abbrev pub PairsFound : List DataType → Bool → Found → Found → List PairOfCode → List PairOfCode → Type 0
PairsFound ts partial left right old new =
    Meets partial 0 0 (found_type ts left) (found_type ts right) → Paired old new (pairs_of partial (found_type ts left) (found_type ts right))

abbrev pub part_type : List DataType → Part → DataType
part_type ts p = type_at ts p.ty.number

abbrev pub PairsParts : List DataType → Bool → Bool → Part → Part → List PairOfCode → List PairOfCode → Type 0
PairsParts ts partial flip left right old new =
    Meets partial left.first right.first (part_type ts left) (part_type ts right)
    → Paired old new (map (placed flip left.first right.first) (pairs_of partial (part_type ts left) (part_type ts right)))

-- of so many elements
abbrev pub pairs_of_elements : Bool → ℕ → DataType → DataType → List LeafPair
pairs_of_elements partial n s t = element_leaf_pairs 0 n (leaf_count s) (leaf_count t) (pairs_of partial s t)

pub record MeetElements (partial : Bool) (l r n : ℕ) (s t : DataType) : Type 0 where
  pub joins : Joins partial s t
  pub left : l + n * leaf_count s < 2 ^ 64
  pub right : r + n * leaf_count t < 2 ^ 64

abbrev pub PairsElements : List DataType → Bool → Bool → Part → Part → ℕ → List PairOfCode → List PairOfCode → Type 0
PairsElements ts partial flip left right n old new =
    MeetElements partial left.first right.first n (part_type ts left) (part_type ts right)
    → Paired old new (map (placed flip left.first right.first) (pairs_of_elements partial n (part_type ts left) (part_type ts right)))

abbrev pub PairsFields : List DataType → Bool → ℕ → ℕ → List Member → List Member → List PairOfCode → List PairOfCode → Type 0
PairsFields ts flip l r fs gs old new =
    Meets false l r (bundle (member_fields ts fs)) (bundle (member_fields ts gs))
    → Paired old new (map (placed flip l r) (field_leaf_pairs (member_fields ts fs) (member_fields ts gs)))

-- of a field and that of its name of a bundle
abbrev pub named_pairs : Bool → List ℕ → DataType → Fields → List LeafPair
named_pairs f x t gs =
    met [] (λ g. map (turned_pair f) (map (past 0 (leaves_before_field x gs)) (partial_leaf_pairs t g.data_type))) (field_named x gs)

-- the right side is a bundle of these fields
abbrev pub PairsNamed : List DataType → Bool → Member → ℕ → Part → List PairOfCode → List PairOfCode → Type 0
PairsNamed ts flip m l right old new =
    (gs : Fields) → part_type ts right ≡ bundle gs → Meets true l right.first (type_at ts m.ty.number) (bundle gs)
    → Paired old new (map (placed flip l right.first) (named_pairs m.flip m.name (type_at ts m.ty.number) gs))

abbrev pub PairsNamedFields : List DataType → Bool → ℕ → Part → List Member → List PairOfCode → List PairOfCode → Type 0
PairsNamedFields ts flip l right fs old new =
    (gs : Fields) → part_type ts right ≡ bundle gs → Meets true l right.first (bundle (member_fields ts fs)) (bundle gs)
    → Paired old new (map (placed flip l right.first) (partial_field_leaf_pairs (member_fields ts fs) gs))

-- the code's pairs, so many leaves further, and those of so many elements from a number on
abbrev pub moved : ℕ → ℕ → PairOfCode → PairOfCode
moved l r p = record { left = saturated (p.left + l); right = saturated (p.right + r); flip = p.flip }

abbrev pub copies : ℕ → ℕ → ℕ → ℕ → List PairOfCode → List PairOfCode
copies i zero each other ps = []
copies i (suc n) each other ps = map (moved (saturated (i * each)) (saturated (i * other))) ps ++ copies (i + 1) n each other ps

abbrev pub is_ground_type : DataType → Bool
is_ground_type (bundle fs) = false
is_ground_type (vector t n) = false
is_ground_type t = true
