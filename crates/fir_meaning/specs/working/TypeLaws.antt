-- Laws about types, their leaves, and their faults.
use Rattle.std.specs.Prelude.{◌≡◌, ◌↔◌, ℕ, List, [], map, slice_get, length, true, Some}
use Rattle.fir_base.specs.Lists.{In, Distinct}
use Rattle.fir_ast.specs.Types.{DataType}
use Rattle.fir_ast.specs.Circuits.{CircuitTree}
use Rattle.fir_meaning.specs.TypeLeaves.{TypeLeaf, type_leaves, leaf_count}
use Rattle.fir_meaning.specs.working.TypeNumbers.{leaf_number}
use Rattle.fir_meaning.specs.Equivalence.{fitting_ground, is_connectable, is_partly_connectable}
use Rattle.fir_meaning.specs.ConnectPairs.{Pair, pairs, partial_pairs}
use Rattle.fir_meaning.specs.Mentions.{type_mentions}
use Rattle.fir_meaning.specs.working.NameGroups.{HasNames}
use Rattle.fir_meaning.specs.NameGroups.{faults_in}
use Rattle.fir_meaning.specs.TypeGroup.{type_faults}
use Rattle.fir_meaning.specs.working.WellTyped.{IsWellTyped}

-- a connect of types that fit pairs all leaves of one with all leaves of the other, in order, each with that of its own path
pub record PairsLeaves (a b : DataType) : Type 0 where
  pub left : map (λ (p : Pair). p.left) (pairs a b) ≡ type_leaves a
  pub right : map (λ (p : Pair). p.right) (pairs a b) ≡ type_leaves b
  pub path : map (λ (l : TypeLeaf). l.path) (type_leaves a) ≡ map (λ (l : TypeLeaf). l.path) (type_leaves b)

abbrev pub ConnectsLeafByLeaf : Type 0
ConnectsLeafByLeaf = (a b : DataType) → is_connectable a b ≡ true → PairsLeaves a b

-- leaves of both sides that fit and are oriented alike
pub record PairFits (left_leaves right_leaves : List TypeLeaf) (p : Pair) : Type 0 where
  pub left : In left_leaves p.left
  pub right : In right_leaves p.right
  pub flip : p.left.flip ≡ p.right.flip
  pub fit : fitting_ground p.left.ground_type p.right.ground_type ≡ true

-- a partial connect of types that may be joined so pairs such leaves alone
abbrev pub PartialConnectsFit : Type 0
PartialConnectsFit = (a b : DataType) → is_partly_connectable a b ≡ true → (p : Pair) → In (partial_pairs a b) p → PairFits (type_leaves a) (type_leaves b) p

-- where no field of a bundle is declared twice, each path is that of one leaf
abbrev pub PathsAreDistinct : Type 0
PathsAreDistinct = (t : DataType) → faults_in (type_mentions t) ≡ [] → Distinct (map (λ (l : TypeLeaf). l.path) (type_leaves t))

-- a type has so many leaves, and there the number of each, found from the type alone by offsets, is its place in the list
pub record NumbersLeaves (t : DataType) : Type 0 where
  pub count : length (type_leaves t) ≡ leaf_count t
  pub number : (k : ℕ) (l : TypeLeaf) → slice_get (type_leaves t) k ≡ Some l → leaf_number t l.path ≡ Some k

abbrev pub LeavesHaveNumbers : Type 0
LeavesHaveNumbers = (t : DataType) → faults_in (type_mentions t) ≡ [] → NumbersLeaves t

-- where names stand, no fault of types is shown exactly where each form has a type and each connect a legal flow
abbrev pub FaultlessIsWellTyped : Type 0
FaultlessIsWellTyped = (c : CircuitTree) → HasNames c → (type_faults c ≡ []) ↔ IsWellTyped c
