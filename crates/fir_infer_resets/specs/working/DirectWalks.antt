-- Walks that make no detour: where two ends are the same leaf of two elements of one vector, they are joined, and nothing need stand between them.
use Rattle.std.specs.Prelude.{◌≡◌, ◌≤◌, ℕ, List, [], ◌∷◌, ◌++◌, length, take, Some, slice_get}
use Rattle.fir_ast.specs.Circuits.{CircuitTree}
use Rattle.fir_meaning.specs.LeafPaths.{LeafPath, named, element, Step as StepOfPath}
use Rattle.fir_meaning.specs.ResetItems.{End, leaf_item}
use Rattle.fir_meaning.specs.ResetWalks.{IsReset, IsLeafOf, IsResetWalk}
use Rattle.fir_infer_resets.specs.declared.graph.Kind.TheVariants.{Reset}
use Rattle.fir_infer_resets.specs.declared.item.Step.{Step}
use Rattle.fir_infer_resets.specs.declared.item.End.{End as EndOfCode}
use Rattle.fir_infer_resets.specs.working.FoundKinds.{HasEnds}
use Rattle.fir_infer_resets.specs.working.Holding.{AreEnds, item_of, path_of}
use Rattle.fir_infer_resets.specs.working.ResetGraphs.{AllBelow}

-- so many steps at the heads of two paths are the same
pub record SharesFirst (one other : List Step) (n : ℕ) : Type 0 where
  pub one_within : n ≤ length one
  pub other_within : n ≤ length other
  pub same : path_of (take n one) ≡ path_of (take n other)

-- the paths have no same step behind so many
abbrev pub DiffersAt : LeafPath → LeafPath → ℕ → Type 0
DiffersAt a b n = (s : StepOfPath) → slice_get a n ≡ Some s → slice_get b n ≡ Some s → ⊥

abbrev pub IsElement : StepOfPath → Type 0
IsElement (named x) = ⊥
IsElement (element i) = Unit {0}

-- paths of the same leaf of two elements of a vector, which are not one element
pub record AreElementPaths (a b : LeafPath) : Type 0 where
  pub vector : LeafPath
  pub one : ℕ
  pub other : ℕ
  pub rest : LeafPath
  pub are_two : one ≡ other → ⊥
  pub one_is : a ≡ vector ++ element one ∷ rest
  pub other_is : b ≡ vector ++ element other ∷ rest

-- two Resets that are the same leaf of two elements of a vector
pub record AreElementEnds (one other : EndOfCode) : Type 0 where
  pub one_kind : one.kind ≡ Reset
  pub other_kind : other.kind ≡ Reset
  pub place : one.place ≡ other.place
  pub number : ℕ
  pub path : LeafPath
  pub other_path : LeafPath
  pub one_is : item_of one.item ≡ leaf_item number path
  pub other_is : item_of other.item ≡ leaf_item number other_path
  pub paths : AreElementPaths path other_path

-- each end that is a Reset is a leaf
abbrev pub AreLeaves : CircuitTree → List End → Type 0
AreLeaves c ends = (x : ℕ) (e : End) → slice_get ends x ≡ Some e → IsReset e → IsLeafOf c e

-- the ends of these numbers are a walk of the circuit, from a UInt to an AsyncReset
pub record IsWalkOfEnds (c : CircuitTree) (ends : List End) (walk : List ℕ) : Type 0 where
  pub begins : End
  pub first : End
  pub others : List End
  pub last : End
  pub has : HasEnds ends walk (begins ∷ first ∷ others ++ last ∷ [])
  pub is : IsResetWalk c begins first others last

-- the numbers of a walk may be replaced by others
pub record Replaces (owns : List EndOfCode) (old new : List ℕ) : Type 0 where
  pub within : AllBelow (length owns) old → AllBelow (length owns) new
  pub walks : (c : CircuitTree) (ends : List End) → AreEnds owns ends → AreLeaves c ends → IsWalkOfEnds c ends old → IsWalkOfEnds c ends new

-- the last of the numbers stands between two elements of one vector, the one before it and the next
pub record EndsInDetour (owns : List EndOfCode) (kept : List ℕ) (next : ℕ) : Type 0 where
  pub front : List ℕ
  pub before : ℕ
  pub last : ℕ
  pub one : EndOfCode
  pub other : EndOfCode
  pub is : kept ≡ front ++ before ∷ last ∷ []
  pub one_is : slice_get owns before ≡ Some one
  pub other_is : slice_get owns next ≡ Some other
  pub elements : AreElementEnds one other

-- no number of the walk stands so
abbrev pub IsDirect : List EndOfCode → List ℕ → Type 0
IsDirect owns walk = (i next : ℕ) → slice_get walk i ≡ Some next → EndsInDetour owns (take i walk) next → ⊥

-- those at the head of a walk may be replaced, whatever stands behind the next number
pub record ReplacesHead (owns : List EndOfCode) (next : ℕ) (old new : List ℕ) : Type 0 where
  pub within : AllBelow (length owns) old → AllBelow (length owns) new
  pub direct : IsDirect owns old → IsDirect owns new
  pub walks : (rest : List ℕ) → Replaces owns (old ++ next ∷ rest) (new ++ next ∷ rest)
