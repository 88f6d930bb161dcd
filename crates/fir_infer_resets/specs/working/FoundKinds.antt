-- What a search of the built graph says of the circuit.
use Rattle.std.specs.Prelude.{◌≡◌, ◌↔◌, ◌⊎◌, ℕ, List, [], ◌∷◌, ◌++◌, Bool, true, Some, slice_get}
use Rattle.fir_base.specs.Lists.{In}
use Rattle.fir_ast.specs.Circuits.{CircuitTree}
use Rattle.fir_ast.specs.Faults.{Fault}
use Rattle.fir_meaning.specs.ResetItems.{End}
use Rattle.fir_meaning.specs.ResetJoins.{Join, joins}
use Rattle.fir_meaning.specs.ResetWalks.{IsReset, IsLeafOf, IsAsynchronous, ShowsResets, reset_fault}
use Rattle.fir_reset.specs.working.LeafClasses.{Class, class_of}

-- a Reset of the class is marked
pub record IsClassMarked (c : CircuitTree) (ends : List End) (marks : List Bool) (k : Class) : Type 0 where
  pub number : ℕ
  pub end : End
  pub is : slice_get ends number ≡ Some end
  pub resets : IsReset end
  pub of_class : class_of c end.item ≡ Some k
  pub marked : slice_get marks number ≡ Some true

-- a Reset is asynchronous exactly where one of its class is marked, and no walk from a UInt to an AsyncReset is there
pub record AreKinds (c : CircuitTree) (ends : List End) (marks : List Bool) : Type 0 where
  pub kinds : (e : End) (k : Class) → IsLeafOf c e → IsReset e → class_of c e.item ≡ Some k → IsAsynchronous c e ↔ IsClassMarked c ends marks k
  pub clear : (f : Fault) → ShowsResets c f → ⊥

-- both are of one class, and of one ground type
pub record IsShared (c : CircuitTree) (a b : End) : Type 0 where
  pub class : class_of c a.item ≡ class_of c b.item
  pub ground_type : a.ground_type ≡ b.ground_type

-- the joins that have to stand in the graph: all but those of one class
abbrev pub AllButShared : CircuitTree → List Join → Type 0
AllButShared c js = (j : Join) → In (joins c) j → In js j ⊎ IsShared c j.one j.other

-- the ends of these numbers, in their order
abbrev pub HasEnds : List End → List ℕ → List End → Type 0
HasEnds ends [] [] = Unit {0}
HasEnds ends (x ∷ xs) (e ∷ es) = (slice_get ends x ≡ Some e) × HasEnds ends xs es
HasEnds ends _ _ = ⊥

-- the fault that the walk of these numbers tells
pub record TellsWalk (ends : List End) (walk : List ℕ) (f : Fault) : Type 0 where
  pub begins : End
  pub first : End
  pub others : List End
  pub last : End
  pub has : HasEnds ends walk (begins ∷ first ∷ others ++ last ∷ [])
  pub is : f ≡ reset_fault begins first others last
