-- Leaves and expressions that are joined, as far as resets go: which Resets are asynchronous, and walks that join a UInt and an AsyncReset (FIRRTL spec, "Reset Inference").
-- Each has a number, a kind, and a list of the numbers that it is joined to.
use Rattle.std.specs.Prelude.{◌≡◌, ℕ, ◌+◌, ◌-◌, ◌<◌, ◌≤◌, List, length, true, Bool, Some, slice_get}
use Rattle.std.specs.declared.vec.Vec.{Vec}
use Rattle.std.specs.declared.alloc.Global.{Global}
use Rattle.fir_infer_resets.specs.declared.graph.Kind.{Kind}
use Rattle.fir_infer_resets.specs.declared.graph.Kind.TheVariants.{Unsigned, Asynchronous, Reset}

abbrev pub IsUnsigned : List Kind → ℕ → Type 0
IsUnsigned kinds v = slice_get kinds v ≡ Some Unsigned

abbrev pub IsAsynchronous : List Kind → ℕ → Type 0
IsAsynchronous kinds v = slice_get kinds v ≡ Some Asynchronous

abbrev pub IsReset : List Kind → ℕ → Type 0
IsReset kinds v = slice_get kinds v ≡ Some Reset

-- y stands in the list of x
pub record IsJoined (graph : List (Vec ℕ Global)) (x y : ℕ) : Type 0 where
  pub list : Vec ℕ Global
  pub at : slice_get graph x ≡ Some list
  pub index : ℕ
  pub is : slice_get list.items index ≡ Some y

abbrev pub AllBelow : ℕ → List ℕ → Type 0
AllBelow n ys = (i y : ℕ) → slice_get ys i ≡ Some y → y < n

-- each number has a list and a kind, and the lists have such numbers alone
pub record IsGraph (graph : List (Vec ℕ Global)) (kinds : List Kind) : Type 0 where
  pub long : length graph ≡ length kinds
  pub within : (x y : ℕ) → IsJoined graph x y → y < length kinds

-- an AsyncReset, and what a walk from one leads to through Resets
pub data IsReached (graph : List (Vec ℕ Global)) (kinds : List Kind) : ℕ → Type 0 where
  begins : (v : ℕ) → IsAsynchronous kinds v → IsReached graph kinds v
  goes_on : (x v : ℕ) → IsReset kinds v → IsJoined graph x v → IsReached graph kinds x → IsReached graph kinds v

-- marked is exactly what is reached, and nothing that is reached is joined to a UInt
pub record IsFound (graph : List (Vec ℕ Global)) (kinds : List Kind) (marks : List Bool) : Type 0 where
  pub long : length marks ≡ length kinds
  pub reached : (v : ℕ) → slice_get marks v ≡ Some true → IsReached graph kinds v
  pub all : (v : ℕ) → IsReached graph kinds v → slice_get marks v ≡ Some true
  pub clear : (x u : ℕ) → IsUnsigned kinds u → IsJoined graph x u → IsReached graph kinds x → ⊥

-- from a UInt through Resets to an AsyncReset, each joined to the one before it, and none twice
pub record IsResetWalk (graph : List (Vec ℕ Global)) (kinds : List Kind) (walk : List ℕ) : Type 0 where
  pub long : 2 ≤ length walk
  pub first : (v : ℕ) → slice_get walk 0 ≡ Some v → IsUnsigned kinds v
  pub inner : (i v : ℕ) → 0 < i → i + 1 < length walk → slice_get walk i ≡ Some v → IsReset kinds v
  pub last : (v : ℕ) → slice_get walk (length walk - 1) ≡ Some v → IsAsynchronous kinds v
  pub joined : (i x y : ℕ) → slice_get walk i ≡ Some x → slice_get walk (i + 1) ≡ Some y → IsJoined graph y x
  pub once : (i j x : ℕ) → slice_get walk i ≡ Some x → slice_get walk j ≡ Some x → i ≡ j
