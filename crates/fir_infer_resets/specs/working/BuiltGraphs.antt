-- The graph of a circuit's resets: a number for each leaf with its indices, and for each expression, that meets a Reset; what is joined in it is joined in
-- the circuit.
use Rattle.std.specs.Prelude.{◌≡◌, ℕ, ◌⊎◌, List, length, Some, slice_get}
use Rattle.std.specs.declared.vec.Vec.{Vec}
use Rattle.std.specs.declared.alloc.Global.{Global}
use Rattle.fir_base.specs.Lists.{In}
use Rattle.fir_ast.specs.Circuits.{CircuitTree}
use Rattle.fir_infer_resets.specs.declared.graph.Kind.{Kind}
use Rattle.fir_infer_resets.specs.declared.graph.Kind.TheVariants.{Unsigned, Asynchronous, Reset, Other}
use Rattle.fir_meaning.specs.ResetItems.{End}
use Rattle.fir_meaning.specs.ResetJoins.{Join}
use Rattle.fir_meaning.specs.ResetWalks.{IsReset, IsAsyncReset, IsUInt, Joined, IsLeafOf}
use Rattle.fir_reset.specs.working.LeafClasses.{class_of}
use Rattle.fir_infer_resets.specs.working.ResetGraphs.{IsGraph, IsJoined}

abbrev pub HasKind : End → Kind → Type 0
HasKind e Unsigned = IsUInt e
HasKind e Asynchronous = IsAsyncReset e
HasKind e Reset = IsReset e
HasKind e Other = (IsUInt e → ⊥) × (IsAsyncReset e → ⊥) × (IsReset e → ⊥)

-- from one Reset to another through Resets
pub data Connects (graph : List (Vec ℕ Global)) (kinds : List Kind) : ℕ → ℕ → Type 0 where
  here : (x : ℕ) → Connects graph kinds x x
  along : (x y z : ℕ) → slice_get kinds y ≡ Some Reset → IsJoined graph x y → Connects graph kinds y z → Connects graph kinds x z

-- the end stands for another in the graph: it is of the same kind, and a Reset of the same class
pub record StandsFor (c : CircuitTree) (e f : End) (kind : Kind) : Type 0 where
  pub one : HasKind e kind
  pub other : HasKind f kind
  pub class : kind ≡ Reset → class_of c e.item ≡ class_of c f.item

-- a join of the circuit of which an end is a Reset stands in the graph
pub record Stands (c : CircuitTree) (ends : List End) (graph : List (Vec ℕ Global)) (kinds : List Kind) (j : Join) : Type 0 where
  pub x : ℕ
  pub y : ℕ
  pub e : End
  pub f : End
  pub one_kind : Kind
  pub other_kind : Kind
  pub has_x : slice_get ends x ≡ Some e
  pub has_y : slice_get ends y ≡ Some f
  pub kind_x : slice_get kinds x ≡ Some one_kind
  pub kind_y : slice_get kinds y ≡ Some other_kind
  pub one : StandsFor c j.one e one_kind
  pub other : StandsFor c j.other f other_kind
  pub joined : IsJoined graph x y

abbrev pub HasReset : Join → Type 0
HasReset j = IsReset j.one ⊎ IsReset j.other

-- these ends have the numbers from 0 on, and these joins stand in the graph
pub record IsBuilt (c : CircuitTree) (joins : List Join) (ends : List End) (graph : List (Vec ℕ Global)) (kinds : List Kind) : Type 0 where
  pub is_graph : IsGraph graph kinds
  pub long : length ends ≡ length kinds
  pub kind : (x : ℕ) (e : End) (k : Kind) → slice_get ends x ≡ Some e → slice_get kinds x ≡ Some k → HasKind e k
  pub leaves : (x : ℕ) (e : End) → slice_get ends x ≡ Some e → IsReset e → IsLeafOf c e
  pub once : (x y : ℕ) (e : End) → IsReset e → slice_get ends x ≡ Some e → slice_get ends y ≡ Some e → x ≡ y
  pub joined : (x y : ℕ) (e f : End) → IsJoined graph x y → slice_get ends x ≡ Some e → slice_get ends y ≡ Some f → Joined c e f
  pub meets : (x y : ℕ) → IsJoined graph x y → slice_get kinds x ≡ Some Reset ⊎ slice_get kinds y ≡ Some Reset
  pub both_ways : (x y : ℕ) → IsJoined graph x y → IsJoined graph y x
  pub classes : (x y : ℕ) (e f : End) → slice_get ends x ≡ Some e → slice_get ends y ≡ Some f → IsReset e → IsReset f → class_of c e.item ≡ class_of c f.item → Connects graph kinds x y
  pub stand : (j : Join) → In joins j → HasReset j → Stands c ends graph kinds j
