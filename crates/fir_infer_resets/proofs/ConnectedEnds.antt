-- Resets that are connected through Resets.
use Rattle.std.proofs.Common.{◌≡◌, ℕ, List, Some, Vec, Global}
use Rattle.std.specs.Prelude.{slice_get}
use Rattle.fir_infer_resets.specs.declared.graph.Kind.{Kind}
use Rattle.fir_infer_resets.specs.declared.graph.Kind.TheVariants.{Reset}
use Rattle.fir_infer_resets.specs.working.ResetGraphs.{IsJoined}
use Rattle.fir_infer_resets.specs.working.BuiltGraphs.{Connects, here, along}

pub connects_through : (graph : List (Vec ℕ Global)) (kinds : List Kind) (x y z : ℕ) → Connects graph kinds x y → Connects graph kinds y z → Connects graph kinds x z
connects_through graph kinds x y z (here v) h = h
connects_through graph kinds x y z (along u v w kind j more) h = along u v z kind j (connects_through graph kinds v w z more h)

-- in a graph of which each join goes both ways
pub connects_back : (graph : List (Vec ℕ Global)) (kinds : List Kind) → ((x y : ℕ) → IsJoined graph x y → IsJoined graph y x) → (x y : ℕ) → slice_get kinds x ≡ Some Reset
    → Connects graph kinds x y → Connects graph kinds y x
connects_back graph kinds both x y k (here v) = here v
connects_back graph kinds both x y k (along u v w kind j more) =
    connects_through graph kinds w v u (connects_back graph kinds both v w kind more) (along v u u k (both u v j) (here u))

-- in a graph that has grown
pub connects_more : (old new : List (Vec ℕ Global)) (before after : List Kind) → ((x y : ℕ) → IsJoined old x y → IsJoined new x y)
    → ((x : ℕ) (k : Kind) → slice_get before x ≡ Some k → slice_get after x ≡ Some k) → (x y : ℕ) → Connects old before x y → Connects new after x y
connects_more old new before after edges kinds x y (here v) = here v
connects_more old new before after edges kinds x y (along u v w kind j more) =
    along u v w (kinds v Reset kind) (edges u v j) (connects_more old new before after edges kinds v w more)
