-- What one step adds to the graph of resets.
use Rattle.std.specs.Prelude.{◌≡◌, ℕ, ◌<◌, ◌⊎◌, List, [], ◌∷◌, ◌++◌, length, Some}
use Rattle.std.specs.BTreeMap.{Updates}
use Rattle.std.specs.Cmp.Lexicographic.{slice_cmp}
use Rattle.std.specs.Ordering.{nat_cmp}
use Rattle.std.specs.declared.vec.Vec.{Vec}
use Rattle.std.specs.declared.alloc.Global.{Global}
use Rattle.fir_ast.specs.declared.place.Place.{Place}
use Rattle.fir_meaning.specs.LeafPaths.{LeafPath}
use Rattle.fir_infer_resets.specs.declared.graph.Kind.TheVariants.{Reset}
use Rattle.fir_infer_resets.specs.declared.item.End.{End}
use Rattle.fir_infer_resets.specs.declared.joined.Joined.{Joined}
use Rattle.fir_infer_resets.specs.working.ResetGraphs.{IsJoined}
use Rattle.fir_meaning.specs.ResetItems.{leaf_item}
use Rattle.fir_infer_resets.specs.working.PathKeys.{path_key}
use Rattle.fir_infer_resets.specs.working.Holding.{item_of}

-- the second stands in the list of the first
pub record AddsOne (old new : List (Vec ℕ Global)) (one other : ℕ) : Type 0 where
  pub long : length new ≡ length old
  pub kept : (x y : ℕ) → IsJoined old x y → IsJoined new x y
  pub from : (x y : ℕ) → IsJoined new x y → IsJoined old x y ⊎ ((x ≡ one) × (y ≡ other))
  pub added : one < length old → IsJoined new one other

-- each stands in the list of the other
pub record AddsBoth (old new : List (Vec ℕ Global)) (one other : ℕ) : Type 0 where
  pub long : length new ≡ length old
  pub kept : (x y : ℕ) → IsJoined old x y → IsJoined new x y
  pub from : (x y : ℕ) → IsJoined new x y → IsJoined old x y ⊎ ((x ≡ one) × (y ≡ other)) ⊎ ((x ≡ other) × (y ≡ one))
  pub added : one < length old → IsJoined new one other
  pub back : other < length old → IsJoined new other one

-- an end more, that is joined to nothing
pub record AddsEnd (old new : Joined) (own : End) : Type 0 where
  pub ends : new.ends.items ≡ old.ends.items ++ own ∷ []
  pub kinds : new.kinds.items ≡ old.kinds.items ++ own.kind ∷ []
  pub list : Vec ℕ Global
  pub empty : list.items ≡ []
  pub graph : new.graph.items ≡ old.graph.items ++ list ∷ []
  pub numbers : new.numbers ≡ old.numbers

-- an end more that is a Reset of that path, which the table of numbers knows
pub record AddsReset (old new : Joined) (number : ℕ) (leaf : LeafPath) (place : Place) : Type 0 where
  pub own : End
  pub item : item_of own.item ≡ leaf_item number leaf
  pub kind : own.kind ≡ Reset
  pub at : own.place ≡ place
  pub ends : new.ends.items ≡ old.ends.items ++ own ∷ []
  pub kinds : new.kinds.items ≡ old.kinds.items ++ own.kind ∷ []
  pub list : Vec ℕ Global
  pub empty : list.items ≡ []
  pub graph : new.graph.items ≡ old.graph.items ++ list ∷ []
  pub numbers : Updates (slice_cmp nat_cmp) old.numbers new.numbers (path_key number leaf) (Some (length old.ends.items))

-- the two are joined, and nothing else is changed
pub record AddsJoin (old new : Joined) (one other : ℕ) : Type 0 where
  pub ends : new.ends ≡ old.ends
  pub kinds : new.kinds ≡ old.kinds
  pub graph : AddsBoth old.graph.items new.graph.items one other
  pub numbers : new.numbers ≡ old.numbers
