-- E28: a closed walk of dependence (FIRRTL spec, "Connects", "Last Connect Semantics").
-- It has one step at least, and no leaf stands on it twice but its first, with which it ends. It stands at the declaration of that leaf.
use Rattle.std.specs.Prelude.{◌≡◌, ℕ, List, [], ◌∷◌, ◌++◌, map}
use Rattle.fir_base.specs.Lists.{Distinct}
use Rattle.fir_ast.specs.Faults.{Fault}
use Rattle.fir_meaning.specs.SourceLoops.{loop_fault}
use Rattle.fir_meaning.specs.working.LeafCircuits.{LeafCircuit}
use Rattle.fir_meaning.specs.working.LeafNames.{path_of_leaf, place_of_leaf}
use Rattle.fir_meaning.specs.working.CircuitDependence.{IsWalk}

pub record ShowsLoop (c : LeafCircuit) (f : Fault) : Type 0 where
  pub first : ℕ
  pub between : List ℕ
  pub walk : IsWalk c first (between ++ first ∷ []) first
  pub distinct : Distinct (first ∷ between)
  pub is : f ≡ loop_fault (place_of_leaf c first) (map (path_of_leaf c) (first ∷ between ++ first ∷ []))
