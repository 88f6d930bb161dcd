-- Which modules have instances of which (FIRRTL spec, "Instances").
-- A circuit of modules that have one another as instances, in a closed walk, has no end: E11.
use Rattle.std.specs.Prelude.{◌≡◌, ℕ, List, [], ◌∷◌}
use Rattle.fir_base.specs.Lists.{In, Distinct}
use Rattle.fir_ast.specs.declared.place.Place.{Place}
use Rattle.fir_ast.specs.Circuits.{ModuleTree}
use Rattle.fir_meaning.specs.Components.{Component, Declaration}
use Rattle.fir_meaning.specs.Components as component
use Rattle.fir_meaning.specs.Visibility.{declarations}

-- a module of the one name declares an instance of the other
pub record Instantiates (modules : List ModuleTree) (name other : List ℕ) (by : Declaration) : Type 0 where
  pub inside : ModuleTree
  pub is_module : In modules inside
  pub named : inside.named.name ≡ name
  pub declares : In (declarations inside) by
  pub is_instance : by.component ≡ component.instance other

abbrev pub Enters : List ModuleTree → List ℕ → List ℕ → Type 0
Enters modules name other = (by : Declaration) × Instantiates modules name other by

-- from one module through the list to another, each has an instance of the next
abbrev pub IsWalk : List ModuleTree → List ℕ → List (List ℕ) → List ℕ → Type 0
IsWalk modules name [] last = Enters modules name last
IsWalk modules name (next ∷ rest) last = Enters modules name next × IsWalk modules next rest last

-- the second of a walk from one module through the list to another
abbrev pub second : List (List ℕ) → List ℕ → List ℕ
second [] last = last
second (next ∷ rest) last = next

-- a closed walk, on which no other module stands twice, and its first instance
pub record IsClosedWalk (modules : List ModuleTree) (first : List ℕ) (between : List (List ℕ)) (place : Place) : Type 0 where
  pub by : Declaration
  pub enters : Instantiates modules first (second between first) by
  pub at : place ≡ by.named.place
  pub walk : IsWalk modules first between first
  pub once : Distinct (first ∷ between)
