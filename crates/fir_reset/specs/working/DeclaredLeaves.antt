-- What the first name of a leaf's path declares.
use Rattle.std.specs.Prelude.{◌≡◌, ℕ, List, ◌∷◌, Some, slice_get}
use Rattle.fir_ast.specs.Circuits.{ModuleTree, CircuitTree}
use Rattle.fir_meaning.specs.LeafPaths.{LeafPath, named}
use Rattle.fir_meaning.specs.Components.{Declaration, find, instance}
use Rattle.fir_meaning.specs.Visibility.{declarations}

-- in the module of that number
pub record Declares (c : CircuitTree) (number : ℕ) (path : LeafPath) (d : Declaration) : Type 0 where
  pub inside : ModuleTree
  pub is_module : slice_get c.modules number ≡ Some inside
  pub name : List ℕ
  pub rest : LeafPath
  pub path_is : path ≡ named name ∷ rest
  pub found : find (declarations inside) name ≡ Some d

-- no instance
abbrev pub IsNoInstance : CircuitTree → ℕ → LeafPath → Type 0
IsNoInstance c number path = (d : Declaration) (name : List ℕ) → Declares c number path d → d.component ≡ instance name → ⊥
