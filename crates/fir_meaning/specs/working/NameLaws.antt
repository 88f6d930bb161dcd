-- Laws about names.
use Rattle.std.specs.Prelude.{◌≡◌, ℕ, List, Some}
use Rattle.fir_base.specs.Lists.{In}
use Rattle.fir_ast.specs.declared.place.Place.{Place}
use Rattle.fir_ast.specs.Circuits.{ModuleTree, CircuitTree}
use Rattle.fir_pass.specs.Groups.{IsClear}
use Rattle.fir_meaning.specs.Components.{Declaration, Declarations, find}
use Rattle.fir_meaning.specs.Visibility.{declarations}
use Rattle.fir_meaning.specs.Mentions.{uses, module_mentions, module_names}
use Rattle.fir_meaning.specs.NameGroups.{name_group}

-- what is visible under a name, and what the module declares under it, are one
pub record IsOneLookUp (visible : Declarations) (m : ModuleTree) (name : List ℕ) : Type 0 where
  pub declaration : Declaration
  pub visibly : find visible name ≡ Some declaration
  pub in_module : find (declarations m) name ≡ Some declaration

-- where neither E08 nor E09 stands, one look-up in all that a module declares finds what is visible where a name is used
abbrev pub OneLookUp : Type 0
OneLookUp =
    (c : CircuitTree) (m : ModuleTree) (visible : Declarations) (p : Place) (name : List ℕ)
    → IsClear (name_group c) → In c.modules m → In (module_mentions (module_names c) m) (uses visible p name) → IsOneLookUp visible m name
