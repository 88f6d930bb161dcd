-- What comes of ordering the modules: an order, and then no closed walk exists; or a closed walk.
use Rattle.std.specs.Prelude.{◌≡◌, ℕ, ◌<◌, List, [], map, Option, Some, None, Result, Ok, Err, Vec, option_map, slice_get, unwrap_or}
use Rattle.std.specs.declared.alloc.Global.{Global}
use Rattle.fir_base.specs.declared.refused.Refused.{Refused}
use Rattle.fir_base.specs.declared.refused.Refused.TheVariants.{Fault, Memory}
use Rattle.fir_ast.specs.declared.fault.FirFault.{FirFault}
use Rattle.fir_ast.specs.declared.place.Place.{Place}
use Rattle.fir_ast.specs.Statements.{PlacedName}
use Rattle.fir_ast.specs.Circuits.{ModuleTree, CircuitTree}
use Rattle.fir_ast.specs.working.CodeFaults.{fault_of}
use Rattle.fir_pass.specs.Groups.{IsClear}
use Rattle.fir_meaning.specs.Visibility.{declarations}
use Rattle.fir_meaning.specs.Mentions.{module_names}
use Rattle.fir_meaning.specs.NameGroups.{IsRecursive, hierarchy_group}
use Rattle.fir_names.specs.declared.declaration.Declaration.{Declaration as Entry}
use Rattle.fir_names.specs.declared.declaration.Component.TheVariants.{Instance}
use Rattle.fir_names.specs.declared.names.Names.{Names}
use Rattle.fir_names.specs.working.ModuleOrder.{IsModuleOrder}
use Rattle.fir_names.specs.working.Numbered.{instance_numbers}
use Rattle.fir_names.specs.working.Tabulated.{entry_at}

-- for each module the numbers of those that it has instances of
abbrev pub instances_each : List PlacedName → List ModuleTree → List (List ℕ)
instances_each names = map (λ m. instance_numbers names (declarations m))

abbrev pub numbers_at : List PlacedName → Option ModuleTree → List ℕ
numbers_at names None = []
numbers_at names (Some m) = instance_numbers names (declarations m)

-- and for the module of that number: the circuit's hierarchy as a graph
abbrev pub instances_of : CircuitTree → ℕ → List ℕ
instances_of c number = numbers_at (module_names c) (slice_get c.modules number)

abbrev pub name_at : List ModuleTree → ℕ → List ℕ
name_at modules number = unwrap_or (option_map (λ m. m.named.name) (slice_get modules number)) []

-- a table has an instance of the module of that number
pub record HasInstance (names : Names) (other : ℕ) : Type 0 where
  pub at : ℕ
  pub entry : Entry
  pub is : entry_at names at ≡ Some entry
  pub instance_of : entry.component ≡ Instance other

-- the place of the first one
pub record IsFirstInstance (names : Names) (other : ℕ) (place : Place) : Type 0 where
  pub has : HasInstance names other
  pub is : place ≡ has.entry.place
  pub first : (k : ℕ) (e : Entry) → k < has.at → entry_at names k ≡ Some e → e.component ≡ Instance other → ⊥

abbrev pub OrdersModules : CircuitTree → Result (Vec ℕ Global) (Refused FirFault) → Type 0
OrdersModules c (Ok order) = IsModuleOrder c order.items × IsClear (hierarchy_group c)
OrdersModules c (Err (Fault f)) = IsRecursive c (fault_of f)
OrdersModules c (Err Memory) = Unit {0}
