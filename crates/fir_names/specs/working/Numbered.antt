-- Modules by their numbers, and components as the code has them.
use Rattle.std.specs.Prelude.{◌≡◌, ℕ, List, [], ◌∷◌, map, flat_map, Option, Some, None, unwrap_or}
use Rattle.std.specs.BTreeMap.{BTreeMap, get}
use Rattle.std.specs.Cmp.Lexicographic.{slice_cmp}
use Rattle.std.specs.Ordering.{nat_cmp}
use Rattle.fir_ast.specs.Statements.{PlacedName}
use Rattle.fir_ast.specs.Circuits.{ModuleTree}
use Rattle.fir_meaning.specs.Components.{Component, Declarations, port, wire, register, node, instance, memory}
use Rattle.fir_names.specs.working.ModuleOrder.{find_number}
use Rattle.fir_names.specs.declared.declaration.Component.{Component as ComponentOfCode}
use Rattle.fir_names.specs.declared.declaration.Component.TheVariants as code
use Rattle.fir_names.specs.declared.declaration.Declaration.{Declaration as Entry}

abbrev pub names_of : List ModuleTree → List PlacedName
names_of = map (λ m. m.named)

-- the map has the number of the first module of each name
pub record HasNumbers (numbers : BTreeMap (List ℕ) ℕ) (modules : List PlacedName) : Type 0 where
  pub each : (n : List ℕ) → get (slice_cmp nat_cmp) numbers n ≡ find_number modules n

-- a name that no module has counts as the first one's
abbrev pub number_of : List PlacedName → List ℕ → ℕ
number_of modules name = unwrap_or (find_number modules name) 0

abbrev pub component_of : List PlacedName → Component → ComponentOfCode
component_of modules (port d t) = code.Port d
component_of modules (wire t) = code.Wire
component_of modules (register t) = code.Register
component_of modules (node e) = code.Node
component_of modules (instance name) = code.Instance (number_of modules name)
component_of modules (memory parts) = code.Memory

-- the module of an instance
abbrev pub instance_number : List PlacedName → Component → List ℕ
instance_number modules (instance name) = number_of modules name ∷ []
instance_number modules _ = []

abbrev pub instance_numbers : List PlacedName → Declarations → List ℕ
instance_numbers modules = flat_map (λ d. instance_number modules d.component)

-- and as the code has it
abbrev pub module_number : ComponentOfCode → Option ℕ
module_number (code.Instance k) = Some k
module_number _ = None

abbrev pub number_read : Option Entry → Option ℕ
number_read None = None
number_read (Some e) = module_number e.component
