-- Leaves of which all are one Reset: the same leaf of all elements of a vector, and of a module's ports and of all instances of the module.
use Rattle.std.specs.Prelude.{ℕ, suc, ◌+◌, List, [], ◌∷◌, if◌then◌else◌, nat_lt, Option, Some, None, option_map, slice_get}
use Rattle.std.specs.Str.{bytes_eq}
use Rattle.fir_ast.specs.Types.{DataType, bundle, vector, Fields, no_fields, field}
use Rattle.fir_ast.specs.Circuits.{ModuleTree, CircuitTree}
use Rattle.fir_meaning.specs.LeafPaths.{LeafPath, named, element}
use Rattle.fir_meaning.specs.Components.{Component, Declarations, port, instance}
use Rattle.fir_meaning.specs.Visibility.{declarations}
use Rattle.fir_meaning.specs.TypedScopes.{TypedScope}
use Rattle.fir_meaning.specs.ComponentTypes.{typed_scope}
use Rattle.fir_meaning.specs.SharedLeaves.{shared_count}
use Rattle.fir_meaning.specs.ResetItems.{ResetItem, leaf_item, value_item}
use Rattle.fir_meaning.specs.ResetJoins.{numbered_module}

-- the ports of a module, or what is declared behind so many declarations; with how many leaves stand before the leaf, those of a vector's elements counted once
pub data Part : Type 0 where
  of_ports : Part
  of_declaration : ℕ → Part

pub record Class : Type 0 where
  pub number : ℕ
  pub part : Part
  pub offset : ℕ

abbrev pub behind_so_many : ℕ → Option ℕ → Option ℕ
behind_so_many n o = option_map (λ k. n + k) o

-- how many leaves of a type stand before that of the path
abbrev mutual
  pub offset_in : DataType → LeafPath → Option ℕ
  offset_in (bundle fs) [] = None
  offset_in (bundle fs) (element i ∷ path) = None
  offset_in (bundle fs) (named x ∷ path) = offset_in_fields fs x path
  offset_in (vector t n) [] = None
  offset_in (vector t n) (named x ∷ path) = None
  offset_in (vector t n) (element i ∷ path) = if nat_lt i n then offset_in t path else None
  offset_in t [] = Some 0
  offset_in t (s ∷ path) = None

  pub offset_in_fields : Fields → List ℕ → LeafPath → Option ℕ
  offset_in_fields no_fields x path = None
  offset_in_fields (field p flip y begins t rest) x path =
      if bytes_eq y x then offset_in t path else behind_so_many (shared_count t) (offset_in_fields rest x path)

-- a leaf among those of a declaration behind so many, of which ports so many leaves stand before
abbrev pub class_there : ℕ → List ModuleTree → ℕ → ℕ → Component → Option ℕ → Option Class
class_there number modules position before (port d t) o = option_map (λ k. record { number = number; part = of_ports; offset = before + k }) o
class_there number modules position before (instance name) o = in_ports_of (numbered_module 0 modules name) o
  where
    in_ports_of : Option (ℕ × ModuleTree) → Option ℕ → Option Class
    in_ports_of None o = None
    in_ports_of (Some child) o = option_map (λ k. record { number = child.0; part = of_ports; offset = k }) o
class_there number modules position before c o = option_map (λ k. record { number = number; part = of_declaration position; offset = k }) o

abbrev pub offset_where : Option DataType → LeafPath → Option ℕ
offset_where None path = None
offset_where (Some t) path = offset_in t path

abbrev pub port_count : Component → ℕ
port_count (port d t) = shared_count t
port_count c = 0

-- the first declaration of the name, from one behind so many on
abbrev pub class_among : ℕ → List ModuleTree → ℕ → ℕ → Declarations → TypedScope → List ℕ → LeafPath → Option Class
class_among number modules position before (d ∷ ds) (k ∷ ks) name path =
    if bytes_eq d.named.name name
    then class_there number modules position before d.component (offset_where k.data_type path)
    else class_among number modules (suc position) (before + port_count d.component) ds ks name path
class_among number modules position before _ _ name path = None

abbrev pub class_in : ℕ → List ModuleTree → Option ModuleTree → LeafPath → Option Class
class_in number modules (Some m) (named x ∷ path) = class_among number modules 0 0 (declarations m) (typed_scope modules (declarations m)) x path
class_in number modules _ _ = None

abbrev pub class_of : CircuitTree → ResetItem → Option Class
class_of c (leaf_item number path) = class_in number c.modules (slice_get c.modules number) path
class_of c (value_item p) = None
