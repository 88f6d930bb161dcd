-- The number of the first leaf of what is declared, where all elements of a vector have the numbers of one.
-- The ports of all modules are numbered first, in the order of the text, and then what the bodies declare; an instance has the numbers of its module's ports.
use Rattle.std.specs.Prelude.{ℕ, ◌+◌, List, [], ◌∷◌, if◌then◌else◌, Option, Some, None, slice_get, unwrap_or}
use Rattle.std.specs.Str.{bytes_eq}
use Rattle.fir_ast.specs.Types.{DataType}
use Rattle.fir_ast.specs.Circuits.{ModuleTree, CircuitTree}
use Rattle.fir_meaning.specs.Components.{Component, port, instance, Declarations}
use Rattle.fir_meaning.specs.Visibility.{declarations}
use Rattle.fir_meaning.specs.TypedScopes.{TypedScope}
use Rattle.fir_meaning.specs.ComponentTypes.{typed_scope}
use Rattle.fir_meaning.specs.SharedLeaves.{shared_count}
use Rattle.fir_meaning.specs.SizedDeclarations.{port_numbers, all_port_numbers}
use Rattle.fir_types.specs.working.Notes.{LeafRange}

-- how many numbers a declaration takes: where it has no type, none
abbrev pub numbers_taken : Option DataType → ℕ
numbers_taken None = 0
numbers_taken (Some t) = shared_count t

-- of the ports of the first module of a name, where those of the first of these modules have numbers from a number on
abbrev pub ports_from : ℕ → List ModuleTree → List ℕ → ℕ
ports_from k [] name = k
ports_from k (m ∷ ms) name = if bytes_eq m.named.name name then k else ports_from (k + port_numbers m) ms name

-- the next number of a port, and the next of what a body declares
pub record NextLeaf : Type 0 where
  pub port : ℕ
  pub body : ℕ

abbrev pub first_leaf : List ModuleTree → NextLeaf → Component → ℕ
first_leaf modules next (port d t) = next.port
first_leaf modules next (instance name) = ports_from 0 modules name
first_leaf modules next _ = next.body

abbrev pub leaf_behind : NextLeaf → Component → Option DataType → NextLeaf
leaf_behind next (port d t) data_type = record { port = next.port + numbers_taken data_type; body = next.body }
leaf_behind next (instance name) data_type = next
leaf_behind next _ data_type = record { port = next.port; body = next.body + numbers_taken data_type }

-- of each declaration of a module, and the next numbers behind them; the types stand beside the declarations
abbrev pub first_leaves_of : List ModuleTree → NextLeaf → Declarations → TypedScope → List ℕ
first_leaves_of modules next (d ∷ ds) (k ∷ ks) = first_leaf modules next d.component ∷ first_leaves_of modules (leaf_behind next d.component k.data_type) ds ks
first_leaves_of modules next _ _ = []

abbrev pub leaves_behind : NextLeaf → Declarations → TypedScope → NextLeaf
leaves_behind next (d ∷ ds) (k ∷ ks) = leaves_behind (leaf_behind next d.component k.data_type) ds ks
leaves_behind next _ _ = next

abbrev pub first_leaves_from : List ModuleTree → NextLeaf → List ModuleTree → List (List ℕ)
first_leaves_from modules next [] = []
first_leaves_from modules next (m ∷ ms) =
    first_leaves_of modules next (declarations m) (typed_scope modules (declarations m))
    ∷ first_leaves_from modules (leaves_behind next (declarations m) (typed_scope modules (declarations m))) ms

-- of each declaration of each module
abbrev pub first_leaves : CircuitTree → List (List ℕ)
first_leaves c = first_leaves_from c.modules (record { port = 0; body = all_port_numbers c.modules }) c.modules

-- the first of the leaves that a reference in the module of that number names
abbrev pub first_named : CircuitTree → ℕ → LeafRange → ℕ
first_named c number range = unwrap_or (slice_get (unwrap_or (slice_get (first_leaves c) number) []) range.declaration) 0 + range.shared_offset
