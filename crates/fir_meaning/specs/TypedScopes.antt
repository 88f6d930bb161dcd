-- What a name stands for: the flow and the type of its component.
-- Behind the faults of names each name is declared once, and one look-up in what was declared so far finds what is visible.
use Rattle.std.specs.Prelude.{ℕ, List, [], ◌∷◌, if◌then◌else◌, Option, Some, None}
use Rattle.std.specs.Str.{bytes_eq}
use Rattle.fir_ast.specs.Types.{DataType}
use Rattle.fir_meaning.specs.Flows.{Flow}

-- a node whose expression has no type has none, nor has an instance of a module that is not there, nor a memory without data or depth
pub record Known : Type 0 where
  pub name : List ℕ
  pub flow : Flow
  pub data_type : Option DataType

-- in the order of the text
abbrev pub TypedScope : Type 0
TypedScope = List Known

-- the first of a name
abbrev pub known : TypedScope → List ℕ → Option Known
known [] name = None
known (k ∷ ks) name = if bytes_eq k.name name then Some k else known ks name
