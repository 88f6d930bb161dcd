-- The code's namespaces: each name with the place of its first declaration.
use Rattle.std.specs.Prelude.{◌≡◌, ℕ, List, option_map}
use Rattle.std.specs.BTreeMap.{get}
use Rattle.std.specs.Cmp.Lexicographic.{slice_cmp}
use Rattle.std.specs.Ordering.{nat_cmp}
use Rattle.fir_ast.specs.Statements.{PlacedName}
use Rattle.fir_meaning.specs.Components.{find_name}
use Rattle.fir_resolve.specs.declared.namespace.Namespace.{Namespace}

pub record Holds (namespace : Namespace) (names : List PlacedName) : Type 0 where
  pub each : (n : List ℕ) → get (slice_cmp nat_cmp) namespace.first n ≡ option_map (λ p. p.place) (find_name names n)
