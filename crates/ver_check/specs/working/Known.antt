-- What the code knows of names: what they are declared as, and what drives them.
use Rattle.std.specs.Prelude.{◌≡◌, ◌≤◌, ℕ, List, Option, Some, option_map}
use Rattle.std.specs.Str.{bytes_eq}
use Rattle.indexmap.specs.IndexMap.{get_by}
use Rattle.ver_ast.specs.declared.place.VPlace.{VPlace}
use Rattle.ver_check.specs.declared.kind.Kind.{Kind}
use Rattle.ver_check.specs.declared.kind.Kind.TheVariants.{ClockInput, ClockOutput, Input, Output, Wire, Register, Array}
use Rattle.ver_check.specs.declared.scope.Entry.{Entry}
use Rattle.ver_check.specs.declared.scope.Scope.{Scope as Names}
use Rattle.ver_check.specs.declared.drivers.Drivers.{Drivers}
use Rattle.ver_check.specs.Scopes.{Declaration, Scope, declaration_of}
use Rattle.ver_check.specs.ItemFaults.{Driver, driver_of}

-- at most 128 bits
abbrev pub IsNarrowKind : Kind → Type 0
IsNarrowKind ClockInput = Unit {0}
IsNarrowKind ClockOutput = Unit {0}
IsNarrowKind (Input w) = w ≤ 128
IsNarrowKind (Output w) = w ≤ 128
IsNarrowKind (Wire w) = w ≤ 128
IsNarrowKind (Register w) = w ≤ 128
IsNarrowKind (Array w) = w ≤ 128

abbrev pub found : Names → List ℕ → Option Entry
found names name = get_by (λ known. bytes_eq name known.items) names.names

abbrev pub entry_of : Declaration → Entry
entry_of d = record { kind = d.kind; place = d.place }

abbrev pub declared : List ℕ → Entry → Declaration
declared name e = record { name = name; kind = e.kind; place = e.place }

-- by name it has these declarations, each name's first, and none has more than 128 bits
pub record Knows (names : Names) (scope : Scope) : Type 0 where
  pub by_name : (n : List ℕ) → found names n ≡ option_map entry_of (declaration_of scope n)
  pub narrow : (n : List ℕ) (d : Declaration) → declaration_of scope n ≡ Some d → IsNarrowKind d.kind

abbrev pub driver_in : Drivers → List ℕ → Option VPlace
driver_in drivers name = get_by (λ known. bytes_eq name known.items) drivers.names

abbrev pub Drives : Drivers → List Driver → Type 0
Drives drivers ds = (n : List ℕ) → driver_in drivers n ≡ option_map (λ d. d.place) (driver_of ds n)
