-- What the clock outputs show: the number of a clock, or none. It depends on the tree alone.
use Rattle.std.specs.Prelude.{ℕ, ◌+◌, List, [], ◌∷◌, map, if◌then◌else◌, Option, Some, None}
use Rattle.std.specs.Str.{bytes_eq}
use Rattle.ver_ast.specs.declared.tree.Verilog.{Verilog}
use Rattle.ver_ast.specs.declared.tree.Assign.{Assign}
use Rattle.ver_ast.specs.declared.tree.Rhs.{Rhs}
use Rattle.ver_ast.specs.declared.tree.Rhs.TheVariants as rhs
use Rattle.ver_ast.specs.Atoms.{AtomTree, net}
use Rattle.ver_ast.specs.Nets.{clocks, output_clocks, clock_assigns}

abbrev pub number_in : ℕ → List (List ℕ) → List ℕ → Option ℕ
number_in k [] name = None
number_in k (c ∷ cs) name = if bytes_eq c name then Some k else number_in (k + 1) cs name

abbrev pub clock_of : List (List ℕ) → AtomTree → Option ℕ
clock_of names (net n) = number_in 0 names n
clock_of names _ = None

abbrev pub clock_side : List (List ℕ) → Rhs → Option ℕ
clock_side names (rhs.Atom a) = clock_of names a
clock_side names _ = None

abbrev pub driven_clock : List (List ℕ) → List Assign → List ℕ → Option ℕ
driven_clock names [] name = None
driven_clock names (a ∷ more) name = if bytes_eq a.target name then clock_side names a.rhs else driven_clock names more name

-- in port order
abbrev pub clocks_shown : Verilog → List (Option ℕ)
clocks_shown v = map (driven_clock (clocks v) (clock_assigns v)) (output_clocks v)
