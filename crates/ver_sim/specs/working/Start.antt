-- The values before the first tick, by number.
use Rattle.std.specs.Prelude.{ℕ, ◌+◌, List, [], ◌∷◌, ◌++◌, length, replicate}
use Rattle.ver_ast.specs.declared.tree.Verilog.{Verilog}
use Rattle.ver_ast.specs.Nets.{nets, clocks}

-- the numbers of clocks, counted on
abbrev pub clock_numbers : ℕ → List (List ℕ) → List ℕ
clock_numbers k [] = []
clock_numbers k (c ∷ cs) = k ∷ clock_numbers (k + 1) cs

abbrev pub first_values : Verilog → List ℕ
first_values v = replicate (length (nets v)) 0 ++ clock_numbers 0 (clocks v)
