-- Clocks have their numbers, counted from 0 in port order.
use Rattle.std.specs.Prelude.{◌≡◌, ℕ, List, slice_get, Some}
use Rattle.fir_base.specs.Ticks.{Env}
use Rattle.ver_ast.specs.declared.tree.Verilog.{Verilog}
use Rattle.ver_ast.specs.Nets.{clocks}

-- each clock shows its number, counted from 0 in port order
abbrev pub ClocksShown : Verilog → Env → Type 0
ClocksShown v env = (k : ℕ) (n : List ℕ) → slice_get (clocks v) k ≡ Some n → env n ≡ k
