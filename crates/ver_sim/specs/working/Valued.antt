-- The values of a tree by number.
-- The values of the nets stand in one list, in the order of the declarations, and behind them the numbers of the clocks.
use Rattle.std.specs.Prelude.{◌≡◌, ℕ, suc, List, [], ◌∷◌, ◌++◌, slice_index, if◌then◌else◌}
use Rattle.std.specs.Str.{bytes_eq}
use Rattle.fir_base.specs.Lists.{In}
use Rattle.fir_base.specs.Ticks.{Env}
use Rattle.ver_ast.specs.declared.tree.Verilog.{Verilog}
use Rattle.ver_ast.specs.Nets.{nets, clocks, names_of}

-- the place of a name, or else the length
abbrev pub place_among : List (List ℕ) → List ℕ → ℕ
place_among [] name = 0
place_among (n ∷ ns) name = if bytes_eq n name then 0 else suc (place_among ns name)

-- the names that have values
abbrev pub valued : Verilog → List (List ℕ)
valued v = names_of (nets v) ++ clocks v

-- the place of one of these names
abbrev pub IsPlaceAmong : Verilog → List (List ℕ) → ℕ → Type 0
IsPlaceAmong v names q = (n : List ℕ) × In names n × (place_among (valued v) n ≡ q)

abbrev pub env_of : Verilog → List ℕ → Env
env_of v values name = slice_index values (place_among (valued v) name)
