-- The text of the circuit `Gen` with so many registers, numbered from 0 on: a circuit of any size for tests of the whole compiler.
-- Register 0 adds up the input; each later one takes the one before it in, by `xor` or by a sum as the lowest bit of the input says; the output shows the last.
use Rattle.std.specs.Prelude.{ℕ, zero, suc, ◌+◌, ◌-◌, List, [], ◌++◌, codes, decimal}

abbrev pub register_name : ℕ → List ℕ
register_name k = codes "r" ++ decimal k

abbrev pub head_lines : List ℕ
head_lines =
    codes "circuit Gen :\n  module Gen :\n    input clock : Clock\n    input reset : UInt<1>\n    input x : UInt<16>\n    output y : UInt<16>\n"

-- a register whose reset sets it to its number
abbrev pub register_line : ℕ → List ℕ
register_line k = codes "    reg " ++ register_name k ++ codes " : UInt<16>, clock with : (reset => (reset, UInt<16>(" ++ decimal k ++ codes ")))\n"

abbrev pub first_lines : List ℕ
first_lines = register_line 0 ++ codes "    r0 <= tail(add(r0, x), 1)\n"

-- the register behind that of this number
abbrev pub step_lines : ℕ → List ℕ
step_lines j =
    register_line (j + 1) ++ codes "    when bits(x, 0, 0) :\n      " ++ register_name (j + 1) ++ codes " <= xor(" ++ register_name j ++ codes ", "
    ++ register_name (j + 1) ++ codes ")\n    else :\n      " ++ register_name (j + 1) ++ codes " <= tail(add(" ++ register_name (j + 1) ++ codes ", "
    ++ register_name j ++ codes "), 1)\n"

-- so many registers more, behind that of a number
unfoldable pub steps_text : ℕ → ℕ → List ℕ
steps_text j zero = []
steps_text j (suc count) = step_lines j ++ steps_text (j + 1) count

abbrev pub last_line : ℕ → List ℕ
last_line k = codes "    y <= " ++ register_name k ++ codes "\n"

-- of so many registers, one at least
abbrev pub gen_text : ℕ → List ℕ
gen_text n = head_lines ++ first_lines ++ steps_text 0 (n - 1) ++ last_line (n - 1)
