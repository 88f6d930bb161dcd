-- Names from paths.
-- The path of a leaf is printed with `.` before a field and brackets round an index, as `io.v[2].x`; the base of its name has `_` for each `.` and before
-- each index, as `io_v_2_x`.
use Rattle.std.specs.Prelude.{ℕ, List, [], ◌∷◌, flat_map, nat_eq, ◌||◌, if◌then◌else◌}

-- `.` and `[` become `_`, and `]` goes
abbrev pub named_byte : ℕ → List ℕ
named_byte b = if nat_eq b 46 || nat_eq b 91 then (95 ∷ []) else if nat_eq b 93 then [] else (b ∷ [])

abbrev pub base_name : List ℕ → List ℕ
base_name path = flat_map named_byte path
