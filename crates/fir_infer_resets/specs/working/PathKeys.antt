-- Paths as the keys of tables: a module's number and a path as one list of bytes, and no two of them have one key.
use Rattle.std.specs.Prelude.{ℕ, ◌+◌, List, [], ◌∷◌, ◌++◌, map, flat_map, nat_lt, if◌then◌else◌}
use Rattle.std.specs.Int.Digits.{digits_of}
use Rattle.fir_meaning.specs.LeafPaths.{Step, LeafPath, named, element}

-- a byte that would begin or escape something is escaped
abbrev pub key_byte : ℕ → List ℕ
key_byte b = if nat_lt b 3 then 2 ∷ b ∷ [] else b ∷ []

-- the digits of a number in base 128, above the bytes that begin or escape something
abbrev pub number_key : ℕ → List ℕ
number_key n = map (λ d. d + 3) (digits_of 128 n)

abbrev pub step_key : Step → List ℕ
step_key (named x) = 1 ∷ flat_map key_byte x
step_key (element i) = 0 ∷ number_key i

abbrev pub path_key : ℕ → LeafPath → List ℕ
path_key number path = step_key (element number) ++ flat_map step_key path
