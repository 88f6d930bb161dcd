-- Digits, in both languages and in traces, and the numbers that they spell.
use Rattle.std.specs.Prelude.{ℕ, ◌+◌, ◌-◌, ◌*◌, List, fold, false, ◌&&◌, nat_le, if◌then◌else◌, Option, Some, None}
use Rattle.std.specs.Fmt.{digits}
use Rattle.fir_base.specs.Bytes.{is_digit}

-- the number of a digit of up to sixteen, whose letters are in either case
abbrev pub digit_value : ℕ → Option ℕ
digit_value b =
    if is_digit b then Some (b - 48)
    else if nat_le 97 b && nat_le b 102 then Some (b - 87)
    else if nat_le 65 b && nat_le b 70 then Some (b - 55)
    else None

-- the number that decimal digits spell
abbrev pub decimal_value : List ℕ → ℕ
decimal_value = fold (λ n d. 10 * n + (d - 48)) 0

-- a number without leading zeros, whose letters are in lower case
abbrev pub hexadecimal : ℕ → List ℕ
hexadecimal n = digits 16 false n
