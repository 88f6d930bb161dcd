-- How many braces are open.
use Rattle.std.specs.Prelude.{◌≡◌, ℕ, ◌+◌, ◌-◌, ◌≤◌, List, ◌++◌, fold, nat_eq, if◌then◌else◌}
use Rattle.ver_ast.specs.Tokens.{VToken, sign}
use Rattle.ver_ast.specs.Pieces.{PlacedToken}

-- `{` opens one more, `}` closes one
abbrev pub opened_by : ℕ → VToken → ℕ
opened_by d (sign b) = if nat_eq b 123 then d + 1 else if nat_eq b 125 then d - 1 else d
opened_by d _ = d

-- behind these tokens
abbrev pub open_braces : List PlacedToken → ℕ
open_braces ts = fold (λ d t. opened_by d t.token) 0 ts

-- nowhere in these tokens are more than 256 open
abbrev pub IsShallow : List PlacedToken → Type 0
IsShallow ts = (front back : List PlacedToken) → ts ≡ front ++ back → open_braces front ≤ 256
