-- What modules cost, read by their numbers.
use Rattle.std.specs.Prelude.{ℕ, List, Option, Some, None, slice_get, unwrap_or}

-- what the module of that number costs
abbrev pub cost_at : List ℕ → ℕ → ℕ
cost_at costs number = unwrap_or (slice_get costs number) 0

-- where there is none, nothing
abbrev pub cost_where : List ℕ → Option ℕ → ℕ
cost_where costs None = 0
cost_where costs (Some number) = cost_at costs number
