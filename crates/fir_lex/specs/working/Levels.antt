-- Levels of indentation.
-- A line deeper than the open level opens a level; one less deep closes levels, and must meet an open one or the base level 0. The open levels are
-- listed from the innermost on, without the base.
use Rattle.std.specs.Prelude.{ℕ, List, [], ◌∷◌, nat_eq, nat_lt, if◌then◌else◌, Option, Some, None, option_map}
use Rattle.fir_lex.specs.Tokens.{Token, level_opens, level_closes}

-- what opens and closes, and the levels that are open then
pub record Move : Type 0 where
  pub tokens : List Token
  pub levels : List ℕ

abbrev pub closing : Move → Move
closing m = record m { tokens = level_closes ∷ m.tokens }

-- to a level that is open
abbrev pub move_out : ℕ → List ℕ → Option Move
move_out n [] = if nat_eq n 0 then Some (record { tokens = []; levels = [] }) else None
move_out n (m ∷ ms) =
    if nat_eq n m then Some (record { tokens = []; levels = m ∷ ms }) else if nat_lt n m then option_map closing (move_out n ms) else None

abbrev pub innermost : List ℕ → ℕ
innermost [] = 0
innermost (n ∷ ns) = n

-- what a line of n spaces does to the open levels, where it meets one
abbrev pub move_to : ℕ → List ℕ → Option Move
move_to n levels = if nat_lt (innermost levels) n then Some (record { tokens = level_opens ∷ []; levels = n ∷ levels }) else move_out n levels
