-- A form that `emit` and `sim` lack, and which of two places comes first.
use Rattle.std.specs.Prelude.{ℕ, List, Bool, ◌&&◌, ◌||◌, nat_eq, nat_lt, Option, Some}
use Rattle.fir_ast.specs.declared.place.Place.{Place}

-- where it begins, and its first token
pub record Lack : Type 0 where
  pub place : Place
  pub word : List ℕ

abbrev pub lack : Place → List ℕ → Option Lack
lack place word = Some (record { place = place; word = word })

abbrev pub is_before : Place → Place → Bool
is_before p q = nat_lt p.line q.line || (nat_eq p.line q.line && nat_lt p.col q.col)
