-- Flags of leaves that change.
use Rattle.std.specs.Prelude.{◌≡◌, ℕ, ◌<◌, List, length, Bool}
use Rattle.fir_driven.specs.working.Covering.{flag_at}

-- the flag of each leaf becomes what is said of the leaf and of the flag that it had
pub record FlagsBecome (before after : List Bool) (change : ℕ → Bool → Bool) : Type 0 where
  pub count : length after ≡ length before
  pub each : (x : ℕ) → x < length before → flag_at after x ≡ change x (flag_at before x)
