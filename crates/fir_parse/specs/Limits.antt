-- The limits of a text, and where in it they count.
-- An integer is below 2^128, and so is the size of a literal's number, which is in form, and for a UInt not negative. Of blocks of whens and elses
-- and of brackets 256 at most are open at once, and no type and no expression is higher than 256. A version is 1 or 2.
use Rattle.std.specs.Prelude.{◌≡◌, List, Bool, true, false}
use Rattle.fir_parse.specs.Lexemes.{Terminal}

pub data Limit : Type 0 where
  numbers : Limit
  nesting : Limit
  versions : Limit

-- whether a limit counts where these tokens are left
abbrev pub Limits : Type 0
Limits = Limit → List Terminal → Bool

abbrev pub everywhere : Limits
everywhere limit left = true

abbrev pub nowhere : Limits
nowhere limit left = false

-- no token, where a limit is kept, if it counts there
abbrev pub Within : Limits → Limit → Type 0 → List Terminal → List Terminal → Type 0
Within limits limit Kept before behind = (limits limit before ≡ true → Kept) × (before ≡ behind)
