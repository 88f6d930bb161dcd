-- What a judging call answers: that something holds, or a fault where it does not; where memory is wanting it says nothing.
use Rattle.std.specs.Prelude.{◌≡◌, ℕ, Result, Ok, Err}
use Rattle.fir_base.specs.declared.refused.Refused.{Refused}
use Rattle.fir_base.specs.declared.refused.Refused.TheVariants.{Fault, Memory}
use Rattle.ver_valid.specs.declared.misfit.Misfit.{Misfit}

abbrev pub Denies : Refused Misfit → Type 0 → Type 0
Denies (Fault f) P = P → ⊥
Denies Memory P = Unit {0}

abbrev pub Judges : {T : Type 0} → Result T (Refused Misfit) → Type 0 → Type 0
Judges (Ok x) P = P
Judges (Err e) P = Denies e P

-- the same of the one number of which it holds
abbrev pub Gives : Result ℕ (Refused Misfit) → (ℕ → Type 0) → Type 0
Gives (Ok w) P = P w × ((u : ℕ) → P u → u ≡ w)
Gives (Err e) P = Denies e ((u : ℕ) × P u)
