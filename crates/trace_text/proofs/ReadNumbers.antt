-- A word that is read as a number.
use Rattle.std.proofs.Common.{◌≡◌, ℕ, Bool, true, refl}
use Rattle.trace_text.specs.declared.number.Reading.{Reading}
use Rattle.trace_text.specs.declared.number.Reading.TheVariants.{Misspelled, Wide, Number}
use Rattle.trace_text.specs.working.Numbers.{IsNumber, ReadsWord}

-- a word that is read and not misspelled
pub read_number : (spelled : Bool) (n : ℕ) (r : Reading) → ReadsWord spelled n r → (r ≡ Misspelled → ⊥) → (spelled ≡ true) × IsNumber r n
read_number spelled n Misspelled h other = absurd (other refl)
read_number spelled n Wide h other = h
read_number spelled n (Number m) h other = h
