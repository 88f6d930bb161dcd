-- Empty lists of parts, and tests that give no fault. Faults come as lists one behind the other.
use Rattle.std.proofs.Common.{◌≡◌, List, [], ◌++◌, Bool, true, false, refl}
use Rattle.fir_base.proofs.Empty.{empty_left, empty_right}
use Rattle.trace_text.specs.declared.fault.Cause.{Cause}
use Rattle.trace_text.specs.LineFaults.{unless}

-- the parts of an empty list, and an empty list of empty parts
pub parts : {A : Type 0} → (xs ys : List A) → xs ++ ys ≡ [] → (xs ≡ []) × (ys ≡ [])
parts xs ys h = (empty_left xs ys h, empty_right xs ys h)

pub joined : {A : Type 0} → (xs ys : List A) → xs ≡ [] → ys ≡ [] → xs ++ ys ≡ []
joined xs ys h k = rw (h, k) refl

-- a test that gives no fault
pub passes : (b : Bool) (cause : Cause) → unless b cause ≡ [] → b ≡ true
passes true cause h = refl
passes false cause h = cc

pub passed : (b : Bool) (cause : Cause) → b ≡ true → unless b cause ≡ []
passed true cause h = refl
passed false cause h = cc
