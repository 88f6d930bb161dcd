-- Tests that give no fault.
use Rattle.std.proofs.Common.{◌≡◌, [], ◌∷◌, Bool, true, false, if◌then◌else◌, refl}

pub passes : {A : Type 0} → (b : Bool) (f : A) → (if b then [] else (f ∷ [])) ≡ [] → b ≡ true
passes true f h = refl
passes false f h = cc

pub fails : {A : Type 0} → (b : Bool) (f : A) → (if b then f ∷ [] else []) ≡ [] → b ≡ false
fails true f h = cc
fails false f h = refl
