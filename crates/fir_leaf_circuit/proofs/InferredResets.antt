-- What is found under the number of a Reset.
use Rattle.std.proofs.Common.{◌≡◌, ℕ, List, Bool, true, false, Option, Some, None, ap}
use Rattle.std.specs.Prelude.{◌↔◌, IsTrue, slice_get, unwrap_or}
use Rattle.fir_ast.specs.Circuits.{CircuitTree}
use Rattle.fir_meaning.specs.ResetItems.{End}
use Rattle.fir_meaning.specs.ResetWalks.{IsAsynchronous, IsLeafOf, IsReset}
use Rattle.fir_reset.specs.working.Inferred.{AreInferred, leaf_number}

read_true : (o : Option Bool) → unwrap_or o false ≡ true → o ≡ Some true
read_true None h = cc
read_true (Some b) h = ap Some h

-- of a Reset under its number
pub answers_number : (c : CircuitTree) (found : List Bool) → AreInferred c found → (e : End) (n : ℕ) → IsLeafOf c e → IsReset e
    → leaf_number c e.item ≡ Some n
    → IsTrue (unwrap_or (slice_get found n) false) ↔ IsAsynchronous c e
answers_number c found inferred e n leaf resets is =
    let told = inferred.each e n leaf resets is in
    ((λ h. told.1 (read_true (slice_get found n) h)), (λ a. ap (λ o. unwrap_or o false) (told.0 a)))
