-- What holds of each leaf and node where it holds of all that it hangs on, holds of all.
use Rattle.std.proofs.Common.{◌≡◌, ℕ, zero, suc, ◌<◌, List, arith, Some}
use Rattle.std.specs.Prelude.{slice_get}
use Rattle.fir_net.specs.declared.reads.Read.{Read}
use Rattle.fir_net.specs.declared.net.FlatNet.{FlatNet}
use Rattle.fir_net.specs.working.Dependence.{IsOf, Reads}
use Rattle.fir_net.specs.working.IsOrder.{IsOrder}

module _ (net : FlatNet) (order : List Read) (is : IsOrder net order) (P : Read → Type 0)
    (step : (v : Read) → IsOf net v → ((w : Read) → Reads net v w → P w) → P v) where
  first : (n i : ℕ) (v : Read) → i < n → slice_get order i ≡ Some v → P v
  first zero i v h at = absurd (omega arith)
  first (suc n) i v h at = step v (is.only i v at) (λ w r. let b = is.after i v w at r in first n b.0 w (omega (arith, b.1)) b.2)

  pub along_order : (v : Read) → IsOf net v → P v
  along_order v of = let i = is.all v of in first (suc i.0) i.0 v (omega arith) i.1
