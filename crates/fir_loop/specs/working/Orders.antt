-- What comes of ordering a net: an order, and then no closed walk exists and every state and tick has one choice of values; or a closed walk.
use Rattle.std.specs.Prelude.{ℕ, List, Result, Ok, Err}
use Rattle.fir_base.specs.declared.refused.Refused.{Refused}
use Rattle.fir_base.specs.declared.refused.Refused.TheVariants.{Fault, Memory}
use Rattle.fir_ast.specs.declared.fault.FirFault.{FirFault}
use Rattle.fir_net.specs.declared.reads.Read.{Read}
use Rattle.fir_net.specs.declared.net.FlatNet.{FlatNet}
use Rattle.fir_net.specs.working.IsOrder.{IsOrder}
use Rattle.fir_net.specs.working.One.{One}
use Rattle.fir_loop.specs.working.IsLoop.{IsLoop, ShowsLoop}

pub record IsOrdered (net : FlatNet) (entries : List Read) : Type 0 where
  pub order : IsOrder net entries
  pub one : One net
  pub no_loop : (walk : List ℕ) → IsLoop net walk → ⊥

abbrev pub Orders : FlatNet → Result (List Read) (Refused FirFault) → Type 0
Orders net (Ok order) = IsOrdered net order
Orders net (Err (Fault f)) = ShowsLoop net f
Orders net (Err Memory) = Unit {0}
