-- What `sim` makes of a text.
use Rattle.std.specs.Prelude.{ℕ, List}
use Rattle.fir_net.specs.working.IsOrder.{IsOrder}
use Rattle.fir_compile.specs.working.Made.{IsMadeOf}
use Rattle.fir_commands.specs.declared.sim.SimNet.{SimNet}

-- the circuit's net, in an order
pub record IsNetOf (text : List ℕ) (m : SimNet) : Type 0 where
  pub made : IsMadeOf text m.compiled.net m.shape
  pub in_order : IsOrder m.compiled.net m.compiled.order
