-- The graph of all that is joined in a circuit.
use Rattle.std.specs.Prelude.{List}
use Rattle.fir_ast.specs.Circuits.{CircuitTree}
use Rattle.fir_infer_resets.specs.declared.joined.Joined.{Joined}
use Rattle.fir_infer_resets.specs.working.FoundKinds.{AllButShared}
use Rattle.fir_infer_resets.specs.working.Holding.{Holds}
use Rattle.fir_meaning.specs.ResetJoins.{Join}

-- all joins stand in it, but those of leaves of one class
pub record IsWhole (c : CircuitTree) (joined : Joined) : Type 0 where
  pub listed : List Join
  pub all : AllButShared c listed
  pub holds : Holds c listed joined
