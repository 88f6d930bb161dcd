use Rattle.std.proofs.Common.{subst, refl}
use Rattle.fir_ast.specs.Types.{clock}
use Rattle.fir_type_table.specs.working.Fits.{IsTable}
use Rattle.fir_type_table.proofs.GrownTables.{held_adds}
use Rattle.fir_type_table.proofs.table.TypeTable.clock.Goals as goal

pub returns : goal.returns
returns c = let adds = held_adds c.args.self.now 2 clock (subst IsTable c.self.view_is c.self.invariant) refl in adds.held
