use Rattle.std.proofs.Common.{subst, refl}
use Rattle.fir_meaning.specs.MemoryTypes.{bit}
use Rattle.fir_type_table.specs.working.Fits.{IsTable}
use Rattle.fir_type_table.proofs.GrownTables.{held_adds}
use Rattle.fir_type_table.proofs.table.TypeTable.bit.Goals as goal

pub returns : goal.returns
returns c = let adds = held_adds c.args.self.now 5 bit (subst IsTable c.self.view_is c.self.invariant) refl in adds.held
