use Rattle.std.proofs.Common.{length}
use Rattle.fir_type_table.specs.working.Tables.{types_of}
use Rattle.fir_type_table.proofs.table.TypeTable.add_scalar.Goals as goal

pub put-requires : goal.put-requires
put-requires c = c.scalar_entry.ensures.fits c.requires (types_of c.args.self.now) (length (types_of c.args.self.now))
