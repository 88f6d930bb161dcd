use Rattle.std.proofs.Common.{length}
use Rattle.fir_type_table.specs.working.Tables.{types_of}
use Rattle.fir_type_table.proofs.table.TypeTable.add_bundle.Goals as goal

pub put-requires : goal.put-requires
put-requires c = c.in_ok-entry.ensures.fits (length (types_of c.args.self.now)) c.requires
