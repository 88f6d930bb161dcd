use Rattle.std.proofs.Common.{◌∙◌, subst}
use Rattle.fir_type_table.specs.working.Fits.{IsTable}
use Rattle.fir_type_table.proofs.EntriesRead.{read_by_get}
use Rattle.fir_type_table.proofs.table.TypeTable.entry.Goals as goal

pub returns : goal.returns
returns c =
    read_by_get c.args.self.now c.deref.result.now c.args.id.number c.get.result (subst IsTable c.self.view_is c.self.invariant)
    (c.deref.ensures.value ∙ c.self.view_is) c.get.ensures.lookup
