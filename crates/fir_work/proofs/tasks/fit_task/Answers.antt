use Rattle.fir_work.proofs.WholeReads.{read_of, read_narrow}
use Rattle.fir_work.proofs.tasks.fit_task.Goals as goal

pub fit_work-work-requires-clause-narrow : goal.fit_work-work-requires-clause-narrow
fit_work-work-requires-clause-narrow c = rw c.type_read.ensures (read_narrow c.args.net.now c.requires.whole c.args.read c.requires.can)

pub place-first-requires : goal.place-first-requires
place-first-requires c = read_of c.args.net.now c.args.read c.requires.can
