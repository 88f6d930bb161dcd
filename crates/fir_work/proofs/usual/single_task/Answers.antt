use Rattle.std.proofs.Common.{subst}
use Rattle.std.specs.List.{AllByRecursion}
use Rattle.fir_net.specs.working.IsNet.{CanRead}
use Rattle.fir_work.proofs.Operations.{single_width, single_task}
use Rattle.fir_work.proofs.WholeReads.{read_of}
use Rattle.fir_work.proofs.usual.single_task.Goals as goal

pub single_work-requires : goal.single_work-requires
single_work-requires c =
    rw (c.integer-n.ensures, c.integer-m.ensures, c.as_slice-integers.ensures, c.type_read.ensures)
    (single_width c.args.net.now c.args.operation.now c.requires.is c.args.a.now c.requires.reads)

pub place-requires : goal.place-requires
place-requires c =
    let net = c.args.net.now in
    read_of net c.args.a.now (subst (AllByRecursion (CanRead net.leaves net.nodes)) c.requires.reads c.requires.is.reads).0

pub returns : goal.returns
returns c =
    rw c.place.ensures
    (single_task c.args.net.now c.args.operation.now c.requires.is c.args.a.now c.requires.reads c.in_ok-work.work
    (rw (c.integer-n.ensures, c.integer-m.ensures, c.as_slice-integers.ensures, c.type_read.ensures) at c.in_ok-work.ensures))
