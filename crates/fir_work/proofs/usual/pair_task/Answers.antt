use Rattle.std.proofs.Common.{subst}
use Rattle.std.specs.List.{AllByRecursion}
use Rattle.fir_net.specs.working.IsNet.{CanRead}
use Rattle.fir_work.proofs.Operations.{pair_width, pair_task}
use Rattle.fir_work.proofs.WholeReads.{read_of}
use Rattle.fir_work.proofs.usual.pair_task.Goals as goal

pub pair_work-requires : goal.pair_work-requires
pair_work-requires c =
    rw (c.type_read-first.ensures, c.type_read-second.ensures)
    (pair_width c.args.net.now c.args.operation.now c.requires.is c.args.a.now c.args.b.now c.requires.reads)

pub place-requires : goal.place-requires
place-requires c =
    let net = c.args.net.now in
    read_of net c.args.a.now (subst (AllByRecursion (CanRead net.leaves net.nodes)) c.requires.reads c.requires.is.reads).0

pub place-requires-2 : goal.place-requires-2
place-requires-2 c =
    let net = c.args.net.now in
    read_of net c.args.b.now (subst (AllByRecursion (CanRead net.leaves net.nodes)) c.requires.reads c.requires.is.reads).1.0

pub returns : goal.returns
returns c =
    rw (c.place.ensures, c.place-2.ensures)
    (pair_task c.args.net.now c.args.operation.now c.requires.is c.args.a.now c.args.b.now c.requires.reads c.in_ok-work.work
    (rw (c.type_read-first.ensures, c.type_read-second.ensures) at c.in_ok-work.ensures))
