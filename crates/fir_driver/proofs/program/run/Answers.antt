use Rattle.fir_cli.specs.Outside.{outside}
use Rattle.fir_driver.proofs.Answered.{answers}
use Rattle.fir_driver.proofs.program.run.Goals as goal

pub returns-clause-headline : goal.returns-clause-headline
returns-clause-headline g c = (c.ending.result, c.code.ensures, rw c.as_slice.ensures.value at c.ending.ensures)

pub returns-clause-complete : goal.returns-clause-complete
returns-clause-complete g c =
    rw c.code.ensures
    (answers c.spells_one_tree.ensures c.has_tree_or_fault.ensures c.spelled_is_not_bad.ensures c.spells_one_trace.ensures c.shows_one_bad_line.ensures
    c.spells_one_tree-2.ensures c.refused_is_not_valid.ensures c.lacked_does_not_run.ensures c.args.words.now.items
    (outside (g.F.Files.seen c.args.files.now) (g.S.Sink.seen c.args.out.now) (g.T.Sink.seen c.args.err.now))
    (outside (g.F.Files.seen c.ending.new.files) (g.S.Sink.seen c.ending.new.out) (g.T.Sink.seen c.ending.new.err)) c.ending.result
    (rw c.as_slice.ensures.value at c.ending.ensures))
