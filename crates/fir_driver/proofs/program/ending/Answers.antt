use Rattle.fir_words.specs.Commands.{asked_by}
use Rattle.fir_driver.proofs.WordsEnded.{memory_said}
use Rattle.fir_driver.proofs.program.ending.Goals as goal

pub returns-in-Err : goal.returns-in-Err
returns-in-Err g c =
    memory_said (g.F.Files.seen c.args.files.now) (g.S.Sink.seen c.args.out.now) (g.T.Sink.seen c.args.err.now)
    (g.T.Sink.seen c.say-in-Err.new.err) (asked_by c.args.words.now) c.say-in-Err.result c.say-in-Err.ensures
