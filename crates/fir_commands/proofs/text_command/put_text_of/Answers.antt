use Rattle.fir_cli.specs.Outside.{IsRead, outside}
use Rattle.fir_commands.proofs.TextEnded.{untaken_ended, text_ended}
use Rattle.fir_commands.proofs.text_command.put_text_of.Goals as goal

pub returns-in-Ok : goal.returns-in-Ok
returns-in-Ok g c =
    let read : IsRead c.args.name.now (outside (g.F.Files.seen c.args.files.now) (g.S.Sink.seen c.args.out.now) (g.T.Sink.seen c.args.err.now)) c.in-Ok.bytes.items =
    record { told = c.in-Ok.ensures.shows.2; short = c.in-Ok.ensures.shows.0 } in
    text_ended g.C.TextCommand.says c.args.name.now _ _ _ _ _ _ c.in-Ok.bytes.items _ read (rw c.as_slice.ensures.value at c.write_text_of.ensures)

pub returns-in-Err : goal.returns-in-Err
returns-in-Err g c =
    untaken_ended g.C.TextCommand.says c.args.name.now (g.F.Files.seen c.args.files.now) (g.F.Files.seen c.read.new.self) _ _ _ c.in-Err.fault _ c.in-Err.ensures.shows c.say_unread.ensures
