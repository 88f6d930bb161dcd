use Rattle.std.proofs.lemmas.Option.{slice_get_read}
use Rattle.fir_least_widths.proofs.NotedReaders.{noted}
use Rattle.fir_least_widths.proofs.readers.note.Goals as goal

pub returns : goal.returns
returns c =
    noted c.args.readers.now.items c.args.unknown c.args.place c.index_mut.result.now c.push.new.self
    (slice_get_read c.args.readers.now.items _ c.args.unknown c.index_mut.result.now (c.args.readers.now.ok.0) c.requires c.index_mut.ensures.value)
    c.in_ok-push.ensures.items
