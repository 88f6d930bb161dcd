use Rattle.std.proofs.Common.{rules}
use Rattle.fir_io.proofs.Prefixes.{grew_front}
use Rattle.fir_io.proofs.mem_sink.MemSinkSink.put.Goals as goal

pub returns-in-Some-Failed-clause-puts : goal.returns-in-Some-Failed-clause-puts
returns-in-Some-Failed-clause-puts c =
    rw (← c.self.view_is)
    (record {
      later = search rules;
      empty = search rules;
      shows = (search rules, grew_front _ _ _ _ c.append_front.ensures.grew);
    })
