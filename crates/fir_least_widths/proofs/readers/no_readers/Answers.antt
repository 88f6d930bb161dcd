use Rattle.std.proofs.Common.{arith}
use Rattle.fir_least_widths.proofs.NotedReaders.{none_more}
use Rattle.fir_least_widths.proofs.readers.no_readers.Goals as goal

pub loop-preserved : goal.loop-preserved
loop-preserved c =
    record {
      long = omega (arith, c.in_ok-push.ensures.len, c.loop.invariant.long, c.push.new.self.ok.0, c.loop.readers.ok.0);
      none = rw c.in_ok-push.ensures.items (none_more c.loop.readers.items c.new.result c.new.ensures.items c.loop.invariant.none);
    }
