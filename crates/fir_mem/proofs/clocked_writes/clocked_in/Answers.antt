use Rattle.std.proofs.Common.{List, subst, sym}
use Rattle.fir_net.specs.declared.array.ArrayWrite.{ArrayWrite}
use Rattle.fir_mem.specs.declared.clocked_writes.PortWrite.{PortWrite}
use Rattle.fir_mem.specs.working.ClockedWrites.{AreClocked}
use Rattle.fir_mem.proofs.clocked_writes.clocked_in.Goals as goal

pub returns : goal.returns
returns c = record {
  end = c.end_of.ensures;
  writes =
      subst (λ (ps : List PortWrite). AreClocked c.args.net.now c.args.array.now.writes ps) (sym c.from_vec.ensures)
      (subst (λ (ws : List ArrayWrite). AreClocked c.args.net.now ws c.in_ok-writes.writes.items) c.as_slice.ensures c.in_ok-writes.ensures);
}
