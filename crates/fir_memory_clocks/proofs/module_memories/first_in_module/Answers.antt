use Rattle.fir_memory_clocks.proofs.RootsOfModules.{clocks_alike}
use Rattle.fir_memory_clocks.proofs.module_memories.first_in_module.Goals as goal

pub returns : goal.returns
returns c = λ m view is clear.
    c.first_memory.ensures m (record {
      view = view;
      is_clear = clear;
      each = clocks_alike m clear c.args.net.now is c.deref-2.result.now (rw c.deref-2.ensures.value (rw c.deref.ensures.value at c.in_ok-roots.ensures));
    })
