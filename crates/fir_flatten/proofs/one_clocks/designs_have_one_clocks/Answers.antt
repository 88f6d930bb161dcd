use Rattle.fir_flatten.proofs.OneClocks.{designs_have_one_clocks}
use Rattle.fir_flatten.proofs.one_clocks.designs_have_one_clocks.Goals as goal

pub returns : goal.returns
returns c =
    designs_have_one_clocks
    (record {
      one_tree = c.has_one_tree.ensures;
      stand = c.copies_stand.ensures;
      give = c.copies_give_all.ensures;
      arrays = c.arrays_are_of_modules.ensures;
      memories = c.clocks_are_of_memories.ensures;
    })
