use Rattle.fir_flatten.proofs.PlainDesigns.{designs_plain}
use Rattle.fir_flatten.proofs.plain_laws.designs_are_plain.Goals as goal

pub returns : goal.returns
returns c =
    designs_plain c.has_one_tree.ensures c.designs_are_typed.ensures c.designs_are_driven.ensures c.words_show_state.ensures c.no_word_is_left_out.ensures
    c.words_stand_once.ensures c.leafed_ports_show_no_state.ensures c.designs_have_typed_memories.ensures c.no_array_is_left_out.ensures c.arrays_stand_once.ensures
    c.arrays_have_bits.ensures
