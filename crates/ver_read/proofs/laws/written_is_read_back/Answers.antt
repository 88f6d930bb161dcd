use Rattle.ver_read.proofs.ReadBack.{written_is_read_back}
use Rattle.ver_read.proofs.laws.written_is_read_back.Goals as goal

pub returns : goal.returns
returns c = written_is_read_back c.spells_one_tree.ensures c.places_count_for_nothing.ensures c.layout_is_spelled.ensures c.refused_is_not_valid.ensures
