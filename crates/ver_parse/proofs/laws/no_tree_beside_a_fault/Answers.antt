use Rattle.ver_parse.proofs.TextLaws.{no_text_tree}
use Rattle.ver_parse.proofs.laws.no_tree_beside_a_fault.Goals as goal

pub returns : goal.returns
returns c bytes v f = no_text_tree c.tokens_have_one_place.ensures c.texts_have_tokens_or_stop_once.ensures.never_both bytes v f
