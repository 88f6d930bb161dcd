use Rattle.ver_parse.proofs.TextLaws.{tree_or_fault}
use Rattle.ver_parse.proofs.laws.text_has_tree_or_fault.Goals as goal

pub returns : goal.returns
returns c bytes = tree_or_fault c.texts_have_tokens_or_stop_once.ensures.either bytes
