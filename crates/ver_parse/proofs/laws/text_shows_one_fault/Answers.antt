use Rattle.ver_parse.proofs.TextLaws.{one_text_fault}
use Rattle.ver_parse.proofs.laws.text_shows_one_fault.Goals as goal

pub returns : goal.returns
returns c bytes f g = one_text_fault c.tokens_have_one_place.ensures c.texts_have_tokens_or_stop_once.ensures.never_both c.texts_have_tokens_or_stop_once.ensures.once bytes f g
