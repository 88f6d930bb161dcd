use Rattle.fir_parse.proofs.TextLaws.{one_tree}
use Rattle.fir_parse.proofs.laws.spells_one_tree.Goals as goal

pub returns : goal.returns
returns c bytes a b p q = one_tree c.lexed_form_by_form.ensures bytes a b p q
