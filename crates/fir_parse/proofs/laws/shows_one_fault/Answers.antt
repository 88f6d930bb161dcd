use Rattle.fir_parse.proofs.TextLaws.{one_text_fault}
use Rattle.fir_parse.proofs.laws.shows_one_fault.Goals as goal

pub returns : goal.returns
returns c bytes f g p q = one_text_fault c.lexed_form_by_form.ensures c.faults_form_by_form.ensures bytes f g p q
