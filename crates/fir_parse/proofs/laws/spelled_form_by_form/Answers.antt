use Rattle.fir_parse.proofs.FormsReadCircuits.{forms_read}
use Rattle.fir_parse.proofs.FormsSpelled.{forms_found}
use Rattle.fir_parse.proofs.laws.spelled_form_by_form.Goals as goal

pub returns : goal.returns
returns c limits end ts t = (forms_found limits end ts t, forms_read limits end ts t)
