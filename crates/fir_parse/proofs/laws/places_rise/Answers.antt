use Rattle.fir_parse.proofs.StatementPlaces.{places_rise}
use Rattle.fir_parse.proofs.laws.places_rise.Goals as goal

pub returns : goal.returns
returns c = places_rise c.lexed_form_by_form.ensures
