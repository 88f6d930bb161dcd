use Rattle.ver_build.proofs.OtherPlaces.{has_any_places}
use Rattle.ver_build.proofs.laws.built_has_any_places.Goals as goal

pub returns : goal.returns
returns c = has_any_places c.places_count_for_nothing.ensures
