use Rattle.std.proofs.Common.{sym, ◌∙◌}
use Rattle.std.proofs.lemmas.Bool.{eqb-true}
use Rattle.ver_build.proofs.NotedPlaces.{nowhere_kept}
use Rattle.ver_build.proofs.node_places.make_room.Goals as goal

pub returns : goal.returns
returns c =
    λ room.
    nowhere_kept c.args.leaves.now c.args.places.now.items c.put_nowhere.new.places.items
    (sym c.args.places.now.ok.0 ∙ eqb-true _ _ (sym c.is_empty.ensures ∙ c.if-not-is_empty.false)) c.in_ok-put_nowhere.ensures
