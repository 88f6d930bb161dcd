use Rattle.std.proofs.Common.{◌≡◌, ℕ, List, sym, ap, ◌∙◌, subst}
use Rattle.std.specs.Prelude.{slice_get}
use Rattle.std.proofs.lemmas.Option.{same_Some}
use Rattle.fir_base.specs.Lists.{In}
use Rattle.ver_loop.specs.Loops.{item_gives}
use Rattle.ver_loop.proofs.Givers.{first_given}
use Rattle.ver_loop.proofs.giver.first_place.Goals as goal

pub giving_place-requires : goal.giving_place-requires
giving_place-requires c =
    let given = first_given c.args.v.now c.args.walk.now c.requires in
    let first : c.requires.first ≡ c.in-Some.first.now =
    same_Some c.requires.first c.in-Some.first.now (sym (ap (λ (ns : List (List ℕ)). slice_get ns 0) c.requires.walk_is) ∙ sym c.in-Some.ensures.value) in
    (given.0, given.1, subst (In (item_gives given.0)) first given.2)
