use Rattle.ver_ast.specs.working.Laws.{with_places}
use Rattle.ver_ast.proofs.SamePlaces.{moved_valid, moved_one, moved_allowance}
use Rattle.ver_ast.proofs.laws.places_count_for_nothing.Goals as goal

pub returns : goal.returns
returns c v places =
    let back = with_places v places in (
      (moved_valid v places, moved_valid back v.places),
      (moved_one v places, moved_one back v.places),
      (λ state tick shown clocks next. (moved_allowance v places state tick shown clocks next, moved_allowance back v.places state tick shown clocks next)),
    )
