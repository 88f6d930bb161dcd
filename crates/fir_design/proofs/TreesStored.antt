-- The designs of modules' views store at every path what the trees of their statements store there: numbers and clocks.
use Rattle.std.proofs.Common.{ℕ, [], Option, ap}
use Rattle.fir_meaning.specs.PathStores.{DesignStore, nothing_kept}
use Rattle.fir_meaning.specs.working.DesignStores.{clock_given, number_given}
use Rattle.fir_design.specs.working.SourceLaws.{ViewsClockAsTrees, ViewsStoreAsTrees}
use Rattle.fir_meaning.specs.SourceStores.{clock_gifts, number_gifts}
use Rattle.fir_design.proofs.ClockGifts.{clock_gives}
use Rattle.fir_design.proofs.NumberGifts.{number_gives}
use Rattle.fir_design.proofs.RunDesigns.{design_run}

pub views_store : ViewsStoreAsTrees
views_store c scenes s d tree holds env x names types are i is is_tree =
    ap (λ (store : DesignStore ℕ). store x)
    (design_run c names types scenes are holds env (number_given holds env) (number_gifts holds env) (number_gives holds env)
    d s tree [] nothing_kept i is
    is_tree)

pub views_clock : ViewsClockAsTrees
views_clock c scenes s d tree holds env clocks x names types are i is is_tree =
    ap (λ (store : DesignStore (Option ℕ)). store x)
    (design_run c names types scenes are holds env (clock_given holds env clocks) (clock_gifts holds env clocks) (clock_gives holds env clocks)
    d s tree []
    nothing_kept i is is_tree)
