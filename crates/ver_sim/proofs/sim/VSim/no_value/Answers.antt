use Rattle.std.proofs.Common.{sym, subst}
use Rattle.ver_sim.specs.working.Blocks.{IsRising}
use Rattle.ver_sim.proofs.RisingClocks.{clocks_rise}
use Rattle.ver_sim.proofs.sim.VSim.no_value.Goals as goal

pub first_place-requires : goal.first_place-requires
first_place-requires c = subst IsRising (sym c.clocks.ensures) (clocks_rise 0 _ c.args.tick.now.tick.clocks c.requires.clocks_rise)
