use Rattle.std.proofs.Common.{sym, ◌∙◌}
use Rattle.ver_sim.proofs.Ticking.{ticked}
use Rattle.ver_sim.proofs.sim.VSim.tick.Goals as goal

pub returns-clause-allows : goal.returns-clause-allows
returns-clause-allows c =
    ticked c.args.self.now c.set.new.self c.rest.new.self c.take.new.self c.args.tick.now.tick c.set.ensures.tree c.set.ensures.state c.set.ensures.sources
    c.rest.ensures.tree c.rest.ensures.state c.rest.ensures.valid c.rest.ensures.rest (sym c.no_value.ensures ∙ c.in_default.is)
    c.take.ensures.outputs c.take.ensures.next
