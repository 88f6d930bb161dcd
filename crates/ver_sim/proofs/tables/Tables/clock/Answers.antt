use Rattle.fir_base.proofs.Elements.{number_of}
use Rattle.fir_base.proofs.Members.{in_right}
use Rattle.ver_ast.specs.Nets.{nets, clocks, names_of}
use Rattle.ver_sim.specs.working.Valued.{valued}
use Rattle.ver_sim.proofs.BlockForms.{clock_number}
use Rattle.ver_sim.proofs.tables.Tables.clock.Goals as goal

pub returns : goal.returns
returns c v k m env shown =
    let i = number_of (valued v) c.args.name.now (in_right (names_of (nets v)) (clocks v) c.args.name.now m) in
    clock_number v c.args.self.now k c.args.name.now c.place.result c.net_count.result c.saturating_sub.result c.place.ensures (c.net_count.ensures v k) c.saturating_sub.ensures m i.0 i.1 env shown
