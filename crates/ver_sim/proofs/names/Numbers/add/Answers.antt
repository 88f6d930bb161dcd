use Rattle.ver_sim.proofs.Numbering.{numbering_more}
use Rattle.ver_sim.proofs.names.Numbers.add.Goals as goal

pub returns : goal.returns
returns c = λ names last t.
    numbering_more names c.args.name.now c.args.self.now (record { numbers = c.insert.new.self }) c.in_ok-copy.field-0 c.args.number c.in_ok-insert.ensures.updates
    c.in_ok-copy.ensures last t
