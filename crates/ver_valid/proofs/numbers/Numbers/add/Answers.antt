use Rattle.std.proofs.Common.{◌∙◌}
use Rattle.ver_valid.proofs.Numbering.{numbering_more}
use Rattle.ver_valid.proofs.numbers.Numbers.add.Goals as goal

pub returns : goal.returns
returns c = λ names last t.
    numbering_more names c.args.name.now c.args.self.now (record { numbers = c.insert.new.self }) c.in_ok-name.name c.args.number c.in_ok-insert.ensures.entries
    (c.in_ok-name.ensures.items ∙ c.as_bytes.ensures) last t
