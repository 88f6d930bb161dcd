use Rattle.std.proofs.Common.{◌∙◌, sym}
use Rattle.ver_valid.proofs.GrownDrivers.{drives_more}
use Rattle.ver_valid.proofs.driven.Driven.drive.Goals as goal

pub returns-clause-driven : goal.returns-clause-driven
returns-clause-driven c =
    λ ns d. drives_more c.args.self.now (record { names = c.insert.new.self }) ns c.args.name.now c.in_ok-name.name c.in_ok-insert.ensures.keys
    (c.in_ok-name.ensures.items ∙ c.as_bytes.ensures) (sym c.has.ensures ∙ c.if-has.false) d
