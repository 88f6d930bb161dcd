use Rattle.std.proofs.Common.{◌∙◌}
use Rattle.ver_check.proofs.GrownScopes.{drives_more}
use Rattle.ver_check.proofs.drivers.Drivers.drive.Goals as goal

pub returns : goal.returns
returns c =
    λ ds k free. drives_more c.args.self.now (record { names = c.insert.new.self }) ds c.args.name.now c.args.place _ c.in_ok-insert.ensures.entries
    (c.in_ok-name.ensures.items ∙ c.as_bytes.ensures) free k
