use Rattle.std.proofs.Common.{refl}
use Rattle.fir_infer_widths.proofs.ArenaGrows.{keeps_unknown}
use Rattle.fir_infer_widths.proofs.arena.Arena.push_unknown.Goals as goal

pub returns : goal.returns
returns c = λ meant rules k. keeps_unknown meant rules c.args.self.now (record { written = c.push.new.self; bounds = c.args.self.now.bounds }) k c.in_ok-push.ensures.items refl
