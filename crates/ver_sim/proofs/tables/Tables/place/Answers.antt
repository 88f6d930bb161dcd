use Rattle.std.proofs.Common.{ℕ, ap, ◌∙◌}
use Rattle.std.specs.Prelude.{Option, unwrap_or}
use Rattle.ver_sim.proofs.KnownNames.{place_found}
use Rattle.ver_sim.proofs.tables.Tables.place.Goals as goal

pub returns : goal.returns
returns c v k m =
    c.unwrap_or.ensures ∙ ap (λ (o : Option ℕ). unwrap_or o 0) c.number.ensures ∙ place_found v c.args.self.now k c.args.name.now m
