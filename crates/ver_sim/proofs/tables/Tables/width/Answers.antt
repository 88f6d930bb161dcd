use Rattle.std.proofs.Common.{List, ℕ, ap, sym, ◌∙◌}
use Rattle.std.specs.Prelude.{slice_index}
use Rattle.ver_sim.proofs.KnownNames.{width_found, no_width}
use Rattle.ver_sim.proofs.tables.Tables.width.Goals as goal

pub returns-in-Some : goal.returns-in-Some
returns-in-Some c v k m =
    c.width_at.ensures ∙ ap (λ (ws : List ℕ). slice_index ws c.in-Some.place) c.as_slice.ensures.value
    ∙ width_found v c.args.self.now k c.args.name.now c.in-Some.place (sym c.number.ensures ∙ c.in-Some.is) m

pub returns-in-None : goal.returns-in-None
returns-in-None c v k m = no_width v c.args.self.now k c.args.name.now (sym c.number.ensures ∙ c.in-None.is) m
