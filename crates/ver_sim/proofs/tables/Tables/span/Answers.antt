use Rattle.std.proofs.Common.{List, ap, sym, ◌∙◌}
use Rattle.std.specs.Prelude.{Option, unwrap_or, slice_get}
use Rattle.ver_sim.specs.declared.declarations.Span.{Span}
use Rattle.ver_sim.proofs.KnownNames.{span_found}
use Rattle.ver_sim.proofs.tables.Tables.span.Goals as goal

pub returns-in-Some : goal.returns-in-Some
returns-in-Some c v k m =
    c.unwrap_or.ensures ∙ ap (λ (o : Option Span). unwrap_or o (record { base = 0; depth = 0 })) (c.span_at.ensures ∙ ap (λ (ss : List Span). slice_get ss c.in-Some.place) c.as_slice.ensures.value)
    ∙ span_found v c.args.self.now k c.args.name.now c.in-Some.place (record { base = 0; depth = 0 }) (sym c.number.ensures ∙ c.in-Some.is)
