use Rattle.std.proofs.Common.{None, Some, ap, sym, ◌∙◌}
use Rattle.fir_ast.specs.Statements.{SinkReference}
use Rattle.fir_ast.specs.working.Views.{circuit_of}
use Rattle.fir_meaning.specs.Components.{find}
use Rattle.fir_meaning.specs.Mentions.{module_names}
use Rattle.fir_meaning.specs.Visibility.{declarations}
use Rattle.fir_types.proofs.PartViews.{sink_view}
use Rattle.fir_meaning.specs.ResetItems.{declared_at}
use Rattle.fir_infer_resets.proofs.NamedPlaces.{place_found}
use Rattle.fir_infer_resets.proofs.root.place_declared.Goals as goal

pub returns-in-Some-find_near : goal.returns-in-Some-find_near
returns-in-Some-find_near c = λ m there.
    let r = c.args.reference.now in
    place_found (module_names (circuit_of c.args.named.now)) c.in-Some.names.now (declarations m) r.name r.place (Some c.in-Some-find_near.declaration.now)
    (c.in-Some.ensures m there) c.in-Some-find_near.ensures
    ∙ ap (λ (s : SinkReference). declared_at s.place (find (declarations m) s.name)) (sym (sink_view r))

pub returns-in-None : goal.returns-in-None
returns-in-None c = λ m there.
    let r = c.args.reference.now in
    place_found (module_names (circuit_of c.args.named.now)) c.in-Some.names.now (declarations m) r.name r.place None
    (c.in-Some.ensures m there) c.in-None.ensures
    ∙ ap (λ (s : SinkReference). declared_at s.place (find (declarations m) s.name)) (sym (sink_view r))
