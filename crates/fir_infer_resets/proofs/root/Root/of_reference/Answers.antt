use Rattle.std.proofs.Common.{List, ℕ, map, sym, ap, ◌∙◌}
use Rattle.fir_ast.specs.Statements.{SinkReference}
use Rattle.fir_types.specs.declared.note.Pick.{Pick}
use Rattle.fir_types.proofs.PartViews.{sink_view}
use Rattle.fir_infer_resets.specs.declared.root.Access.TheVariants.{Fixed}
use Rattle.fir_infer_resets.specs.declared.root.Root.TheVariants.{Leaf}
use Rattle.fir_infer_resets.specs.working.FirstEnds.{access_behind}
use Rattle.fir_infer_resets.proofs.root.Root.of_reference.Goals as goal

pub returns : goal.returns
returns c =
    let r = c.args.reference.now in
    let lengths : List Pick → List ℕ = map (λ (p : Pick). p.length) in
    record {
      path = c.in_ok-path.path;
      place = c.place_declared-place.result;
      is =
          ap (Leaf c.in_ok-path.path c.place_declared-place.result)
          (c.picked-access.ensures ∙ ap (λ l. access_behind r.place Fixed (lengths l)) c.as_slice.ensures.value
          ∙ ap (λ (s : SinkReference). access_behind s.place Fixed (lengths c.args.range.now.picks.items)) (sym (sink_view r)));
      steps = c.in_ok-path.ensures;
      declared = c.place_declared-place.ensures;
    }
