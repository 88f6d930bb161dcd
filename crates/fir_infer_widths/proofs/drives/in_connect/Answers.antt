use Rattle.std.proofs.Common.{[], ◌++◌, append_assoc}
use Rattle.std.proofs.lemmas.Result.{on_ok_weaker}
use Rattle.fir_ast.specs.working.Views.{expr_of, sink_of}
use Rattle.fir_meaning.specs.SizedScopes.{sink_expression, sized_type}
use Rattle.fir_meaning.specs.WidthRules.{connect_rules}
use Rattle.fir_types.specs.working.ModuleNotes.{connect_notes}
use Rattle.fir_types.specs.working.Notes.{expression_notes, reference_notes}
use Rattle.fir_infer_widths.specs.working.Spots.{spots_of_sink, spots_within}
use Rattle.fir_infer_widths.proofs.PlaceWalks.{enters_behind, enters_notes, still_then}
use Rattle.fir_infer_widths.proofs.drives.in_connect.Goals as goal

pub returns : goal.returns
returns c = λ k typed sized left t meant rules rest enters reaches has.
    let g = c.args.ground.now in
    let sink = sink_of c.args.sink.now in
    let e = expr_of c.args.source.now in
    let s = sized_type sized (sink_expression sink) in
    let next = expression_notes typed e ++ rest in
    let at = enters_notes g typed sized meant rules (connect_notes typed sink e ++ rest) (reference_notes typed sink ++ next) c.args.walk.now
    (append_assoc (reference_notes typed sink) (expression_notes typed e) rest) enters in
    let to = c.in_ok-driven.ensures k typed sized left meant rules next at reaches in
    on_ok_weaker c.in_driver.result
    (λ still.
    still_then k g meant rules next rest (spots_of_sink sized sink) (spots_within sized e) (connect_rules s (sized_type sized e)) c.args.walk.now c.in_reference.new.walk
    c.in_driver.new.walk s c.in_ok-driven.driven to still)
    (c.in_driver.ensures k typed sized s t (meant ++ to.comes.more) (rules ++ []) rest
    (enters_behind k g typed sized meant rules [] (reference_notes typed sink ++ next) next (spots_of_sink sized sink) c.args.walk.now c.in_reference.new.walk at to.comes) to.is has)
