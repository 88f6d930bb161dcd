use Rattle.std.proofs.Common.{[], ◌++◌, append_assoc}
use Rattle.std.specs.Prelude.{Some}
use Rattle.std.proofs.lemmas.Result.{on_ok_weaker}
use Rattle.fir_ast.specs.working.Views.{reset_of}
use Rattle.fir_meaning.specs.SizedScopes.{sized_type}
use Rattle.fir_meaning.specs.WidthRules.{init_rules}
use Rattle.fir_types.specs.working.ModuleNotes.{reset_notes}
use Rattle.fir_types.specs.working.Notes.{expression_notes}
use Rattle.fir_infer_widths.specs.working.Spots.{spots_of_condition, spots_within}
use Rattle.fir_infer_widths.specs.working.Walks.{types_in}
use Rattle.fir_infer_widths.proofs.PlaceWalks.{enters_behind, enters_notes, still_then}
use Rattle.fir_infer_widths.proofs.Standing.{side_more}
use Rattle.fir_infer_widths.proofs.drives.in_reset.Goals as goal

pub returns : goal.returns
returns c =
    rw c.in-Some.is
    (λ k typed sized s t meant rules rest enters is legal.
    let g = c.args.ground.now in
    let r = reset_of c.in-Some.reset in
    let next = expression_notes typed r.init ++ rest in
    let u = sized_type sized r.condition in
    let at = enters_notes g typed sized meant rules (reset_notes typed (Some r) ++ rest) (expression_notes typed r.condition ++ next) c.args.walk.now
    (append_assoc (expression_notes typed r.condition) (expression_notes typed r.init) rest) enters in
    let to = c.in_ok-in_condition.ensures k typed sized legal.0 meant rules next at legal.2 in
    on_ok_weaker c.in_driver.result
    (λ still.
    still_then k g meant rules next rest (spots_of_condition sized r.condition) (spots_within sized r.init) (init_rules s sized (Some r)) c.args.walk.now c.in_condition.new.walk
    c.in_driver.new.walk u c.in_ok-in_condition.field-0 to still)
    (c.in_driver.ensures k typed sized s legal.1 (meant ++ to.comes.more) (rules ++ []) rest
    (enters_behind k g typed sized meant rules [] (expression_notes typed r.condition ++ next) next (spots_of_condition sized r.condition) c.args.walk.now c.in_condition.new.walk at to.comes)
    (side_more (types_in g) meant to.comes.more c.args.register s is) legal.4))
