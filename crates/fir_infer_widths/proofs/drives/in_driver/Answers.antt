use Rattle.std.proofs.Common.{[], ◌++◌}
use Rattle.std.proofs.lemmas.Result.{on_ok_weaker}
use Rattle.fir_ast.specs.working.Views.{expr_of}
use Rattle.fir_meaning.specs.SizedScopes.{sized_type}
use Rattle.fir_meaning.specs.WidthRules.{connect_rules}
use Rattle.fir_infer_widths.specs.working.Spots.{spots_within}
use Rattle.fir_infer_widths.specs.working.Walks.{types_in}
use Rattle.fir_infer_widths.proofs.PlaceWalks.{driven_comes}
use Rattle.fir_infer_widths.proofs.Standing.{side_more}
use Rattle.fir_infer_widths.proofs.drives.in_driver.Goals as goal

pub returns : goal.returns
returns c = λ k typed sized s t meant rules rest enters is has.
    let g = c.args.ground.now in
    let e = expr_of c.args.driver.now in
    let to = c.in_ok-side.ensures k typed sized t meant rules rest enters has in
    on_ok_weaker c.connect.result
    (λ keeps.
    driven_comes k g meant rules (connect_rules s (sized_type sized e)) rest (spots_within sized e) (sized_type sized e) c.args.walk.now c.in_expression.new.walk c.in_ok-side.side
    c.connect.new.arena to keeps)
    (c.connect.ensures (meant ++ to.comes.more) (rules ++ []) s (sized_type sized e) to.comes.keeps (side_more (types_in g) meant to.comes.more c.args.driven s is) to.is)
