use Rattle.std.proofs.Common.{sym, ◌∙◌, map}
use Rattle.fir_ast.specs.working.Views.{expr_of, sink_of}
use Rattle.fir_meaning.specs.TypeLeaves.{type_leaves}
use Rattle.fir_type_table.specs.working.Tables.{types_of}
use Rattle.fir_check.specs.working.Driven.{first_driven}
use Rattle.fir_types.specs.working.Spots.{spot_of}
use Rattle.fir_types.specs.working.Seen.{found_type}
use Rattle.fir_check.proofs.FirstDriven.{connect_flows}
use Rattle.fir_check.proofs.connects.on_connect.Goals as goal

pub returns : goal.returns
returns c =
    let ts = types_of c.args.scope.now.table in
    let sink = sink_of c.args.sink.now in
    let source = expr_of c.args.source.now in
    let sides = c.of-sides.result in
    let leaves = map spot_of (type_leaves (found_type ts c.args.left.found)) in
    λ by.
    rw
    (connect_flows ts c.args.place sink source c.args.left c.args.right.reach by sides c.of-sides.ensures.straight c.of-sides.ensures.flipped
    (found_type ts c.args.right.found) (sym c.fit.ensures ∙ c.if-not-fit.false))
    (c.drives_a_source.ensures (first_driven sides leaves) c.in_ok-leaf.ensures)
