use Rattle.std.proofs.Common.{◌++◌, sym, ap, ◌∙◌}
use Rattle.std.proofs.lemmas.Result.{on_ok_weaker}
use Rattle.fir_meaning.specs.TypeLeaves.{type_leaves}
use Rattle.fir_type_table.specs.working.Tables.{types_of}
use Rattle.fir_types.specs.working.Seen.{flow_seen, found_type, seen}
use Rattle.fir_meaning.specs.FoundTypes.{leaves_of_data}
use Rattle.fir_leaf_table.specs.working.TypedLeaves.{flips_seen}
use Rattle.fir_leaf_table.proofs.DrivenWalks.{driven_by, driven_found}
use Rattle.fir_leaf_table.proofs.sinks.push_driven.Goals as goal

pub returns : goal.returns
returns c =
    let ts = types_of c.args.frame.now.findings.now.table in
    let flow = flow_seen c.args.flow in
    on_ok_weaker c.push_each.result
    (λ each.
    driven_found flow c.args.driven.now.items c.push_each.new.driven.items c.as_slice.result.now (type_leaves (found_type ts c.in-Some.found)) each
    (ap flips_seen c.as_slice.ensures.value ∙ c.in_ok-leaves.ensures.flips)
    ∙ ap (λ o. c.args.driven.now.items ++ driven_by flow (leaves_of_data (seen ts o))) (sym c.in-Some.is))
    c.push_each.ensures
