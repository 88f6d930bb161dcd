use Rattle.std.proofs.Common.{false, ◌∙◌}
use Rattle.fir_ast.specs.working.Views.{circuit_of}
use Rattle.fir_meaning.specs.TypeLeaves.{type_leaves}
use Rattle.fir_type_table.specs.working.Tables.{types_of}
use Rattle.fir_types.specs.working.Seen.{found_type}
use Rattle.fir_leaf_table.specs.working.TypedLeaves.{flips_of}
use Rattle.fir_leaf_table.proofs.HeldLeaves.{alone}
use Rattle.fir_leaf_table.proofs.TurnedLeaves.{straight}
use Rattle.fir_leaf_table.proofs.type_leaves.type_leaves.Goals as goal

pub returns-clause-flips : goal.returns-clause-flips
returns-clause-flips c =
    let t = found_type (types_of c.args.table.now) c.args.found in
    (alone (circuit_of c.args.fitted.now) false t c.args.first c.new-leaves.result.items c.push_found.new.leaves.items c.new-leaves.ensures.items
    c.in_ok-push_found.ensures).flips ∙ straight (flips_of (type_leaves t))

pub returns-clause-holds : goal.returns-clause-holds
returns-clause-holds c = λ s w side widths.
    (alone (circuit_of c.args.fitted.now) false (found_type (types_of c.args.table.now) c.args.found) c.args.first c.new-leaves.result.items
    c.push_found.new.leaves.items c.new-leaves.ensures.items c.in_ok-push_found.ensures).holds s w side.shape side.stands widths
