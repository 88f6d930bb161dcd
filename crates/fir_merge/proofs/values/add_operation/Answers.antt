use Rattle.std.proofs.Common.{◌∙◌}
use Rattle.fir_merge.proofs.StandingValues.{operation_stands}
use Rattle.fir_merge.proofs.values.add_operation.Goals as goal

pub returns-clause-stands : goal.returns-clause-stands
returns-clause-stands c =
    operation_stands c.args.net.now c.add_node.new.net c.args.op c.args.operands.now c.args.integers.now c.in_ok-reads_of.field-0 c.from_vec.result c.in_ok-ty.ty
    c.in_ok-add_node.field-0 c.in_ok-reads_of.ensures (c.from_vec.ensures ∙ c.in_ok-from_slice.ensures.items) c.in_ok-ty.ensures c.in_ok-add_node.ensures
