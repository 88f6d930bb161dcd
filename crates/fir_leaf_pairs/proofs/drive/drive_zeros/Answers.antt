use Rattle.std.proofs.Common.{arith}
use Rattle.fir_type_table.specs.working.Tables.{types_of}
use Rattle.fir_leaf_pairs.proofs.Driving.{zeros_all, zeros_more, zeros_nowhere}
use Rattle.fir_leaf_pairs.proofs.drive.drive_zeros.Goals as goal

pub returns-in_default : goal.returns-in_default
returns-in_default c = zeros_nowhere (types_of c.args.table.now) c.args.out.now.items c.args.place c.args.target c.args.zeros c.args.sinks.now c.in_default.is

pub loop-leaf-preserved : goal.loop-leaf-preserved
loop-leaf-preserved c =
    zeros_more (types_of c.args.table.now) c.args.out.now.items c.loop-leaf.out.items c.drive_zero.new.out.items c.args.place c.args.target c.args.zeros
    c.args.sinks.now c.loop-leaf.leaf (omega (arith, c.loop-leaf-test.true, c.leaves-leaf-end.ensures)) c.loop-leaf.invariant c.in_ok-drive_zero.ensures

pub returns : goal.returns
returns c =
    zeros_all (types_of c.args.table.now) c.args.out.now.items c.loop-leaf.out.items c.args.place c.args.target c.args.zeros c.args.sinks.now c.loop-leaf.leaf
    c.in-Some.field-0 c.in-Some.is (omega (arith, c.loop-leaf-test.false, c.loop-leaf.auto.leaf-end, c.leaves-leaf-end.ensures)) c.loop-leaf.invariant
