use Rattle.fir_fold_rules.proofs.Proposals.{integer_proposes, mux_proposes, pair_proposes, range_proposes, single_proposes}
use Rattle.fir_fold_rules.proofs.rules.proposed.Goals as goal

pub returns-in-Pair : goal.returns-in-Pair
returns-in-Pair c =
    pair_proposes c.args.leaves.now c.args.nodes.now.keys c.args.ty c.args.term.now c.requires.is c.in-Pair.a c.of-first.result c.of-first.ensures
    c.in-Pair.b c.of-second.result c.of-second.ensures c.in-Pair.op c.in-Pair.is c.pair_rules.result c.pair_rules.ensures

pub returns-in-Mux : goal.returns-in-Mux
returns-in-Mux c =
    mux_proposes c.args.leaves.now c.args.nodes.now.keys c.args.ty c.args.term.now c.requires.is c.in-Mux.a c.of-first-in-Mux.result c.of-first-in-Mux.ensures
    c.in-Mux.b c.of-second-in-Mux.result c.of-second-in-Mux.ensures c.in-Mux.c c.of-condition.result c.of-condition.ensures c.in-Mux.is c.mux_rules.result c.mux_rules.ensures

pub returns-in-Single : goal.returns-in-Single
returns-in-Single c =
    single_proposes c.args.leaves.now c.args.nodes.now.keys c.args.ty c.args.term.now c.requires.is c.in-Single.a c.of-operand.result c.of-operand.ensures
    c.in-Single.op c.in-Single.is c.single_rules.result c.single_rules.ensures

pub returns-in-Integer : goal.returns-in-Integer
returns-in-Integer c =
    integer_proposes c.args.leaves.now c.args.nodes.now.keys c.args.ty c.args.term.now c.requires.is c.in-Integer.a c.of-operand-in-Integer.result
    c.of-operand-in-Integer.ensures c.in-Integer.op c.in-Integer.n c.in-Integer.is c.integer_rules.result c.integer_rules.ensures

pub returns-in-Range : goal.returns-in-Range
returns-in-Range c =
    range_proposes c.args.leaves.now c.args.nodes.now.keys c.args.ty c.args.term.now c.requires.is c.in-Range.a c.of-operand-in-Range.result
    c.of-operand-in-Range.ensures c.in-Range.op c.in-Range.n c.in-Range.m c.in-Range.is c.range_rules.result c.range_rules.ensures
