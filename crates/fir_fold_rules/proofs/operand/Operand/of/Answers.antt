use Rattle.std.proofs.Common.{◌∙◌, sym, ap, option_copied, slice_get}
use Rattle.fir_fold_rules.proofs.Operands.{leaf_operand, node_has_counts, node_operand}
use Rattle.fir_fold_rules.proofs.operand.Operand.of.Goals as goal

pub term_of-term-requires : goal.term_of-term-requires
term_of-term-requires c =
    node_has_counts c.args.leaves.now c.args.nodes.now.keys c.requires.are c.in-Node.number c.in-Some.node.now
    (ap (slice_get c.args.nodes.now.keys) (sym c.number.ensures) ∙ sym c.get_index.ensures.key ∙ ap option_copied c.in-Some.is)

pub returns-in-Leaf : goal.returns-in-Leaf
returns-in-Leaf c = leaf_operand c.args.leaves.now c.args.nodes.now.keys c.args.read.now c.read_type-ty.result c.read_type-ty.result c.requires.can c.read_type-ty.ensures c.read_type-ty.ensures

pub returns-in-Some : goal.returns-in-Some
returns-in-Some c =
    node_operand c.args.leaves.now c.args.nodes.now.keys c.requires.are c.args.read.now c.in-Node.number c.in-Some.node.now c.read_type-ty.result c.inner_type-inner.result c.term_of-term.result c.in-Node.is c.requires.can
    (ap (slice_get c.args.nodes.now.keys) (sym c.number.ensures) ∙ sym c.get_index.ensures.key ∙ ap option_copied c.in-Some.is)
    c.read_type-ty.ensures c.term_of-term.ensures c.inner_type-inner.ensures
