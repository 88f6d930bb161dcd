use Rattle.fir_fold_rules.proofs.Replacements.{node_simplified}
use Rattle.fir_fold_rules.proofs.simplifying.simplified.Goals as goal

pub returns : goal.returns
returns c =
    node_simplified c.args.leaves.now c.args.nodes.now.keys c.args.node c.term_of.result c.simplest-term.result c.node_type-ty.result c.node_type-ty.ensures c.term_of.ensures
    c.requires.node c.simplest-term.ensures.stands c.simplest-term.ensures.folded c.replacement.result c.replacement.ensures
