use Rattle.fir_compile.proofs.CountedTexts.{checks, same_counts}
use Rattle.fir_compile.proofs.passes.counts_of.Goals as goal

pub returns : goal.returns
returns c =
    let net = c.in_ok-ordered.ordered.net in
    let counted = same_counts c.counts.result net c.counts.ensures.leaves c.counts.ensures.registers c.counts.ensures.memories in
    checks c.spells_one_tree.ensures c.args.bytes.now c.in_ok-counts_line.field-0.items net c.counts.result c.in_ok-ordered.ensures.counted counted
    c.in_ok-counts_line.ensures
