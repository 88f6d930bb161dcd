use Rattle.fir_compile.proofs.MadeOf.{made_of}
use Rattle.fir_compile.proofs.passes.net_of.Goals as goal

pub shape-requires-clause-words : goal.shape-requires-clause-words
shape-requires-clause-words c =
    let h = c.in_ok-compiled.ensures.compiled in
    h.flattened.words (c.spelled_names_are_words.ensures c.args.bytes.now h.circuit h.taken.spelled)

pub returns-clause-made : goal.returns-clause-made
returns-clause-made c =
    made_of c.spells_one_tree.ensures c.names_are_for_rows.ensures c.args.bytes.now c.in_ok-compiled.compiled.net c.in_ok-shape.shape
    c.in_ok-compiled.ensures.compiled c.in_ok-shape.ensures
