use Rattle.std.proofs.lemmas.Option.{slice_get_within}
use Rattle.fir_net.specs.declared.leaf.Role.TheVariants as role
use Rattle.fir_net.proofs.LeafEquations.{driven_at}
use Rattle.fir_tick.proofs.steps.leaf_work.Goals as goal

pub word_read-requires-clause-there : goal.word_read-requires-clause-there
word_read-requires-clause-there c =
    let array = c.requires.whole.readings c.args.number c.args.leaf.now c.in-Reading.read c.requires.at c.in-Reading.is in
    slice_get_within c.args.net.now.arrays c.in-Reading.read.array array.0 array.1

pub word_read-requires-clause-can : goal.word_read-requires-clause-can
word_read-requires-clause-can c = driven_at c.args.net.now c.requires.whole c.args.number c.args.leaf.now (role.Reading c.in-Reading.read) c.requires.at c.in-Reading.is
