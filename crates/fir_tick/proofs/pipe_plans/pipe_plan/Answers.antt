use Rattle.std.proofs.lemmas.Option.{slice_get_within}
use Rattle.fir_net.specs.declared.leaf.Role.TheVariants as role
use Rattle.fir_net.proofs.LeafEquations.{driven_at}
use Rattle.fir_tick.proofs.pipe_plans.pipe_plan.Goals as goal

pub word_read-requires-clause-there : goal.word_read-requires-clause-there
word_read-requires-clause-there c =
    let array = c.requires.whole.pipes c.args.number c.args.leaf.now c.in-Pipe.pipe c.requires.at c.in-Pipe.is in
    slice_get_within c.args.net.now.arrays c.in-Pipe.pipe.read.array array.0 array.1

pub word_read-requires-clause-can : goal.word_read-requires-clause-can
word_read-requires-clause-can c = (driven_at c.args.net.now c.requires.whole c.args.number c.args.leaf.now (role.Pipe c.in-Pipe.pipe) c.requires.at c.in-Pipe.is).1
