use Rattle.fir_memory_clocks.proofs.clock_roots.mark_from.Goals as goal

pub settle-requires-clause-root : goal.settle-requires-clause-root
settle-requires-clause-root c = let w = rw c.in-Some.is at c.walk_from.ensures.walk in w.root

pub settle-requires-clause-passed : goal.settle-requires-clause-passed
settle-requires-clause-passed c = let w = rw c.in-Some.is at c.walk_from.ensures.walk in w.marks_are

pub returns-in_default-clause-settled : goal.returns-in_default-clause-settled
returns-in_default-clause-settled c = rw c.in_default.is at c.walk_from.ensures.walk

pub returns-clause-keeps : goal.returns-clause-keeps
returns-clause-keeps c = λ x e. c.walk_from.ensures.keeps x (c.settle.ensures.keeps x e)

pub returns-clause-marked : goal.returns-clause-marked
returns-clause-marked c = λ lt e. c.walk_from.ensures.marked lt (c.settle.ensures.keeps c.args.leaf e)
