use Rattle.std.proofs.Common.{sym, ◌∙◌}
use Rattle.fir_memory_clocks.proofs.FoundMemories.{first_alone, first_first, second_alone, second_first}
use Rattle.fir_memory_clocks.proofs.module_memories.earlier.Goals as goal

pub returns-then-is_before : goal.returns-then-is_before
returns-then-is_before c = λ m xs ys h k.
    second_first m xs ys c.in-Some-Some.one c.in-Some-Some.other (rw c.in-Some-Some.is-0 at h) (rw c.in-Some-Some.is-1 at k)
    (sym c.is_before.ensures ∙ c.if-is_before.true)

pub returns-else-is_before : goal.returns-else-is_before
returns-else-is_before c = λ m xs ys h k.
    first_first m xs ys c.in-Some-Some.one c.in-Some-Some.other (rw c.in-Some-Some.is-0 at h) (rw c.in-Some-Some.is-1 at k)
    (sym c.is_before.ensures ∙ c.if-is_before.false)

pub returns-in-Some-None : goal.returns-in-Some-None
returns-in-Some-None c = λ m xs ys h k. first_alone m xs ys c.in-Some-None.one (rw c.in-Some-None.is-0 at h) (rw c.in-Some-None.is-1 at k)

pub returns-in-None-default : goal.returns-in-None-default
returns-in-None-default c = λ m xs ys h k. second_alone m xs ys c.args.other (rw c.in-None-default.is-0 at h) k
