use Rattle.std.proofs.Common.{sym, ◌∙◌}
use Rattle.fir_memory_clocks.proofs.SitesOfCopies.{first_alone, first_first, second_alone, second_first}
use Rattle.fir_memory_clocks.proofs.first_site.earlier_site.Goals as goal

pub returns-then-is_before : goal.returns-then-is_before
returns-then-is_before c = λ found copies n h k.
    second_first found copies n c.in-Some-Some.one c.in-Some-Some.other (sym c.is_before.ensures ∙ c.if-is_before.true) (rw c.in-Some-Some.is-0 at h)
    (rw c.in-Some-Some.is-1 at k)

pub returns-else-is_before : goal.returns-else-is_before
returns-else-is_before c = λ found copies n h k.
    first_first found copies n c.in-Some-Some.one c.in-Some-Some.other (sym c.is_before.ensures ∙ c.if-is_before.false) (rw c.in-Some-Some.is-0 at h)
    (rw c.in-Some-Some.is-1 at k)

pub returns-in-Some-None : goal.returns-in-Some-None
returns-in-Some-None c = λ found copies n h k.
    first_alone found copies n c.in-Some-None.one (rw c.in-Some-None.is-0 at h) (rw c.in-Some-None.is-1 at k)

pub returns-in-None-default : goal.returns-in-None-default
returns-in-None-default c = λ found copies n h k. second_alone found copies n c.args.other (rw c.in-None-default.is-0 at h) k
