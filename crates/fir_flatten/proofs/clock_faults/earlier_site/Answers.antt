use Rattle.std.proofs.Common.{sym, ◌∙◌}
use Rattle.fir_flatten.proofs.EarlierSites.{both_first, both_later, none_found, none_here}
use Rattle.fir_flatten.proofs.clock_faults.earlier_site.Goals as goal

pub returns-then-is_before : goal.returns-then-is_before
returns-then-is_before c = λ scenes copies k s i z is is_scene h site.
    both_later scenes copies i z k s is is_scene c.in-Some-Some.one c.in-Some-Some.other (sym c.is_before.ensures ∙ c.if-is_before.true)
    (rw c.in-Some-Some.is-0 at h) (rw c.in-Some-Some.is-1 at site)

pub returns-else-is_before : goal.returns-else-is_before
returns-else-is_before c = λ scenes copies k s i z is is_scene h site.
    both_first scenes copies i z k s is is_scene c.in-Some-Some.one c.in-Some-Some.other (sym c.is_before.ensures ∙ c.if-is_before.false)
    (rw c.in-Some-Some.is-0 at h) (rw c.in-Some-Some.is-1 at site)

pub returns-in-None-default : goal.returns-in-None-default
returns-in-None-default c = λ scenes copies k s i z is is_scene h site.
    none_found scenes copies i z k s is is_scene c.args.site (rw c.in-None-default.is-0 at h) site

pub returns-in-Some-None : goal.returns-in-Some-None
returns-in-Some-None c = λ scenes copies k s i z is is_scene h site.
    let kept = none_here scenes copies i z k s is is_scene c.args.found h (rw c.in-Some-None.is-1 at site) in
    rw c.in-Some-None.is-0 at kept
