use Rattle.std.proofs.Common.{sym, subst, ◌∙◌}
use Rattle.fir_flatten.specs.working.FirstIndices.{IsFirstOf}
use Rattle.fir_flatten.proofs.FirstsOfTwo.{first_first, second_first}
use Rattle.fir_flatten.proofs.index_places.earlier.Goals as goal

pub returns-then-is_before : goal.returns-then-is_before
returns-then-is_before c = λ ps qs h k.
    second_first c.in-Some-Some.one c.in-Some-Some.other ps qs (subst (IsFirstOf ps) c.in-Some-Some.is-0 h) (subst (IsFirstOf qs) c.in-Some-Some.is-1 k)
    (sym c.is_before.ensures ∙ c.if-is_before.true)

pub returns-else-is_before : goal.returns-else-is_before
returns-else-is_before c = λ ps qs h k.
    first_first c.in-Some-Some.one c.in-Some-Some.other ps qs (subst (IsFirstOf ps) c.in-Some-Some.is-0 h) (subst (IsFirstOf qs) c.in-Some-Some.is-1 k)
    (sym c.is_before.ensures ∙ c.if-is_before.false)
