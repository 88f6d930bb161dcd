use Rattle.std.proofs.Common.{arith, true, sym, refl}
use Rattle.std.proofs.lemmas.Option.{slice_get_within}
use Rattle.fir_least_widths.proofs.WaitingMarks.{pop_waited, pop_keeps}
use Rattle.fir_least_widths.proofs.waiting.Waiting.take.Goals as goal

pub index_mut-requires : goal.index_mut-requires
index_mut-requires c =
    omega (arith, slice_get_within c.self.inside.waits.items c.in_ok-place.place true (pop_waited _ _ _ _ c.self.invariant c.in_ok-place.ensures.items), c.self.inside.waits.ok.0)

pub invariant_of-self-2 : goal.invariant_of-self-2
invariant_of-self-2 c = pop_keeps _ _ _ _ c.self.invariant c.in_ok-place.ensures.items

pub returns-clause-some : goal.returns-clause-some
returns-clause-some c = rw (sym c.self.view_is) (record { waited = pop_waited _ _ _ _ c.self.invariant c.in_ok-place.ensures.items; set = refl })
