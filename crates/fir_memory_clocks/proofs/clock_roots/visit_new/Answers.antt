use Rattle.std.proofs.Common.{◌≡◌, true, false, sym, ◌∙◌}
use Rattle.fir_memory_clocks.specs.working.Marks.{IsOnWay}
use Rattle.fir_memory_clocks.proofs.MarkedLeaves.{new_nowhere, new_on, new_outside}
use Rattle.fir_memory_clocks.proofs.clock_roots.visit_new.Goals as goal

pub returns-then-is_outside : goal.returns-then-is_outside
returns-then-is_outside c = λ from steps h.
    new_outside c.args.roles.now (IsOnWay c.args.roles.now from 0 steps) c.args.marks.now h c.args.leaf c.requires
    (c.is_outside.ensures.0 c.if-is_outside.true)

pub returns-in-Some : goal.returns-in-Some
returns-in-Some c = λ from steps h.
    new_on c.args.roles.now (IsOnWay c.args.roles.now from 0 steps) c.args.marks.now h c.args.leaf c.requires c.in-Some.next
    (sym c.next_at.ensures ∙ c.in-Some.is)

pub returns-in-None : goal.returns-in-None
returns-in-None c = λ from steps h.
    new_nowhere c.args.roles.now (IsOnWay c.args.roles.now from 0 steps) c.args.marks.now h c.args.leaf c.requires
    (λ e. let never : false ≡ true = sym c.if-is_outside.false ∙ c.is_outside.ensures.1 e in cc) (sym c.next_at.ensures ∙ c.in-None.is)
