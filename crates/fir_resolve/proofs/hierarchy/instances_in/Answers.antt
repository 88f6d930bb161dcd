use Rattle.std.proofs.Common.{◌+◌, sym, ap, ◌∙◌, subst, arith}
use Rattle.fir_names.proofs.InstanceNumbers.{Numbers, numbers_more, numbers_same, numbers_all}
use Rattle.fir_resolve.proofs.hierarchy.instances_in.Goals as goal
use Rattle.fir_resolve.proofs.hierarchy.instances_in.Goals.{in-Some+in_ok-push, in_default}

pub loop-position-preserved : goal.loop-position-preserved
loop-position-preserved c = λ modules.
    let table = c.args.table.now in
    let at = c.loop-position.position in
    let within = c.loop-position-test.true in
    elim c.match-instance_at.branch [
      | in-Some+in_ok-push w ↦ subst (Numbers modules table (at + 1)) (sym w.in_ok-push.ensures.items ∙ ap (λ v. v.items) (sym w.numbers-is))
          (numbers_more modules table at c.loop-position.numbers.items (c.loop-position.invariant modules) (omega (arith, c.len-position-end.ensures)) w.in-Some.number w.in-Some.ensures)
      | in_default w ↦ subst (Numbers modules table (at + 1)) (ap (λ v. v.items) (sym w.numbers-is))
          (numbers_same modules table at c.loop-position.numbers.items (c.loop-position.invariant modules) (omega (arith, c.len-position-end.ensures)) w.in_default.ensures)
    ]

pub returns : goal.returns
returns c = λ modules ds tab.
    numbers_all modules c.args.table.now c.loop-position.position c.loop-position.numbers.items (c.loop-position.invariant modules)
    (omega (arith, c.len-position-end.ensures, c.loop-position-test.false)) ds tab
