use Rattle.fir_work.proofs.Showing.{choose_shown, show_shown}
use Rattle.fir_work.proofs.tasks.shown_task.Goals as goal
use Rattle.fir_work.proofs.tasks.shown_task.Goals.{then-ty-width+then-is_plain, else-ty-width}

pub returns : goal.returns
returns c =
    rw (c.place.ensures, c.place-2.ensures, c.number.ensures)
    (elim c.if-ty-width.branch [
      | then-ty-width+then-is_plain w ↦ rw w.work-is
          (choose_shown c.args.net.now c.args.leaf c.args.width c.args.condition c.args.init
          (rw c.type_read-ty.ensures at w.if-ty-width.true) (rw (w.is_plain.ensures, c.type_read-ty.ensures) at w.if-is_plain.true))
      | else-ty-width w ↦ rw (w.work-is, c.type_read-ty.ensures)
          (show_shown c.args.net.now c.requires.whole c.args.leaf c.args.width c.args.condition c.args.init c.requires.init c.requires.narrow)
    ])
