use Rattle.ver_runner.proofs.Rooms.{FilledTo}
use Rattle.ver_runner.proofs.shown.fill.Given as goal

abbrev pub invariant-loop-i : goal.invariant-loop-i
invariant-loop-i l = FilledTo l.initial.room.items l.room.items l.numbers l.i
