use Rattle.std.proofs.Common.{◌≡◌, false, ◌&&◌, refl}
use Rattle.fir_check.proofs.FirstDriven.{one_side}
use Rattle.fir_check.proofs.drives.Sides.is_flipped.Goals as goal
use Rattle.fir_check.proofs.drives.Sides.is_flipped.Goals.{else-self-via-then-self+else-self-2, else-self-via-else-self}

pub returns-else-self : goal.returns-else-self
returns-else-self c =
    let one : (c.args.self.straight && c.args.self.flipped) ≡ false = elim c.else-self.branch [
      | else-self-via-then-self+else-self-2 w ↦ rw (w.if-self.true, w.if-self-2.false) refl
      | else-self-via-else-self w ↦ rw w.if-self.false refl
    ] in
    λ spots spot first is. one_side c.args.self spots spot one is
