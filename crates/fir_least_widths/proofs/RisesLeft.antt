-- A rise leaves fewer looks to be taken, by more than the readers that it makes wait.
use Rattle.std.proofs.Common.{◌≡◌, ℕ, zero, suc, ◌+◌, ◌-◌, ◌*◌, ◌<◌, ◌≤◌, List, [], ◌∷◌, Some, length, set, ap, arith, Vec, Global}
use Rattle.std.specs.Prelude.{slice_get, slice_index}
use Rattle.std.proofs.Math.Nat.{mul-le-mul_right, add-mul}
use Rattle.std.proofs.lemmas.Option.{none-some, same_Some}
use Rattle.fir_least_widths.specs.declared.bound.Bound.{Bound}
use Rattle.fir_least_widths.specs.working.Raises.{Rises}
use Rattle.fir_least_widths.specs.working.Solving.{rises_left}
use Rattle.fir_least_widths.specs.working.Rounds.{room}
use Rattle.fir_least_widths.proofs.Terms.{term_le}
use Rattle.fir_least_widths.specs.working.Bounds.{term_width}
use Rattle.fir_meaning.specs.working.AssignedWidths.{assigned}

one_rise : (w y k : ℕ) → w < y → y ≤ 129 → (129 - y) * k + k ≤ (129 - w) * k
one_rise w y k less le =
    let more : (129 - y) + 1 ≤ 129 - w = omega arith in
    omega (arith, mul-le-mul_right k more, add-mul (129 - y) 1 k)

set_left : (ws : List ℕ) (rs : List (Vec ℕ Global)) (u y : ℕ) (list : Vec ℕ Global) → u < length ws → slice_get rs u ≡ Some list → slice_index ws u < y → y ≤ 129 → rises_left (set ws u y) rs + (length list.items + 1) ≤ rises_left ws rs
set_left [] rs u y list lt at less le = absurd (omega (arith, lt))
set_left (w ∷ ws) [] u y list lt at less le = absurd (none-some list at)
set_left (w ∷ ws) (r ∷ rs) zero y list lt at less le =
    let same : length r.items ≡ length list.items = ap (λ (v : Vec ℕ Global). length v.items) (same_Some r list at) in
    rw same (omega (arith, one_rise w y (length list.items + 1) less le))
set_left (w ∷ ws) (r ∷ rs) (suc u) y list lt at less le = omega (arith, set_left ws rs u y list (omega (arith, lt)) at less le)

pub fewer_left : (b : Bound) (old new : List ℕ) (readers : List (Vec ℕ Global)) (list : Vec ℕ Global) → Rises b old new → b.unknown < length old → slice_get readers b.unknown ≡ Some list → rises_left new readers + (length list.items + 1) ≤ rises_left old readers
fewer_left b old new readers list r lt at =
    rw r.set (set_left old readers b.unknown (term_width b.term (assigned old)) list lt at r.less (term_le b.term (assigned old)))

set_room : (ws : List ℕ) (u y : ℕ) → u < length ws → slice_index ws u < y → y ≤ 129 → room (set ws u y) < room ws
set_room [] u y lt less le = absurd (omega (arith, lt))
set_room (w ∷ ws) zero y lt less le = omega (arith, less, le)
set_room (w ∷ ws) (suc u) y lt less le = omega (arith, set_room ws u y (omega (arith, lt)) less le)

pub less_room : (b : Bound) (old new : List ℕ) → Rises b old new → b.unknown < length old → room new < room old
less_room b old new r lt = rw r.set (set_room old b.unknown (term_width b.term (assigned old)) lt r.less (term_le b.term (assigned old)))
