use Rattle.std.proofs.Common.{get_or, length, ◌<◌, ◌≡◌, Some, arith}
use Rattle.std.specs.Prelude.{slice_get}
use Rattle.std.proofs.lemmas.Option.{slice_get-get_or}
use Rattle.fir_least_widths.specs.declared.bound.Bound.{Bound}
use Rattle.fir_least_widths.specs.declared.bound.Term.TheVariants.{Known}
use Rattle.fir_least_widths.proofs.RoundLooks.{round_rises, round_stays}
use Rattle.fir_least_widths.proofs.rounds.raise_each.Goals.{then-raise, else-raise}
use Rattle.fir_least_widths.proofs.rounds.raise_each.Goals as goal

abbrev no_bound : Bound
no_bound = record { unknown = 0; term = Known 0 }

pub loop-bound-preserved : goal.loop-bound-preserved
loop-bound-preserved c =
    let b : Bound = get_or c.args.bounds.now c.loop-bound.bound-index no_bound in
    let here : slice_get c.args.bounds.now c.loop-bound.bound-index ≡ Some b = slice_get-get_or _ _ no_bound c.loop-bound-test.true in
    let within : b.unknown < length c.loop-bound.widths = omega (arith, c.loop-bound.invariant.long, c.requires.unknown c.loop-bound.bound-index b here) in
    elim c.if-raise.branch [
      | then-raise w ↦ rw w.rose-is (round_rises _ _ _ _ _ _ b c.loop-bound.invariant here c.monotone.ensures within w.if-raise.ensures)
      | else-raise w ↦ rw w.rose-is (round_stays _ _ _ _ _ _ b c.loop-bound.invariant here w.if-raise.ensures)
    ]
