use Rattle.std.proofs.Common.{◌≡◌, ◌-◌, length, ap, ◌∙◌, arith}
use Rattle.std.specs.Prelude.{option_map}
use Rattle.fir_names.proofs.TablesByNumber.{item_is}
use Rattle.fir_types.specs.working.Noted.{note_seen}
use Rattle.fir_ground.proofs.NotesLast.{last_seen}
use Rattle.fir_ground.proofs.notes.last_passed.Goals as goal

pub returns : goal.returns
returns c = λ ts before note rest ahead behind.
    let notes = c.args.ahead.now in
    let k = c.saturating_sub.result in
    let at : k ≡ (length notes - length c.args.left.now) - 1 = omega (arith, c.saturating_sub.ensures, c.saturating_sub-passed.ensures) in
    ap (option_map (note_seen ts)) (item_is notes k c.get.result c.get.ensures.lookup)
    ∙ last_seen ts notes c.args.left.now before note rest k ahead behind at
