use Rattle.std.proofs.Common.{ap, ◌∙◌}
use Rattle.std.proofs.lemmas.Option.{none-some, same_Some}
use Rattle.fir_types.specs.working.Noted.{saturated_note}
use Rattle.fir_ground.proofs.NotesLast.{own_last, own_note, own_type}
use Rattle.fir_ground.proofs.sides.noted_last.Goals as goal

pub returns-in-Some : goal.returns-in-Some
returns-in-Some c = λ ts typed e t rest ahead behind none has.
    let own = own_last ts c.args.notes.now typed e rest ahead in
    let seen = c.in-Some.ensures ts own.before (own_note typed e) rest own.ahead behind in
    c.noted.ensures ts t (same_Some _ _ seen ∙ ap saturated_note (own_type typed e t none has))

pub returns-in-None : goal.returns-in-None
returns-in-None c = λ ts typed e t rest ahead behind none has.
    let own = own_last ts c.args.notes.now typed e rest ahead in
    absurd (none-some _ (c.in-None.ensures ts own.before (own_note typed e) rest own.ahead behind))
