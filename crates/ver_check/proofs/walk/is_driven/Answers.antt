use Rattle.std.proofs.Common.{◌∙◌, sym, ap}
use Rattle.std.proofs.Common.{[], ◌∷◌}
use Rattle.ver_check.specs.FaultForms.{undriven_fault}
use Rattle.ver_check.specs.working.Walks.{due_in}
use Rattle.ver_check.proofs.Undriven.{none_missing, one_missing}
use Rattle.ver_check.proofs.walk.is_driven.Goals as goal

pub returns-in-Some : goal.returns-in-Some
returns-in-Some c =
    λ ds d. none_missing ds (due_in c.args.due.now) c.in-Some.field-0 (sym (sym c.find.ensures ∙ c.in-Some.is) ∙ d c.args.due.now.name.now)

pub returns-in_ok-copy-in-None : goal.returns-in_ok-copy-in-None
returns-in_ok-copy-in-None c =
    λ ds d. (
      [],
      one_missing ds (due_in c.args.due.now) (sym (sym c.find.ensures ∙ c.in-None.is) ∙ d c.args.due.now.name.now)
          ∙ ap (λ n. undriven_fault c.args.due.now.place n ∷ []) (sym c.in_ok-copy-in-None.ensures),
    )
