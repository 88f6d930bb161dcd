use Rattle.std.proofs.Common.{◌≡◌, ℕ, List, ◌||◌, nat_eq, refl, sym, ap, ◌∙◌}
use Rattle.std.specs.List.{list_any}
use Rattle.std.proofs.lemmas.List.Recursion.{same_from_clauses}
use Rattle.fir_meaning.specs.working.TermReads.{is_among}
use Rattle.fir_meaning.specs.working.UndrivenChoices.{drives}
use Rattle.fir_driven.proofs.LeafViews.{drive_view}
use Rattle.fir_driven.proofs.choice.may_drive.Goals as goal

among_is : (x : ℕ) (xs : List ℕ) → list_any (λ y. nat_eq y x) xs ≡ is_among xs x
among_is x = same_from_clauses (list_any (λ y. nat_eq y x)) (λ ys. is_among ys x) (λ y b. nat_eq y x || b) refl (λ y ys. refl) (λ y ys. refl)

pub returns : goal.returns
returns c =
    let leaf = c.args.leaf in
    c.contains.ensures.value ∙ among_is leaf c.deref.result.now ∙ ap (λ xs. is_among xs leaf) (c.deref.ensures.value ∙ c.in_ok-leaves.ensures)
    ∙ sym (ap (drives leaf) (drive_view c.args.nodes.now c.args.drive.now))
