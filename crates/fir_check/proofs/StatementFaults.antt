-- The first fault of a statement, from those of its expressions and its own.
use Rattle.std.proofs.Common.{◌≡◌, List, [], ◌++◌, Option, ap, ◌∙◌}
use Rattle.fir_base.specs.declared.refused.Refused.{Refused}
use Rattle.fir_ast.specs.declared.fault.FirFault.{FirFault}
use Rattle.fir_ast.specs.Faults.{Fault}
use Rattle.fir_meaning.specs.Checked.{Checked, shown_on, shown_after}
use Rattle.fir_types.specs.working.Judged.{Is, IsFirstOf}
use Rattle.fir_check.proofs.CheckedForms.{first_left, first_right}

pub expression_fails : {A : Type 0} (c : Checked A) (own : A → List Fault) (e : Refused FirFault) → IsFirstOf c.shows e → IsFirstOf (shown_after c own) e
expression_fails c own e h = first_left c.shows (shown_on c.has own) e h

pub statement_fails : {A : Type 0} (c : Checked A) (own : A → List Fault) (x : Option A) (e : Refused FirFault) → Is c x → IsFirstOf (shown_on x own) e
    → IsFirstOf (shown_after c own) e
statement_fails c own x e is h = first_right c.shows (shown_on c.has own) e is.none (rw is.has h)

pub statement_clear : {A : Type 0} (c : Checked A) (own : A → List Fault) (x : Option A) → Is c x → shown_on x own ≡ [] → shown_after c own ≡ []
statement_clear c own x is none = ap (λ fs. fs ++ shown_on c.has own) is.none ∙ ap (λ y. shown_on y own) is.has ∙ none

-- lists of which the first are empty
pub both_clear : (xs ys : List Fault) → xs ≡ [] → ys ≡ [] → xs ++ ys ≡ []
both_clear xs ys h k = ap (λ l. l ++ ys) h ∙ k
