use Rattle.std.proofs.Common.{◌≡◌, ℕ, None, refl, ap, sym, ◌∙◌}
use Rattle.std.proofs.lemmas.Option.{none-some, same_Some}
use Rattle.fir_names.specs.declared.declaration.Component.{Component}
use Rattle.fir_names.specs.declared.declaration.Component.TheVariants.{Port, Wire, Register, Node, Instance, Memory}
use Rattle.fir_names.specs.declared.declaration.Declaration.{Declaration as Entry}
use Rattle.fir_names.specs.working.Numbered.{module_number}
use Rattle.fir_infer_resets.proofs.leaf_place.instance_of.Goals as goal

no_instance : (x : Component) → ((k : ℕ) → x ≡ Instance k → ⊥) → None ≡ module_number x
no_instance (Port d) h = refl
no_instance Wire h = refl
no_instance Register h = refl
no_instance Node h = refl
no_instance (Instance k) h = absurd (h k refl)
no_instance Memory h = refl

pub returns-in_err-child : goal.returns-in_err-child
returns-in_err-child c d h = let r = c.in_err-child.ensures d h in absurd (none-some _ r.1)

pub returns-in-Instance : goal.returns-in-Instance
returns-in-Instance c d h =
    let r = c.in_ok-child.ensures d h in
    ap module_number (sym c.in-Instance.is ∙ ap (λ (e : Entry). e.component) (same_Some c.in_ok-child.field-0.now _ r.1))

pub returns-in_default : goal.returns-in_default
returns-in_default c d h =
    let r = c.in_ok-child.ensures d h in
    no_instance c.in_ok-child.field-0.now.component c.in_default.not-Instance ∙ ap (λ (e : Entry). module_number e.component) (same_Some c.in_ok-child.field-0.now _ r.1)
