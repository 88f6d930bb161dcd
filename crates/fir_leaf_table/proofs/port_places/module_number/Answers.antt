use Rattle.std.proofs.Common.{◌≡◌, Some, None, Option, sym, ap, ◌∙◌, subst}
use Rattle.std.specs.Prelude.{option_copied}
use Rattle.fir_names.specs.declared.declaration.Component.TheVariants.{Instance}
use Rattle.fir_names.specs.declared.declaration.Declaration.{Declaration}
use Rattle.fir_leaf_table.specs.working.PortPlaces.{IsNumberOf}
use Rattle.fir_leaf_table.proofs.InstanceModules.{instance_facts}
use Rattle.fir_leaf_table.proofs.port_places.module_number.Goals as goal

pub returns-in_err-number : goal.returns-in_err-number
returns-in_err-number c = λ circuit s before n name frames h.
    let facts = instance_facts c.args.frame.now circuit s before n name c.args.position frames h in
    let nothing : Option Declaration = None in
    let there : nothing ≡ Some facts.entry = sym (ap option_copied c.in_err-number.was) ∙ c.at.ensures ∙ facts.found in
    absurd (cc)

pub returns-in_default : goal.returns-in_default
returns-in_default c = λ circuit s before n name frames h.
    let facts = instance_facts c.args.frame.now circuit s before n name c.args.position frames h in
    let there : Some c.in_ok-number.field-0.now ≡ Some facts.entry = sym (ap option_copied c.in_ok-number.was) ∙ c.at.ensures ∙ facts.found in
    let same : c.in_ok-number.field-0.now ≡ facts.entry = cc in
    c.in_default.not-Instance facts.number (ap (λ (d : Declaration). d.component) same ∙ facts.component)

pub returns : goal.returns
returns c = λ circuit s before n name frames h.
    let facts = instance_facts c.args.frame.now circuit s before n name c.args.position frames h in
    let there : Some c.in_ok-number.field-0.now ≡ Some facts.entry = sym (ap option_copied c.in_ok-number.was) ∙ c.at.ensures ∙ facts.found in
    let same : c.in_ok-number.field-0.now ≡ facts.entry = cc in
    let component : Instance c.in-Instance.number ≡ Instance facts.number =
    sym c.in-Instance.is ∙ ap (λ (d : Declaration). d.component) same ∙ facts.component in
    let number : c.in-Instance.number ≡ facts.number = cc in
    subst (IsNumberOf (Some c.in-Instance.number)) (sym facts.numbered) number
