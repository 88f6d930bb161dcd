use Rattle.std.proofs.Common.{◌≡◌, Some, None, Option, true, false, sym, ap, ◌∙◌, subst}
use Rattle.std.specs.Prelude.{option_copied}
use Rattle.fir_leaf.specs.declared.statement.LeafInstance.{LeafInstance}
use Rattle.fir_meaning.specs.TypeGroup.{scope_at}
use Rattle.fir_names.specs.declared.declaration.Component.TheVariants.{Instance}
use Rattle.fir_names.specs.declared.declaration.Declaration.{Declaration}
use Rattle.fir_ground.specs.working.Statements.{IsInstance}
use Rattle.fir_ground.proofs.FramedScopes.{get_is, get_within, instance_facts}
use Rattle.fir_ground.proofs.statements.instance_at.Goals as goal

pub returns-in_err-declaration : goal.returns-in_err-declaration
returns-in_err-declaration c = λ modules whole before named name h.
    let facts = instance_facts c.args.frame.now modules whole before named name c.args.position h in
    let nothing : Option Declaration = None in
    let there : nothing ≡ Some facts.entry = sym (ap option_copied c.in_err-declaration.was) ∙ c.at.ensures ∙ facts.found in
    absurd (cc)

pub returns-in_default : goal.returns-in_default
returns-in_default c = λ modules whole before named name h.
    let facts = instance_facts c.args.frame.now modules whole before named name c.args.position h in
    let there : Some c.in_ok-declaration.declaration.now ≡ Some facts.entry = sym (ap option_copied c.in_ok-declaration.was) ∙ c.at.ensures ∙ facts.found in
    let same : c.in_ok-declaration.declaration.now ≡ facts.entry = cc in
    absurd (c.in_default.not-Instance facts.number (ap (λ (d : Declaration). d.component) same ∙ facts.component))

pub returns-in_err-first : goal.returns-in_err-first
returns-in_err-first c = λ modules whole before named name h.
    let facts = instance_facts c.args.frame.now modules whole before named name c.args.position h in
    let there : false ≡ true = c.in_err-first.ensures.lookup.2 (get_within c.args.frame.now.ground.firsts.now c.args.position _ facts.first) in
    absurd (cc)

pub returns : goal.returns
returns c = λ modules whole before named name h.
    let facts = instance_facts c.args.frame.now modules whole before named name c.args.position h in
    let there : Some c.in_ok-declaration.declaration.now ≡ Some facts.entry = sym (ap option_copied c.in_ok-declaration.was) ∙ c.at.ensures ∙ facts.found in
    let same : c.in_ok-declaration.declaration.now ≡ facts.entry = cc in
    let component : Instance c.in-Instance.module_number ≡ Instance facts.number =
    sym c.in-Instance.is ∙ ap (λ (d : Declaration). d.component) same ∙ facts.component in
    let number : c.in-Instance.module_number ≡ facts.number = cc in
    let own : LeafInstance = record { declaration = c.args.position; module_number = c.in-Instance.module_number; first = c.in_ok-first.first.now } in
    subst (λ o. IsInstance (scope_at modules before) o (Some own)) (sym facts.numbered)
    (facts.counted, number, c.in_ok-first.ensures.lookup.1 ∙ get_is c.args.frame.now.ground.firsts.now c.args.position _ c.in_ok-first.first.now facts.first)
