use Rattle.std.proofs.Common.{[], ◌∷◌, Some, sym, ap, ◌∙◌}
use Rattle.fir_ast.specs.working.Views.{named_of}
use Rattle.fir_pass.specs.Groups.{first_of}
use Rattle.fir_meaning.specs.Components as component
use Rattle.fir_meaning.specs.Mentions.{declares, instantiates, names_declared}
use Rattle.fir_names.specs.declared.declaration.Component.TheVariants.{Instance}
use Rattle.fir_names.proofs.FirstMentions.{head_silent, only_one}
use Rattle.fir_resolve.proofs.NamedInstances.{module_absent, module_there, number_is}
use Rattle.fir_resolve.proofs.PassedMentions.{is_new, passes_silent, passes_told}
use Rattle.fir_resolve.proofs.statements.in_instance.Goals as goal

pub returns-in_ok-declare-in-Some-get : goal.returns-in_ok-declare-in-Some-get
returns-in_ok-declare-in-Some-get c = λ modules before numbered w.
    let n = named_of c.args.ident.now in
    let m = named_of c.args.of.now in
    let first = c.in_ok-fault.ensures modules before w in
    let there = c.in-Some-get.ensures.value ∙ numbered.each m.name in
    passes_silent _ _ _ _ _
    (ap first_of (sym (module_there modules m c.in-Some-get.number.now there)) ∙ ap first_of (sym (only_one (instantiates modules m)))
    ∙ sym (head_silent c.in_ok-fault.field-0 (declares (names_declared before) n) (instantiates modules m ∷ []) c.in_default.is first))
    (c.in_ok-declare-in-Some-get.ensures.walks modules before (component.instance m.name) w (is_new before n c.in_ok-fault.field-0 c.in_default.is first)
    (ap Instance (number_is modules m.name c.in-Some-get.number.now there)))
    c.declare.ensures.still_open

pub returns-in_ok-unknown-in-None : goal.returns-in_ok-unknown-in-None
returns-in_ok-unknown-in-None c = λ modules before numbered w.
    let n = named_of c.args.ident.now in
    let m = named_of c.args.of.now in
    passes_told _ _ _ _ _ _
    (ap Some c.in_ok-unknown-in-None.ensures ∙ ap first_of (sym (module_absent modules m (c.in-None.ensures.value ∙ numbered.each m.name)))
    ∙ ap first_of (sym (only_one (instantiates modules m)))
    ∙ sym (head_silent c.in_ok-fault.field-0 (declares (names_declared before) n) (instantiates modules m ∷ []) c.in_default.is
    (c.in_ok-fault.ensures modules before w)))
