use Rattle.std.proofs.Common.{[], ◌∷◌, map, refl, ap, ◌∙◌}
use Rattle.std.proofs.lemmas.Result.{IfOk-weaker}
use Rattle.fir_ast.specs.working.Views.{memory_part_of, named_of}
use Rattle.fir_pass.specs.Groups.{first_of}
use Rattle.fir_meaning.specs.Components as component
use Rattle.fir_meaning.specs.Visibility.{with_declaration}
use Rattle.fir_meaning.specs.Mentions.{declares, names_declared, memory_mentions}
use Rattle.fir_meaning.specs.NameGroups.{faults_in}
use Rattle.fir_names.proofs.FirstMentions.{front_told}
use Rattle.fir_resolve.proofs.PassedMentions.{passes_rest, passes_told}
use Rattle.fir_resolve.proofs.statements.in_memory_statement.Goals as goal

pub returns-in-Some : goal.returns-in-Some
returns-in-Some c = λ modules before w.
    let parts = map memory_part_of c.args.memory.now.fields.items in
    let p = c.in_ok-fault.ensures modules before (component.memory parts) w refl in
    passes_told _ _ _ _ _ _
    (front_told c.in_ok-fault.field-0 c.in-Some.fault (declares (names_declared before) (named_of c.args.memory.now.ident) ∷ []) (memory_mentions [] parts)
    c.in-Some.is p.first)

pub returns : goal.returns
returns c =
    let n = named_of c.args.memory.now.ident in
    let parts = map memory_part_of c.args.memory.now.fields.items in
    IfOk-weaker c.in_memory.result _ _
    (λ f first. λ modules before w.
    passes_rest modules c.args.scope.now c.declare.new.scope (declares (names_declared before) n ∷ []) (memory_mentions [] parts)
    (with_declaration before n (component.memory parts)) c.in_ok-fault.field-0 f c.in_default.is
    (c.in_ok-fault.ensures modules before (component.memory parts) w refl)
    (first ∙ ap (λ fields. first_of (faults_in (memory_mentions [] (map memory_part_of fields)))) c.deref.ensures.value))
    c.in_memory.ensures
