use Rattle.std.proofs.Common.{refl, sym, ◌∙◌}
use Rattle.fir_ast.specs.working.Views.{expr_of, named_of}
use Rattle.fir_pass.specs.Groups.{first_of}
use Rattle.fir_meaning.specs.Components as component
use Rattle.fir_meaning.specs.Mentions.{declares, names_declared, expression_mentions}
use Rattle.fir_meaning.specs.NameGroups.{faults_in}
use Rattle.fir_names.proofs.FirstMentions.{head_silent, silent, told}
use Rattle.fir_resolve.proofs.PassedMentions.{is_new, passes_silent, passes_told}
use Rattle.fir_resolve.proofs.WalkedScopes.{sees}
use Rattle.fir_resolve.proofs.statements.in_node.Goals as goal

pub returns-in-Some-2 : goal.returns-in-Some-2
returns-in-Some-2 c = λ modules before w.
    let m = declares (names_declared before) (named_of c.args.ident.now) in
    let ms = expression_mentions before.visible (expr_of c.args.value.now) in
    passes_told _ _ _ _ _ _
    (told c.in_ok-fault-2.field-0 c.in-Some-2.fault (first_of (faults_in ms)) c.in-Some-2.is
    (c.in_ok-fault-2.ensures before.visible (sees modules c.args.scope.now before w))
    ∙ sym (head_silent c.in_ok-fault.field-0 m ms c.in_default.is (c.in_ok-fault.ensures modules before w)))

pub returns : goal.returns
returns c = λ modules before w.
    let n = named_of c.args.ident.now in
    let m = declares (names_declared before) n in
    let ms = expression_mentions before.visible (expr_of c.args.value.now) in
    let first = c.in_ok-fault.ensures modules before w in
    passes_silent _ _ _ _ _
    (silent c.in_ok-fault-2.field-0 (first_of (faults_in ms)) c.in_default-2.is
    (c.in_ok-fault-2.ensures before.visible (sees modules c.args.scope.now before w))
    ∙ sym (head_silent c.in_ok-fault.field-0 m ms c.in_default.is first))
    (c.in_ok-declare.ensures.walks modules before (component.node (expr_of c.args.value.now)) w
    (is_new before n c.in_ok-fault.field-0 c.in_default.is first) refl)
    c.declare.ensures.still_open
