use Rattle.std.proofs.Common.{[], ◌∷◌}
use Rattle.std.proofs.lemmas.Result.{IfOk-weaker}
use Rattle.fir_ast.specs.working.Views.{named_of}
use Rattle.fir_ast.specs.working.TypeViews.{type_of}
use Rattle.fir_meaning.specs.Visibility.{with_declaration}
use Rattle.fir_meaning.specs.Mentions.{declares, names_declared, type_mentions}
use Rattle.fir_names.proofs.FirstMentions.{front_told}
use Rattle.fir_resolve.proofs.PassedMentions.{passes_rest, passes_told}
use Rattle.fir_resolve.proofs.statements.in_typed.Goals as goal

pub returns-in-Some : goal.returns-in-Some
returns-in-Some c = λ modules before component w is.
    let p = c.in_ok-fault.ensures modules before component w is in
    passes_told _ _ _ _ _ _
    (front_told c.in_ok-fault.field-0 c.in-Some.fault (declares (names_declared before) (named_of c.args.ident.now) ∷ [])
    (type_mentions (type_of c.args.ty.now)) c.in-Some.is p.first)

pub returns : goal.returns
returns c =
    IfOk-weaker c.in_type.result _ _
    (λ f first. λ modules before component w is.
    passes_rest modules c.args.scope.now c.declare.new.scope (declares (names_declared before) (named_of c.args.ident.now) ∷ [])
    (type_mentions (type_of c.args.ty.now)) (with_declaration before (named_of c.args.ident.now) component) c.in_ok-fault.field-0 f c.in_default.is
    (c.in_ok-fault.ensures modules before component w is) first)
    c.in_type.ensures
