use Rattle.std.proofs.Common.{option_map, refl}
use Rattle.std.proofs.lemmas.Result.{IfOk-weaker}
use Rattle.fir_ast.specs.working.Views.{expr_of, named_of, reset_of}
use Rattle.fir_ast.specs.working.TypeViews.{type_of}
use Rattle.fir_meaning.specs.Components as component
use Rattle.fir_meaning.specs.Visibility.{with_declaration}
use Rattle.fir_resolve.proofs.PassedMentions.{is_new, passes_told}
use Rattle.fir_resolve.proofs.RegisterMentions.{clock_told, reset_reached, type_told}
use Rattle.fir_resolve.proofs.WalkedScopes.{sees}
use Rattle.fir_resolve.proofs.statements.in_register.Goals as goal

pub returns-in-Some-2 : goal.returns-in-Some-2
returns-in-Some-2 c = λ modules before w.
    let r = c.args.register.now in
    passes_told _ _ _ _ _ _
    (type_told before (named_of r.ident) (type_of r.ty) (expr_of r.clock) (option_map reset_of r.reset) c.in_ok-fault.field-0 c.in_ok-fault-2.field-0
    c.in_default.is (c.in_ok-fault.ensures modules before w) c.in_ok-fault-2.ensures c.in-Some-2.fault c.in-Some-2.is)

pub returns-in-Some-3 : goal.returns-in-Some-3
returns-in-Some-3 c = λ modules before w.
    let r = c.args.register.now in
    passes_told _ _ _ _ _ _
    (clock_told before (named_of r.ident) (type_of r.ty) (expr_of r.clock) (option_map reset_of r.reset) c.in_ok-fault.field-0 c.in_ok-fault-2.field-0
    c.in_default.is (c.in_ok-fault.ensures modules before w) c.in_ok-fault-2.ensures c.in_ok-fault-3.field-0 c.in_default-2.is
    (c.in_ok-fault-3.ensures before.visible (sees modules c.args.scope.now before w)) c.in-Some-3.fault c.in-Some-3.is)

pub returns : goal.returns
returns c =
    let r = c.args.register.now in
    let n = named_of r.ident in
    let t = type_of r.ty in
    IfOk-weaker c.in_reset.result _ _
    (λ f held. λ modules before w.
    let after = with_declaration before n (component.register t) in
    let named = c.in_ok-fault.ensures modules before w in
    let walked =
    c.in_ok-declare.ensures.walks modules before (component.register t) w (is_new before n c.in_ok-fault.field-0 c.in_default.is named) refl in
    record {
      first =
          reset_reached before n t (expr_of r.clock) (option_map reset_of r.reset) c.in_ok-fault.field-0 c.in_ok-fault-2.field-0 c.in_default.is named
          c.in_ok-fault-2.ensures c.in_ok-fault-3.field-0 c.in_default-2.is
          (c.in_ok-fault-3.ensures before.visible (sees modules c.args.scope.now before w)) f c.in_default-3.is
          (held after.visible (sees modules c.declare.new.self after walked));
      walked = λ none. walked;
      still_open = λ none. c.declare.ensures.still_open;
    })
    c.in_reset.ensures
