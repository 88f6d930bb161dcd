use Rattle.std.proofs.Common.{◌+◌, ◌^◌, ◌<◌, sym, subst, ◌∙◌, arith}
use Rattle.std.proofs.lemmas.Result.{IfOk-weaker}
use Rattle.fir_net_names.specs.working.NameSets.{IsPassed}
use Rattle.fir_net_names.proofs.FreeNames.{base_for, suffix_for}
use Rattle.fir_net_names.proofs.free_name.free_name.Goals as goal

pub returns-then-is_free-clause-named : goal.returns-then-is_free-clause-named
returns-then-is_free-clause-named c =
    IfOk-weaker c.copy.result _ _ (λ name is names h. base_for c.args.taken.now.names names c.args.base.now name (sym c.is_free.ensures ∙ c.if-is_free.true) is h) c.copy.ensures

pub overflow_cast-number : goal.overflow_cast-number
overflow_cast-number c = let small : c.in_ok-name.field-0.number < 0 + 2 ^ 63 = c.in_ok-name.ensures.high in omega arith

pub set_start-requires : goal.set_start-requires
set_start-requires c =
    let set = c.args.taken.now.names in
    let number = c.in_ok-name.field-0.number in
    subst (λ base. IsPassed set base number) (sym c.in_ok-copy.ensures) (λ k low. c.in_ok-name.ensures.before k (omega arith) low)

pub returns-clause-named : goal.returns-clause-named
returns-clause-named c =
    λ names h. suffix_for c.args.taken.now.names names c.args.base.now c.in_ok-name.field-0 (sym c.is_free.ensures ∙ c.if-is_free.false) c.in_ok-name.ensures h
