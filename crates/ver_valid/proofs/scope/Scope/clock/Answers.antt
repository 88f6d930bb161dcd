use Rattle.std.proofs.Common.{◌∙◌, ap}
use Rattle.std.specs.Prelude.{Some}
use Rattle.std.proofs.lemmas.Result.{err_from_is_err_and}
use Rattle.fir_base.specs.Lists.{In}
use Rattle.ver_ast.specs.Nets.{clocks}
use Rattle.ver_valid.specs.declared.declared.Declared.{Declared}
use Rattle.ver_valid.proofs.Judging.{denied}
use Rattle.ver_valid.proofs.Told.{a_clock, no_clock, not_a_clock}
use Rattle.ver_valid.proofs.scope.Scope.clock.Goals as goal

pub returns-in_err-find : goal.returns-in_err-find
returns-in_err-find c =
    λ v t. let p = err_from_is_err_and c.from_residual.result c.from_residual.ensures.1 in rw (p.1, p.2)
    (denied _ (In (clocks v) c.args.name.now) (not_a_clock c.args.self.now c.args.name.now v t c.in_err-find.ensures))

pub returns-in-ClockInput : goal.returns-in-ClockInput
returns-in-ClockInput c = λ v t. a_clock c.args.self.now c.args.name.now v t (c.in_ok-find.ensures ∙ ap (λ (d : Declared). Some d) c.in-ClockInput.is)

pub returns-in_default : goal.returns-in_default
returns-in_default c = λ v t. no_clock c.args.self.now c.args.name.now v t _ c.in_ok-find.ensures c.in_default.not-ClockInput
