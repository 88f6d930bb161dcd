use Rattle.std.proofs.Common.{ℕ, ◌∙◌, ap, sym, ◌⊎◌}
use Rattle.std.specs.Prelude.{Some}
use Rattle.std.proofs.lemmas.Result.{err_from_is_err_and}
use Rattle.fir_base.specs.Lists.{In}
use Rattle.ver_ast.specs.Nets.{output_clocks}
use Rattle.ver_valid.specs.declared.declared.Declared.{Declared}
use Rattle.ver_valid.specs.working.Scopes.{driven_nets}
use Rattle.ver_valid.proofs.Judging.{denied}
use Rattle.ver_valid.proofs.Told.{clock_target, net_target, no_target, not_a_target}
use Rattle.ver_valid.proofs.scope.Scope.target.Goals as goal

pub returns-in_err-declared : goal.returns-in_err-declared
returns-in_err-declared c =
    λ v t. let p = err_from_is_err_and c.from_residual.result c.from_residual.ensures.1 in rw (p.1, p.2)
    (denied _ (In (output_clocks v) c.args.name.now ⊎ ((w : ℕ) × In (driven_nets v) (c.args.name.now, w)))
    (not_a_target c.args.self.now c.args.name.now v t c.in_err-declared.ensures))

pub returns-in-ClockOutput : goal.returns-in-ClockOutput
returns-in-ClockOutput c =
    λ v t. clock_target c.args.self.now c.args.name.now v t (c.in_ok-declared.ensures ∙ ap (λ (d : Declared). Some d) c.in-ClockOutput.is)

pub returns-in-Some : goal.returns-in-Some
returns-in-Some c =
    λ v t. net_target c.args.self.now c.args.name.now v t _ _ c.in_ok-declared.ensures c.in_default.not-ClockOutput
    (sym c.driven_width.ensures ∙ c.in-Some.is)

pub returns-in-None : goal.returns-in-None
returns-in-None c =
    λ v t. no_target c.args.self.now c.args.name.now v t _ c.in_ok-declared.ensures c.in_default.not-ClockOutput
    (sym c.driven_width.ensures ∙ c.in-None.is)
