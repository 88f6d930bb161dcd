use Rattle.std.proofs.Common.{ℕ, sym, ◌∙◌}
use Rattle.std.proofs.lemmas.Result.{err_from_is_err_and}
use Rattle.fir_base.specs.Lists.{In}
use Rattle.ver_ast.specs.Nets.{nets}
use Rattle.ver_valid.proofs.Judging.{denied}
use Rattle.ver_valid.proofs.Told.{net_size, no_net, not_a_net}
use Rattle.ver_valid.proofs.scope.Scope.net.Goals as goal

pub returns-in_err-find : goal.returns-in_err-find
returns-in_err-find c =
    λ v t. let p = err_from_is_err_and c.from_residual.result c.from_residual.ensures.1 in rw (p.1, p.2)
    (denied _ ((u : ℕ) × In (nets v) (c.args.name.now, u)) (not_a_net c.args.self.now c.args.name.now v t c.in_err-find.ensures))

pub returns-in-Some : goal.returns-in-Some
returns-in-Some c = λ v t. net_size c.args.self.now c.args.name.now v t _ _ c.in_ok-find.ensures (sym c.net_width.ensures ∙ c.in-Some.is)

pub returns-in-None : goal.returns-in-None
returns-in-None c = λ v t. no_net c.args.self.now c.args.name.now v t _ c.in_ok-find.ensures (sym c.net_width.ensures ∙ c.in-None.is)
