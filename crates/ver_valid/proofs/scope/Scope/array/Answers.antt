use Rattle.std.proofs.Common.{ℕ, sym, ◌∙◌}
use Rattle.std.proofs.lemmas.Result.{err_from_is_err_and}
use Rattle.ver_valid.specs.working.Scopes.{HasArray}
use Rattle.ver_valid.proofs.Judging.{denied}
use Rattle.ver_valid.proofs.Told.{array_size, no_array, not_an_array}
use Rattle.ver_valid.proofs.scope.Scope.array.Goals as goal

pub returns-in_err-find : goal.returns-in_err-find
returns-in_err-find c =
    λ v t. let p = err_from_is_err_and c.from_residual.result c.from_residual.ensures.1 in rw (p.1, p.2)
    (denied _ ((u : ℕ) × HasArray v c.args.name.now u) (not_an_array c.args.self.now c.args.name.now v t c.in_err-find.ensures))

pub returns-in-Some : goal.returns-in-Some
returns-in-Some c = λ v t. array_size c.args.self.now c.args.name.now v t _ _ c.in_ok-find.ensures (sym c.word_width.ensures ∙ c.in-Some.is)

pub returns-in-None : goal.returns-in-None
returns-in-None c = λ v t. no_array c.args.self.now c.args.name.now v t _ c.in_ok-find.ensures (sym c.word_width.ensures ∙ c.in-None.is)
