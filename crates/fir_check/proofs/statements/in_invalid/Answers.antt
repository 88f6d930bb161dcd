use Rattle.std.proofs.lemmas.Result.{err_from_is_err_and}
use Rattle.fir_check.proofs.statements.in_invalid.Goals as goal

pub returns-in_err-in_reference-clause-found : goal.returns-in_err-in_reference-clause-found
returns-in_err-in_reference-clause-found c =
    let p = err_from_is_err_and c.from_residual.result c.from_residual.ensures.1 in
    λ typed knows. rw (p.1, p.2) (c.in_err-in_reference.ensures.found typed knows)

pub returns-clause-found : goal.returns-clause-found
returns-clause-found c = λ typed knows. (c.in_ok-in_reference.ensures.found typed knows).none
