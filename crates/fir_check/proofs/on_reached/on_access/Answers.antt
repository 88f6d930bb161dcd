use Rattle.std.proofs.Common.{◌∷◌, [], ◌++◌}
use Rattle.std.proofs.lemmas.Result.{err_from_is_err_and}
use Rattle.fir_meaning.specs.Checked.{together}
use Rattle.fir_meaning.specs.LeafPaths.{element}
use Rattle.fir_meaning.specs.Reaching.{to_any}
use Rattle.fir_type_table.specs.working.Tables.{types_of}
use Rattle.fir_types.specs.working.Seen.{found_type, reached_as}
use Rattle.fir_check.proofs.CheckedForms.{own_fault, together_is}
use Rattle.fir_check.proofs.on_reached.on_access.Goals as goal

pub returns-in_err-to_any-in-Some-Some-clause-reached : goal.returns-in_err-to_any-in-Some-Some-clause-reached
returns-in_err-to_any-in-Some-Some-clause-reached c =
    let p = err_from_is_err_and c.from_residual.result c.from_residual.ensures.1 in
    let ts = types_of c.args.table.now in
    λ path d index is at. rw (p.1, p.2)
    (own_fault (reached_as ts (path ++ element 0 ∷ [])) (to_any c.args.place) (together (λ r t. r) d index) (reached_as ts path c.in-Some-Some.reached) _
    (together_is (λ r t. r) d index (reached_as ts path c.in-Some-Some.reached) (found_type ts c.in-Some-Some.field-0-1) (rw c.in-Some-Some.is-0 at is) (rw c.in-Some-Some.is-1 at at))
    (c.in_err-to_any-in-Some-Some.ensures.reached path))
