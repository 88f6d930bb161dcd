use Rattle.std.proofs.Common.{◌∷◌, [], ◌++◌}
use Rattle.std.proofs.lemmas.Result.{err_from_is_err_and}
use Rattle.fir_meaning.specs.LeafPaths.{element}
use Rattle.fir_meaning.specs.Reaching.{to_index}
use Rattle.fir_type_table.specs.working.Tables.{types_of}
use Rattle.fir_types.specs.working.Seen.{reached_as}
use Rattle.fir_check.proofs.CheckedForms.{own_fault}
use Rattle.fir_check.proofs.on_reached.on_index.Goals as goal

pub returns-in_err-to_index-in-Some-clause-reached : goal.returns-in_err-to_index-in-Some-clause-reached
returns-in_err-to_index-in-Some-clause-reached c =
    let p = err_from_is_err_and c.from_residual.result c.from_residual.ensures.1 in
    let ts = types_of c.args.table.now in
    λ path d is. rw (p.1, p.2)
    (own_fault (reached_as ts (path ++ element c.args.index ∷ [])) (to_index c.args.place c.args.index) d (reached_as ts path c.in-Some.reached) _ (rw c.in-Some.is at is) (c.in_err-to_index-in-Some.ensures.reached path))
