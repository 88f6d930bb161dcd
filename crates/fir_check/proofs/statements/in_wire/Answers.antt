use Rattle.std.proofs.Common.{refl}
use Rattle.fir_ast.specs.working.TypeViews.{type_of}
use Rattle.fir_meaning.specs.Components.{wire}
use Rattle.fir_types.proofs.GrownScopes.{walks_declared}
use Rattle.fir_check.proofs.statements.in_wire.Goals as goal

pub returns : goal.returns
returns c = λ modules bundles before n walks.
    let d = c.in_ok-declare.ensures in
    let t = type_of c.args.ty.now in
    (refl, walks_declared modules bundles c.args.scope.now c.declare.new.self before n (wire t) t walks d refl, record { more = d.more; grown = d.grown })
