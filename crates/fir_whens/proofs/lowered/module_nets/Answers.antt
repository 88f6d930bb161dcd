use Rattle.std.proofs.Common.{length, refl}
use Rattle.std.proofs.lemmas.Option.{slice_get_read}
use Rattle.fir_ast.specs.working.Views.{circuit_of}
use Rattle.fir_whens.proofs.NetsOfCircuits.{net_there, one_more_net}
use Rattle.fir_whens.proofs.lowered.module_nets.Goals as goal

pub loop-part-preserved : goal.loop-part-preserved
loop-part-preserved c =
    let tree = circuit_of c.args.circuit.now in
    let modules = c.modules-part-items.result.now in
    let k = c.loop-part.part-index in
    let part = c.part-item.result in
    let net = c.in_ok-module_net.field-0 in
    let at = slice_get_read modules (length modules) k part refl c.loop-part-test.true c.part-item.is in
    rw c.in_ok-push.ensures.items
    (one_more_net tree c.loop-part.nets.items k net
    (net_there tree modules k part net c.modules-part-items.ensures.leafed c.modules_are_typed.ensures at c.in_ok-module_net.ensures) c.loop-part.invariant)
