use Rattle.std.proofs.Common.{subst}
use Rattle.fir_ast.specs.working.Views.{circuit_of}
use Rattle.fir_whens.specs.working.ModuleFaults.{AreAllDriven}
use Rattle.fir_whens.specs.working.ModuleNets.{AreAllTyped}
use Rattle.fir_whens.specs.working.NetCircuits.{AreNets}
use Rattle.fir_whens.proofs.NetsOfCircuits.{nets_give}
use Rattle.fir_whens.proofs.net_circuit.NetCircuit.nets.Goals as goal

pub returns-clause-give : goal.returns-clause-give
returns-clause-give c =
    let tree = c.args.self.now in
    let nets = c.self.inside.nets.items in
    let typed : AreAllTyped (circuit_of tree) = subst (λ t. AreAllTyped (circuit_of t)) c.self.view_is c.modules_are_typed.ensures in
    let driven : AreAllDriven (circuit_of tree) = subst (λ t. AreAllDriven (circuit_of t)) c.self.view_is c.self.invariant.1 in
    let are : AreNets (circuit_of tree) nets = subst (λ t. AreNets (circuit_of t) nets) c.self.view_is c.self.invariant.2 in
    rw c.deref.ensures.value (nets_give (circuit_of tree) nets c.roles_are_worth.ensures c.roles_read_the_same.ensures typed driven are)
