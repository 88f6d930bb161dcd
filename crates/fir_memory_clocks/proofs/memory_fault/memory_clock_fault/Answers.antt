use Rattle.std.proofs.Common.{map, subst}
use Rattle.std.proofs.lemmas.Result.{IfOk-weaker}
use Rattle.fir_ast.specs.declared.circuit.Circuit.{Circuit}
use Rattle.fir_ast.specs.working.Views.{circuit_of}
use Rattle.fir_leaf_circuit.specs.working.Leafed.{AreLeafed}
use Rattle.fir_whens.specs.working.ModuleNets.{AreAllTyped}
use Rattle.fir_memory_clocks.specs.working.MemoriesTold.{TellsSite}
use Rattle.fir_memory_clocks.proofs.ToldMemories.{is_told_of, shows_none}
use Rattle.fir_memory_clocks.proofs.memory_fault.memory_clock_fault.Goals as goal

pub returns-in_default : goal.returns-in_default
returns-in_default c =
    let same = c.leafed-leafed.ensures.tree in
    shows_none (circuit_of c.args.circuit.now) c.args.copies.now c.requires.copies
    (subst (λ (t : Circuit). AreAllTyped (circuit_of t)) same c.modules_are_typed.ensures) c.leafed-leafed.ensures.driven c.modules.result.now
    (subst (λ (t : Circuit). AreLeafed (circuit_of t) c.modules.result.now) same c.modules.ensures.leafed) c.nets.result.now c.nets.ensures.nets
    c.in_ok-found.found.items c.in_ok-found.ensures (rw c.deref.ensures.value at c.in_default.ensures) c.has_one_tree.ensures
    c.memory_faults_stand_by_path.ensures

pub returns : goal.returns
returns c =
    let same = c.leafed-leafed.ensures.tree in
    let names = map (λ ns. ns.items) c.args.names.now in
    let site = c.in-Some.site in
    IfOk-weaker c.fault_at.result _ _
    (λ f tells.
    is_told_of (circuit_of c.args.circuit.now) c.args.copies.now c.requires.copies
    (subst (λ (t : Circuit). AreAllTyped (circuit_of t)) same c.modules_are_typed.ensures) c.leafed-leafed.ensures.driven c.modules.result.now
    (subst (λ (t : Circuit). AreLeafed (circuit_of t) c.modules.result.now) same c.modules.ensures.leafed) c.nets.result.now c.nets.ensures.nets
    c.in_ok-found.found.items c.in_ok-found.ensures site (rw c.deref.ensures.value at c.in-Some.ensures) names c.requires.names f
    (subst (λ (t : Circuit). TellsSite (circuit_of t) names c.args.copies.now site f) same tells) c.has_one_tree.ensures
    c.memory_faults_stand_by_path.ensures) c.fault_at.ensures
