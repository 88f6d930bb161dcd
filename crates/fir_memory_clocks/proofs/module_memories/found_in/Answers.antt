use Rattle.std.proofs.Common.{◌≡◌, length, refl, sym, subst, ◌∙◌}
use Rattle.std.proofs.lemmas.Option.{same_Some, slice_get_read}
use Rattle.std.proofs.lemmas.Result.{IfOk-weaker}
use Rattle.fir_leaf_circuit.specs.declared.leaf_module.LeafModule.{LeafModule}
use Rattle.fir_whens.specs.declared.module_net.ModuleNet.{ModuleNet}
use Rattle.fir_memory_clocks.specs.working.ModuleMemories.{IsFirstOf}
use Rattle.fir_memory_clocks.proofs.module_memories.found_in.Goals as goal

pub returns : goal.returns
returns c =
    let one = c.in-Some.ensures.lookup.3 in
    let other = c.in-Some-get.ensures.lookup.3 in
    let part = c.in-Some.module.now in
    let net = c.in-Some-get.net.now in
    IfOk-weaker c.first_in_module.result _ _
    (λ v found p n of by is.
    let same : part ≡ p =
    same_Some part p (sym (slice_get_read c.args.modules.now (length c.args.modules.now) c.args.number part refl one.0 (one.1 part)) ∙ of) in
    let same_net : net ≡ n =
    same_Some net n (sym (slice_get_read c.args.nets.now (length c.args.nets.now) c.args.number net refl other.0 (other.1 net)) ∙ by) in
    subst (λ (q : LeafModule). IsFirstOf q n v) same (subst (λ (q : ModuleNet). IsFirstOf part q v) same_net found)) c.first_in_module.ensures
