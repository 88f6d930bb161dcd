use Rattle.std.proofs.Common.{◌≡◌, ◌++◌, ℕ, List, length, map, Some, option_map, slice_get, refl, sym, ap, ap₂, ◌∙◌, subst}
use Rattle.std.proofs.lemmas.Option.{same_Some, slice_get-map, slice_get_read}
use Rattle.fir_ast.specs.working.Views.{circuit_of}
use Rattle.fir_elaborate.specs.declared.elaborated.ModuleCopy.{ModuleCopy}
use Rattle.fir_meaning.specs.Scenes.{IsSceneOf}
use Rattle.fir_meaning.specs.working.LeafedModules.{leafed_module}
use Rattle.fir_memory_clocks.proofs.FaultsAtSites.{fault_told}
use Rattle.fir_memory_clocks.proofs.memory_fault.fault_at.Goals as goal

pub returns : goal.returns
returns c = λ k s ns name at scene named declared low other_low.
    let circuit = circuit_of c.args.circuit.now in
    let copies = c.args.copies.now in
    let names = c.args.names.now in
    let site = c.args.site in
    let one = c.in-Some.ensures.lookup.3 in
    let two = c.in-Some-get.ensures.lookup.3 in
    let three = c.in-Some-get-2.ensures.lookup.3 in
    let copy = c.in-Some.copy.now in
    let list = c.in-Some-get.declared.now in
    let text = c.in-Some-get-2.name.now in
    let same : copy ≡ k = same_Some copy k (sym (slice_get_read copies (length copies) site.copy copy refl one.0 (one.1 copy)) ∙ at) in
    let own : list.items ≡ ns =
    same_Some list.items ns
    (sym (slice_get-map (λ ns. ns.items) names copy.module_number
    ∙ ap (option_map (λ ns. ns.items)) (slice_get_read names (length names) copy.module_number list refl two.0 (two.1 list)))
    ∙ ap (λ (q : ModuleCopy). slice_get (map (λ ns. ns.items) names) q.module_number) same ∙ named) in
    let is_name : text ≡ name =
    same_Some text name
    (sym (slice_get_read c.deref.result.now (length c.deref.result.now) site.memory.declaration text refl three.0 (three.1 text))
    ∙ ap (λ ys. slice_get ys site.memory.declaration) (c.deref.ensures.value ∙ own) ∙ declared) in
    let there = subst (λ (q : ModuleCopy). IsSceneOf circuit q.module_number s) (sym same) scene in
    let prefix : copy.prefix ≡ k.prefix = ap (λ (q : ModuleCopy). q.prefix) same in
    let clock = c.in_ok-clock.ensures in
    let other = c.in_ok-other_clock.ensures in
    ap Some
    (fault_told k.prefix (leafed_module s) name site.memory c.in_ok-memory.memory c.in_ok-clock.clock c.in_ok-other_clock.other_clock
    (c.in_ok-memory.ensures ∙ ap₂ (λ (a b : List ℕ). a ++ b) (c.as_bytes-prefix.ensures ∙ prefix) is_name)
    (clock.2 ∙ ap₂ (λ (a b : List ℕ). a ++ b) prefix (clock.1 s there low))
    (other.2 ∙ ap₂ (λ (a b : List ℕ). a ++ b) prefix (other.1 s there other_low)))
