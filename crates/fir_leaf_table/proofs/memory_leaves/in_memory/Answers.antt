use Rattle.std.proofs.Common.{◌≡◌, ℕ, ◌∷◌, [], map, refl, ap, ◌∙◌, subst}
use Rattle.std.specs.Prelude.{flat_map, slice_index_or}
use Rattle.std.proofs.lemmas.Result.{on_ok_weaker}
use Rattle.fir_ast.specs.working.Views.{memory_part_of, named_of}
use Rattle.fir_meaning.specs.Components as component
use Rattle.fir_meaning.specs.Components.{Declaration}
use Rattle.fir_meaning.specs.Costs.{sum_of}
use Rattle.fir_meaning.specs.MemoryTypes.{data_of_part, first_one}
use Rattle.fir_meaning.specs.SizedMemories.{sized_array}
use Rattle.fir_ground.specs.working.DeclarationDrivers.{others}
use Rattle.fir_meaning.specs.HeldTypes.{held_types}
use Rattle.fir_meaning.specs.working.LeafedModules.{memory_arrays, memory_before, role_in}
use Rattle.fir_meaning.specs.working.LeafMemories.{arrays_of, memory_behind, memory_declared, memory_roles}
use Rattle.fir_meaning.specs.FoundTypes.{leaves_of_data}
use Rattle.fir_meaning.specs.working.LeafModules.{source}
use Rattle.fir_leaf_table.specs.declared.giver.Giver.TheVariants as giver
use Rattle.fir_leaf_table.specs.declared.places.Places.TheVariants as places
use Rattle.fir_leaf_table.specs.declared.walk.Walk.{Walk}
use Rattle.fir_leaf_table.specs.working.Memories.{IsMemory}
use Rattle.fir_leaf_circuit.specs.working.Seen.{role_seen}
use Rattle.fir_leaf_table.proofs.DeclarationWalks.{leaves_come}
use Rattle.fir_leaf_table.proofs.MemoryWalks.{data_held, memory_here, memory_ready}
use Rattle.fir_leaf_table.proofs.NextDrivers.{takes_rest}
use Rattle.fir_leaf_table.proofs.memory_leaves.in_memory.Goals as goal

pub returns : goal.returns
returns c = λ place circuit s before nodes rest enters declared.
    let n = named_of c.args.memory.now.ident in
    let parts = map memory_part_of c.args.memory.now.fields.items in
    let part = component.memory parts in
    let old = c.args.walk.now in
    let taken = c.next_driver.new.self in
    let mid : Walk = record taken { arrays = c.push_arrays.new.arrays; memories = c.push_clocks.new.memories } in
    let held = held_types s.widths (sized_array parts) in
    let meant = memory_before s before n parts in
    let words = leaves_of_data (first_one (flat_map data_of_part parts)) in
    let made = c.in_ok-made.made in
    let first : ℕ = c.len-leaves.result in
    let many : c.len.result ≡ sum_of (map (λ (d : Declaration). arrays_of d.component) before.declared) =
    c.len.ensures ∙ old.arrays.ok.0 ∙ enters.counts.arrays in
    let behind : IsMemory made (memory_behind before.declared first n parts) held =
    subst (λ fs. IsMemory made (memory_behind before.declared first n (map memory_part_of fs)) (held_types s.widths (sized_array (map memory_part_of fs))))
    c.deref.ensures.value (c.in_ok-made.ensures before.declared n s.widths enters.counts.declared many) in
    let is : IsMemory made meant held = memory_here s before n parts made first old enters.counts (c.len-leaves.ensures ∙ old.leaves.ok.0) behind in
    on_ok_weaker c.push_leaves.result
    (λ pushes.
    leaves_come c.args.frame.now circuit s before n part nodes (others ∷ rest) rest c.args.depth (places.Own n.place) (giver.Memory c.deref-2.result)
    (λ l. n.place) (role_in (memory_roles meant)) (memory_arrays s meant parts) (memory_declared meant ∷ []) old mid c.push_leaves.new.walk enters declared
    (memory_ready s before n parts made is nodes rest old taken mid c.next_driver.ensures.stays
    (takes_rest nodes others rest _ taken (c.next_driver.ensures.takes nodes others rest enters.drivers)) refl
    (c.in_ok-push_arrays.ensures meant words held is (data_held s before n parts made is)) (c.in_ok-push_clocks.ensures meant held is))
    pushes
    (λ k l there. record {
      place = refl;
      role =
          ap (λ rs. slice_index_or rs k source) (ap (map (role_seen nodes)) c.deref-2.ensures.value ∙ c.in_ok-roles.ensures nodes meant held is);
    }))
    c.push_leaves.ensures
