-- The arrays of a module stand in the order in which their memories are declared.
use Rattle.std.proofs.Common.{◌≡◌, ℕ, ◌<◌, ◌≤◌, flat_map, length, slice_get, Some, sym, ap, ◌∙◌, ◌⊎◌, ⊎_elim, arith}
use Rattle.std.proofs.lemmas.List.{length-map}
use Rattle.fir_meaning.specs.Components.{Declaration}
use Rattle.fir_meaning.specs.FoundTypes.{leaves_of_data}
use Rattle.fir_meaning.specs.HeldTypes.{held_types}
use Rattle.fir_meaning.specs.MemoryTypes.{data_of_part, first_one}
use Rattle.fir_meaning.specs.SizedMemories.{sized_array}
use Rattle.fir_meaning.specs.Visibility.{declarations}
use Rattle.fir_meaning.specs.ModuleScenes.{Scene}
use Rattle.fir_meaning.specs.working.LeafModules.{LeafArray}
use Rattle.fir_meaning.specs.working.LeafedModules.{leafed_module}
use Rattle.fir_memory_types.specs.working.Laws.{LeafedArraysAreInOrder}
use Rattle.fir_memory_types.proofs.MemoryVisits.{MemoryVisit, arrays_among, memory_of, visit_arrays}
use Rattle.fir_memory_types.proofs.VisitedModules.{module_viewed, module_visits}
use Rattle.fir_memory_types.proofs.ArrayPlaces.{Found, StandsBefore, apart, declared_below, found}
use Rattle.fir_memory_types.proofs.VisitsTyped.{array_from, visit_arrays_long}

module _ (s : Scene) where
  found_in : (k : ℕ) (a : LeafArray) → slice_get (leafed_module s).arrays k ≡ Some a
      → Found (visit_arrays s) (visit_arrays_long s) (module_visits s) k a
  found_in k a e =
      let all = module_viewed s in
      let ds = declarations s.own.inside in
      let there : slice_get (flat_map (visit_arrays s) (module_visits s)) k ≡ Some a = ap (λ xs. slice_get xs k) (sym all.arrays_are) ∙ e in
      found (visit_arrays s) (visit_arrays_long s) 0 (module_visits s) (length ds) (arrays_among ds) all.between k a there

  declared_by : (k : ℕ) (a : LeafArray)
      (f : Found (visit_arrays s) (visit_arrays_long s) (module_visits s) k a)
      → a.declaration ≡ length f.visit.before.declared
  declared_by k a f =
      let v = f.visit in
      (array_from (memory_of s v) 0 (leaves_of_data (first_one (flat_map data_of_part v.parts))) (held_types s.widths (sized_array v.parts)) f.at a
      f.is_there).2.declaration

  rising : (i j : ℕ) (a b : LeafArray) → i ≤ j → slice_get (leafed_module s).arrays i ≡ Some a → slice_get (leafed_module s).arrays j ≡ Some b
      → a.declaration ≤ b.declaration
  rising i j a b le e g =
      let all = module_viewed s in
      let ds = declarations s.own.inside in
      let f = found_in i a e in
      let h = found_in j b g in
      let of_a = declared_by i a f in
      let of_b = declared_by j b h in
      ⊎_elim (λ (same : f.visit ≡ h.visit). omega (arith, of_a, of_b, ap (λ (v : MemoryVisit). length v.before.declared) same))
      (λ (o : StandsBefore f.visit h.visit ⊎ StandsBefore h.visit f.visit).
      ⊎_elim (λ (x : StandsBefore f.visit h.visit). omega (arith, of_a, of_b, x.declared))
      (λ (x : StandsBefore h.visit f.visit). absurd (omega (arith, le, f.is, h.is, h.below, x.arrays))) o)
      (apart 0 0 (module_visits s) (length ds) (arrays_among ds) all.between f.visit h.visit f.among h.among)

  within : (k : ℕ) (a : LeafArray) → slice_get (leafed_module s).arrays k ≡ Some a → a.declaration < length (leafed_module s).declared
  within k a e =
      let ds = declarations s.own.inside in
      let f = found_in k a e in
      omega (
        arith,
        declared_by k a f,
        declared_below 0 0 (module_visits s) (length ds) (arrays_among ds) (module_viewed s).between f.visit f.among,
        length-map ds (λ (d : Declaration). d.named),
      )

pub arrays_in_order : LeafedArraysAreInOrder
arrays_in_order s = record { rising = rising s; within = within s }
