-- The memories of the modules of a circuit without faults of names, types or widths have types.
use Rattle.std.proofs.Common.{◌≡◌, ℕ, zero, suc, ◌+◌, ◌<◌, List, [], ◌∷◌, flat_map, length, slice_get, Some, refl, sym, ap, ◌∙◌, subst, inl, inr, ⊎_elim, arith}
use Rattle.fir_base.specs.Lists.{In}
use Rattle.fir_base.proofs.Each.{all_at}
use Rattle.fir_base.proofs.Elements.{get_in}
use Rattle.fir_base.proofs.Empty.{empty_at, empty_right}
use Rattle.fir_meaning.specs.Visibility.{at_head, declarations}
use Rattle.fir_meaning.specs.SizedDeclarations.{numbered_modules}
use Rattle.fir_meaning.specs.WidthWalk.{shown_in_block, shown_in_module, shown_in_ports}
use Rattle.fir_meaning.specs.OverFaults.{over_rule}
use Rattle.fir_meaning.specs.ModuleScenes.{Scene, behind_all_ports}
use Rattle.fir_meaning.specs.LeafTypes.{LeafType}
use Rattle.fir_meaning.specs.working.WellTyped.{AreLegal}
use Rattle.fir_meaning.proofs.WellTypedCircuits.{well_typed}
use Rattle.fir_meaning.specs.working.LeafModules.{LeafArray, LeafDeclared, Role, computed, leaf_at, pipe, reading, sink, source}
use Rattle.fir_meaning.specs.working.LeafModules as role
use Rattle.fir_meaning.specs.working.LeafedModules.{leafed_module, module_leaves}
use Rattle.fir_leaf.proofs.DeclaredLeaves.{own_module}
use Rattle.fir_leaf_types.proofs.DeclarationsGrow.{grows_all}
use Rattle.fir_memory_types.specs.working.TypedMemories.{AreMemoriesTyped, IsArrayTyped, IsMemoryRoleTyped}
use Rattle.fir_memory_types.specs.working.Laws.{LeafedMemoriesAreTyped}
use Rattle.fir_memory_types.proofs.MemoryVisits.{IsPlain, MemoryVisit, arrays_among, visit_arrays, visit_leaves, visits_in}
use Rattle.fir_memory_types.proofs.VisitedModules.{IsOfVisit, module_viewed, module_visits}
use Rattle.fir_memory_types.proofs.ArrayPlaces.{first_array_of, found, stands_there}
use Rattle.fir_memory_types.proofs.FineMemories.{IsFine, block_fine}
use Rattle.fir_memory_types.proofs.VisitsTyped.{visit_array_typed, visit_arrays_long, visit_roles_typed}

pub leaf_among : (ls : List LeafDeclared) (x : ℕ) → x < length ls → In ls (leaf_at ls x)
leaf_among [] x lt = absurd (omega arith)
leaf_among (l ∷ ls) zero lt = inl refl
leaf_among (l ∷ ls) (suc x) lt = inr (leaf_among ls x (omega arith))

plain_typed : (leaves : List LeafDeclared) (arrays : List LeafArray) (h : LeafType) (r : Role) → IsPlain r → IsMemoryRoleTyped leaves arrays h r
plain_typed leaves arrays h source p = tt
plain_typed leaves arrays h sink p = tt
plain_typed leaves arrays h (computed e) p = tt
plain_typed leaves arrays h (role.register x r) p = tt
plain_typed leaves arrays h (reading r) p = absurd p
plain_typed leaves arrays h (pipe r x under) p = absurd p

module _ (s : Scene) (none : s.own.start.scope ≡ []) where
  abbrev IsEachFine : Type 0
  IsEachFine = (v : MemoryVisit) → In (module_visits s) v → IsFine s v

  placed : (v : MemoryVisit) → In (module_visits s) v → (i : ℕ) (a : LeafArray)
      → slice_get (visit_arrays s v) i ≡ Some a → slice_get (leafed_module s).arrays (first_array_of v + i) ≡ Some a
  placed v among i a e =
      let all = module_viewed s in
      let ds = declarations s.own.inside in
      ap (λ xs. slice_get xs (first_array_of v + i)) all.arrays_are
      ∙ stands_there (visit_arrays s) (visit_arrays_long s) 0 (module_visits s) (length ds) (arrays_among ds) all.between v among i a e

  pub each_typed : IsEachFine → AreMemoriesTyped (leafed_module s).leaves (leafed_module s).arrays
  each_typed fine = record { roles = roles_are; arrays_typed = arrays_are }
    where
      leaves : List LeafDeclared
      leaves = module_leaves s

      arrays : List LeafArray
      arrays = (leafed_module s).arrays

      roles_are : (x : ℕ) → x < length (module_leaves s)
          → IsMemoryRoleTyped (module_leaves s) (leafed_module s).arrays (leaf_at (module_leaves s) x).holds (leaf_at (module_leaves s) x).role
      roles_are x lt =
          let l = leaf_at (module_leaves s) x in
          ⊎_elim (λ (p : IsPlain l.role). plain_typed (module_leaves s) (leafed_module s).arrays l.holds l.role p)
          (λ (o : IsOfVisit s (module_visits s) l).
          let v = o.visit in
          all_at (λ (y : LeafDeclared). IsMemoryRoleTyped (module_leaves s) (leafed_module s).arrays y.holds y.role) (visit_leaves s v)
          (visit_roles_typed s none v (fine v o.among) (leafed_module s).arrays (placed v o.among)) l o.leaf)
          ((module_viewed s).leaves_are l (leaf_among (module_leaves s) x lt))

      arrays_are : (k : ℕ) (a : LeafArray) → slice_get (leafed_module s).arrays k ≡ Some a → IsArrayTyped (module_leaves s) a
      arrays_are k a e =
          let all = module_viewed s in
          let ds = declarations s.own.inside in
          let there : slice_get (flat_map (visit_arrays s) (module_visits s)) k ≡ Some a = ap (λ xs. slice_get xs k) (sym all.arrays_are) ∙ e in
          let f = found (visit_arrays s) (visit_arrays_long s) 0 (module_visits s) (length ds) (arrays_among ds) all.between k a there in
          visit_array_typed s none f.visit (fine f.visit f.among) (leafed_module s).arrays (placed f.visit f.among) f.at a f.is_there

pub memories_typed : LeafedMemoriesAreTyped
memories_typed c module_number s names types scene over =
    let i = get_in (numbered_modules c) module_number s.own scene.own in
    let own = own_module c s.own i in
    let head = behind_all_ports s.own.inside in
    let body = s.own.inside.body in
    let is_legal : AreLegal s.own.modules (behind_all_ports s.own.inside) s.own.inside.body =
    subst (λ ms. AreLegal ms (behind_all_ports s.own.inside) s.own.inside.body) (sym own.modules) ((well_typed c names).0 types s.own.inside own.inside) in
    let within = empty_at (shown_in_module (over_rule s.widths)) (numbered_modules c) over s.own i in
    let over_ports = shown_in_ports (over_rule s.widths) s.own at_head s.own.inside.ports in
    let over_body = shown_in_block (over_rule s.widths) s.own head body in
    let each = block_fine s body head (grows_all (declarations s.own.inside)) is_legal (empty_right over_ports over_body within) in
    each_typed s own.start (λ v among. all_at (IsFine s) (visits_in head body) each v among)
