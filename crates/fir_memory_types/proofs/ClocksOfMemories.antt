-- Which memory of a module an array is of, and that the clocks of all that reads it at edges and of all that writes it are those of this memory's ports.
use Rattle.std.proofs.Common.{◌≡◌, ℕ, zero, suc, ◌+◌, List, [], ◌∷◌, flat_map, length, slice_get, Some, refl, sym, ap, ◌∙◌, subst, inl, inr, ◌⊎◌, ⊎_elim}
use Rattle.std.specs.Prelude.{slice_index_or}
use Rattle.fir_base.specs.Lists.{In}
use Rattle.fir_base.proofs.Members.{in_map}
use Rattle.fir_ast.specs.declared.place.Place.{Place}
use Rattle.fir_ast.specs.declared.statements.ReadUnderWrite.{ReadUnderWrite}
use Rattle.fir_meaning.specs.Components as component
use Rattle.fir_meaning.specs.FoundTypes.{leaves_of_data}
use Rattle.fir_meaning.specs.LeafTypes.{LeafType}
use Rattle.fir_meaning.specs.MemoryTypes.{data_of_part, first_one}
use Rattle.fir_meaning.specs.SizedMemories.{sized_array}
use Rattle.fir_meaning.specs.HeldTypes.{held_types}
use Rattle.fir_meaning.specs.TypeLeaves.{TypeLeaf}
use Rattle.fir_meaning.specs.Visibility.{declarations}
use Rattle.fir_meaning.specs.ModuleScenes.{Declared, Scene, held_by_declared, type_of_declared}
use Rattle.fir_meaning.specs.working.LeafMemories.{memory_roles}
use Rattle.fir_meaning.specs.working.LeafModules.{LeafArray, LeafDeclared, Reading, Role, leaf_at, no_leaf, pipe, role_at, source}
use Rattle.fir_meaning.specs.working.LeafedModules.{leafed_module, leaves_from, module_leaves, role_in}
use Rattle.fir_memory_types.specs.working.TypedMemories.{IsOfMemory}
use Rattle.fir_memory_types.specs.working.Laws.{LeafedClocksAreOfMemories}
use Rattle.fir_memory_types.proofs.MemoryVisits.{IsPlain, MemoryVisit, arrays_among, memory_of, visit_arrays, visit_leaves, visit_memory}
use Rattle.fir_memory_types.proofs.VisitedModules.{IsOfVisit, module_viewed, module_visits}
use Rattle.fir_memory_types.proofs.ArrayPlaces.{Found, found, same_memory}
use Rattle.fir_memory_types.proofs.PortClocks.{IsPipeOf, pipe_of_port, role_among, writing_clock}
use Rattle.fir_memory_types.proofs.VisitsTyped.{array_from, visit_arrays_long}

leaf_or_none : (ls : List LeafDeclared) (x : ℕ) → In ls (leaf_at ls x) ⊎ (leaf_at ls x ≡ no_leaf)
leaf_or_none [] x = inr refl
leaf_or_none (l ∷ ls) zero = inl (inl refl)
leaf_or_none (l ∷ ls) (suc x) =
    ⊎_elim (λ (h : In ls (leaf_at ls x)). inl (inr h)) (λ (h : leaf_at ls x ≡ no_leaf). inr h) (leaf_or_none ls x)

-- the leaves of a declaration whose leaves have roles in order
role_from : (d : Declared) (place : TypeLeaf → Place) (roles : List Role) (k : ℕ) (ls : List TypeLeaf) (hs : List LeafType) (l : LeafDeclared)
    → In (leaves_from d place (role_in roles) k ls hs) l → (j : ℕ) × (l.role ≡ slice_index_or roles j source)
role_from d place roles k [] hs l among = absurd among
role_from d place roles k (x ∷ ls) [] l among = absurd among
role_from d place roles k (x ∷ ls) (h ∷ hs) l (inl e) = (k, ap (λ (y : LeafDeclared). y.role) (sym e))
role_from d place roles k (x ∷ ls) (h ∷ hs) l (inr among) = role_from d place roles (suc k) ls hs l among

module _ (s : Scene) where
  -- a pipe among the leaves of a memory
  visit_pipe : (v : MemoryVisit) (l : LeafDeclared) → In (visit_leaves s v) l → (r : Reading) (clock : ℕ) (under : ReadUnderWrite)
      → l.role ≡ pipe r clock under → IsPipeOf (memory_of s v) r clock under (visit_memory s v).port_clocks
  visit_pipe v l among r clock under e =
      let m = memory_of s v in
      let d : Declared = record { named = v.named; component = component.memory v.parts; before = v.before } in
      let at =
      role_from d (λ x. v.named.place) (memory_roles m) 0 (leaves_of_data (type_of_declared s d)) (held_by_declared s d) l among in
      pipe_of_port m r clock under m.first m.ports (role_among (memory_roles m) at.0 r clock under (sym at.1 ∙ e))

  module _ (k : ℕ) (a : LeafArray) (f : Found (visit_arrays s) (visit_arrays_long s) (module_visits s) k a) where
    pipe_is : (l : LeafDeclared) → IsOfVisit s (module_visits s) l → (r : Reading) (clock : ℕ)
        (under : ReadUnderWrite) → l.role ≡ pipe r clock under → r.array ≡ k → In (visit_memory s f.visit).port_clocks clock
    pipe_is l o r clock under e same =
        let all = module_viewed s in
        let ds = declarations s.own.inside in
        let p = visit_pipe o.visit l o.leaf r clock under e in
        let one : o.visit ≡ f.visit =
        same_memory 0 0 (module_visits s) (length ds) (arrays_among ds) all.between o.visit f.visit o.among f.among p.at f.at p.below f.below
        (sym p.array ∙ same ∙ f.is) in
        subst (λ v. In (visit_memory s v).port_clocks clock) one p.clock_is

    of_pipes : (x : ℕ) (r : Reading) (clock : ℕ) (under : ReadUnderWrite) → role_at (leafed_module s) x ≡ pipe r clock under → r.array ≡ k
        → In (visit_memory s f.visit).port_clocks clock
    of_pipes x r clock under e same =
        let l = leaf_at (module_leaves s) x in
        ⊎_elim
        (λ (i : In (module_leaves s) l).
        ⊎_elim (λ (p : IsPlain l.role). absurd (subst IsPlain e p)) (λ (o : IsOfVisit s (module_visits s) l). pipe_is l o r clock under e same)
        ((module_viewed s).leaves_are l i))
        (λ (n : l ≡ no_leaf). let no : source ≡ pipe r clock under = ap (λ (y : LeafDeclared). y.role) (sym n) ∙ e in absurd (cc))
        (leaf_or_none (module_leaves s) x)

    is_of_memory : IsOfMemory (leafed_module s) k a
    is_of_memory =
        let v = f.visit in
        let m = memory_of s v in
        let from =
        array_from m 0 (leaves_of_data (first_one (flat_map data_of_part v.parts))) (held_types s.widths (sized_array v.parts)) f.at a f.is_there in
        record {
          memory = visit_memory s v;
          among =
              subst (λ ms. In ms (visit_memory s v)) (sym (module_viewed s).memories_are) (in_map (visit_memory s) (module_visits s) v f.among);
          declared = sym from.2.declaration;
          of_writings = λ w i.
              writing_clock m.data_leaves (0 + f.at) m.first m.ports w (subst (λ ws. In ws w) from.2.writings i);
          of_pipes = of_pipes;
        }

pub clocks_of_memories : LeafedClocksAreOfMemories
clocks_of_memories s = record {
  each = λ k a e.
      let all = module_viewed s in
      let ds = declarations s.own.inside in
      let there : slice_get (flat_map (visit_arrays s) (module_visits s)) k ≡ Some a =
      ap (λ xs. slice_get xs k) (sym all.arrays_are) ∙ e in
      is_of_memory s k a
      (found (visit_arrays s) (visit_arrays_long s) 0 (module_visits s) (length ds) (arrays_among ds)
      all.between k a there);
}
