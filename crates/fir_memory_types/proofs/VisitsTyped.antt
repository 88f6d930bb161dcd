-- The leaves and arrays of one memory of a module, which is as it is to be, have types.
use Rattle.std.proofs.Common.{◌≡◌, ℕ, zero, suc, ◌+◌, ◌≤◌, List, [], ◌∷◌, flat_map, length, slice_get, Option, Some, None, refl, sym, ap, ◌∙◌, subst, arith}
use Rattle.std.specs.List.{AllByRecursion}
use Rattle.fir_base.proofs.Elements.{all_there}
use Rattle.fir_bits.specs.declared.types.NumTy.{NumTy}
use Rattle.fir_ast.specs.declared.place.Place.{Place}
use Rattle.fir_ast.specs.Types.{DataType}
use Rattle.fir_ast.specs.Statements.{MemoryPart}
use Rattle.fir_meaning.specs.Components as component
use Rattle.fir_meaning.specs.LeafPaths.{named}
use Rattle.fir_meaning.specs.MemoryPorts.{MemoryPortKind}
use Rattle.fir_meaning.specs.MemoryTypes.{address_width, data_of_part, first_one, memory_bundle}
use Rattle.fir_meaning.specs.SizedMemories.{sized_array}
use Rattle.fir_meaning.specs.TypeLeaves.{TypeLeaf}
use Rattle.fir_meaning.specs.FoundTypes.{leaves_of_data}
use Rattle.fir_meaning.specs.LeafTypes.{LeafType, a_clock, number, number_type}
use Rattle.fir_meaning.specs.HeldTypes.{held_types}
use Rattle.fir_meaning.specs.ModuleScenes.{Declared, Scene, held_by_declared, type_of_declared}
use Rattle.fir_meaning.specs.working.LeafMemories.{LeafMemory, array_count, arrays_from, count_of_data, memory_roles, port_kinds_of, writings_from}
use Rattle.fir_meaning.specs.working.LeafModules.{LeafArray, LeafDeclared, Role}
use Rattle.fir_meaning.specs.working.LeafedModules.{leaves_from, module_leaves, role_in}
use Rattle.fir_leaf.proofs.LeafPlaces.{leaves_counted}
use Rattle.fir_leaf_types.specs.working.TypedTerms.{IsNarrow}
use Rattle.fir_leaf_types.proofs.HeldKinds.{IsNumber}
use Rattle.fir_memory_types.specs.working.TypedMemories.{IsArrayTyped, IsMemoryRoleTyped}
use Rattle.fir_memory_types.proofs.MemoryVisits.{MemoryVisit, memory_of, visit_arrays, visit_leaves}
use Rattle.fir_memory_types.proofs.ArrayPlaces.{first_array_of}
use Rattle.fir_memory_types.proofs.MemoryHolds.{address_has_bits, array_counted, array_narrow, array_numbers, memory_holds, port_holds, type_is}
use Rattle.fir_memory_types.proofs.PortsTyped.{Stand, memory_role_typed, writings_typed}
use Rattle.fir_memory_types.proofs.LeafNumbers.{leaves_stand}
use Rattle.fir_memory_types.proofs.FineMemories.{IsFine}

-- an array of a memory, by the number of the leaf of its data
pub record IsArrayFrom (m : LeafMemory) (i : ℕ) (h : LeafType) (a : LeafArray) : Type 0 where
  pub declaration : a.declaration ≡ m.declaration
  pub holds : a.holds ≡ h
  pub words : a.words ≡ m.words
  pub writings : a.writings ≡ writings_from m.data_leaves i m.first m.ports

pub array_from : (m : LeafMemory) (i : ℕ) (ls : List TypeLeaf) (hs : List LeafType) (k : ℕ) (a : LeafArray) → slice_get (arrays_from m i ls hs) k ≡ Some a
    → (h : LeafType) × (slice_get hs k ≡ Some h) × IsArrayFrom m (i + k) h a
array_from m i [] hs k a e = absurd (cc)
array_from m i (l ∷ ls) [] k a e = absurd (cc)
array_from m i (l ∷ ls) (h ∷ hs) zero a e =
    let none : i + 0 ≡ i = omega arith in
    let own : LeafArray =
    record {
      declaration = m.declaration;
      path = named m.named.name ∷ l.path;
      holds = h;
      words = m.words;
      writings = writings_from m.data_leaves i m.first m.ports;
    } in
    let same : own ≡ a = cc in
    (h, refl, rw none (subst (IsArrayFrom m i h) same (record { declaration = refl; holds = refl; words = refl; writings = refl })))
array_from m i (l ∷ ls) (h ∷ hs) (suc k) a e =
    let r = array_from m (suc i) ls hs k a e in
    let next : suc i + k ≡ i + suc k = omega arith in
    (r.0, r.1, subst (λ j. IsArrayFrom m j r.0 a) next r.2)

array_at : (m : LeafMemory) (i : ℕ) (ls : List TypeLeaf) (hs : List LeafType) → length hs ≡ length ls → (k : ℕ) (h : LeafType) → slice_get hs k ≡ Some h
    → (a : LeafArray) × (slice_get (arrays_from m i ls hs) k ≡ Some a) × (a.holds ≡ h)
array_at m i [] [] long k h e = absurd (cc)
array_at m i [] (x ∷ hs) long k h e = absurd (omega (arith, long))
array_at m i (l ∷ ls) [] long k h e = absurd (cc)
array_at m i (l ∷ ls) (x ∷ hs) long zero h e = let same : x ≡ h = cc in (_, refl, same)
array_at m i (l ∷ ls) (x ∷ hs) long (suc k) h e = array_at m (suc i) ls hs (omega (arith, long)) k h e

arrays_long : (m : LeafMemory) (i : ℕ) (ls : List TypeLeaf) (hs : List LeafType) → length hs ≡ length ls → length (arrays_from m i ls hs) ≡ length hs
arrays_long m i [] [] long = refl
arrays_long m i [] (x ∷ hs) long = absurd (omega (arith, long))
arrays_long m i (l ∷ ls) [] long = refl
arrays_long m i (l ∷ ls) (x ∷ hs) long = ap suc (arrays_long m (suc i) ls hs (omega (arith, long)))

data_counted : (o : Option DataType) → length (leaves_of_data o) ≡ count_of_data o
data_counted None = refl
data_counted (Some t) = leaves_counted t

module _ (s : Scene) where
  -- a type for each leaf of the data, and an array
  data_long : (parts : List MemoryPart)
      → length (held_types s.widths (sized_array parts)) ≡ length (leaves_of_data (first_one (flat_map data_of_part parts)))
  data_long parts =
      array_counted s.widths (first_one (flat_map data_of_part parts)) ∙ sym (data_counted (first_one (flat_map data_of_part parts)))

  pub visit_arrays_long : (v : MemoryVisit) → length (visit_arrays s v) ≡ array_count v.parts
  visit_arrays_long v =
      arrays_long (memory_of s v) 0 (leaves_of_data (first_one (flat_map data_of_part v.parts))) (held_types s.widths (sized_array v.parts))
      (data_long v.parts)
      ∙ array_counted s.widths (first_one (flat_map data_of_part v.parts))

  -- the leaves of a declaration whose leaves have roles in order
  roles_from_typed : (arrays : List LeafArray) (d : Declared) (place : TypeLeaf → Place) (role_of : ℕ → TypeLeaf → Role) (k : ℕ) (ls : List TypeLeaf)
      (hs : List LeafType)
      → ((j : ℕ) (l : TypeLeaf) (h : LeafType) → slice_get hs j ≡ Some h → IsMemoryRoleTyped (module_leaves s) arrays h (role_of (k + j) l))
      → AllByRecursion (λ l. IsMemoryRoleTyped (module_leaves s) arrays l.holds l.role) (leaves_from d place role_of k ls hs)
  roles_from_typed arrays d place role_of k [] hs typed = tt
  roles_from_typed arrays d place role_of k (l ∷ ls) [] typed = tt
  roles_from_typed arrays d place role_of k (l ∷ ls) (h ∷ hs) typed =
      let first : k + 0 ≡ k = omega arith in (
        rw first at (typed 0 l h refl),
        roles_from_typed arrays d place role_of (suc k) ls hs
            (λ j x y e. let next : suc k + j ≡ k + suc j = omega arith in rw next (typed (suc j) x y e)),
      )

  -- one memory, whose arrays stand among others
  module _ (none : s.own.start.scope ≡ []) (v : MemoryVisit) (fine : IsFine s v) (arrays : List LeafArray)
      (placed : (i : ℕ) (a : LeafArray) → slice_get (visit_arrays s v) i ≡ Some a → slice_get arrays (first_array_of v + i) ≡ Some a) where
    abbrev m : LeafMemory
    m = memory_of s v

    abbrev hs : List LeafType
    hs = held_types s.widths (sized_array v.parts)

    abbrev width : ℕ
    width = address_width fine.legal.words

    abbrev ks : List MemoryPortKind
    ks = flat_map port_kinds_of v.parts

    stand : Stand (module_leaves s) (memory_of s v).first
        (flat_map (port_holds (address_width fine.legal.words) (held_types s.widths (sized_array v.parts))) (flat_map port_kinds_of v.parts))
    stand =
        subst (Stand (module_leaves s) (memory_of s v).first) (memory_holds s.widths v.named v.parts fine.legal)
        (leaves_stand s none v fine.grows (memory_bundle v.named.place v.parts fine.legal.word_type fine.legal.words)
        (type_is s.widths v.named v.parts fine.legal))

    long : (memory_of s v).data_leaves ≡ length (held_types s.widths (sized_array v.parts))
    long = sym (array_counted s.widths (first_one (flat_map data_of_part v.parts)))

    there : (i : ℕ) (h : LeafType) → slice_get (held_types s.widths (sized_array v.parts)) i ≡ Some h
        → (a : LeafArray) × (slice_get arrays ((memory_of s v).first_array + i) ≡ Some a) × (a.holds ≡ h)
    there i h e =
        let r = array_at m 0 (leaves_of_data (first_one (flat_map data_of_part v.parts))) hs (data_long v.parts) i h e in
        (r.0, placed i r.0 r.1, r.2)

    pub visit_roles_typed : AllByRecursion (λ (l : LeafDeclared). IsMemoryRoleTyped (module_leaves s) arrays l.holds l.role) (visit_leaves s v)
    visit_roles_typed =
        let d : Declared = record { named = v.named; component = component.memory v.parts; before = v.before } in
        roles_from_typed arrays d (λ l. v.named.place) (role_in (memory_roles m)) 0 (leaves_of_data (type_of_declared s d)) (held_by_declared s d)
        (λ j l h e.
        let none : 0 + j ≡ j = omega arith in
        let at : slice_get (flat_map (port_holds width hs) ks) j ≡ Some h =
        ap (λ xs. slice_get xs j) (sym (memory_holds s.widths v.named v.parts fine.legal)) ∙ e in
        rw none
        (memory_role_typed (module_leaves s) arrays m hs width long (address_has_bits s.widths v.named v.parts fine.legal) there ks stand j h at))

    pub visit_array_typed : (i : ℕ) (a : LeafArray) → slice_get (visit_arrays s v) i ≡ Some a → IsArrayTyped (module_leaves s) a
    visit_array_typed i a e =
        let r = array_from m 0 (leaves_of_data (first_one (flat_map data_of_part v.parts))) hs i a e in
        let h = r.0 in
        let from = r.2 in
        let u = number_is h (all_there IsNumber hs (array_numbers s.widths v.named v.parts fine.legal) i h r.1) in
        let narrow : IsNarrow h =
        all_there IsNarrow hs (array_narrow s.widths v.named v.parts fine.legal (named v.named.name ∷ []) fine.within) i h r.1 in
        let words : m.words ≡ fine.legal.words = rw fine.legal.one_depth refl in
        let none : 0 + i ≡ i = omega arith in
        record {
          data_type = u.0;
          is = from.holds ∙ u.1;
          narrow = subst (λ x. (number_type x).width ≤ 128) u.1 narrow;
          words = omega (arith, from.words, words, fine.legal.some);
          writings =
              rw (from.writings, from.holds, none)
              (writings_typed (module_leaves s) arrays m hs width long (address_has_bits s.widths v.named v.parts fine.legal) there i h r.1 m.first ks
              stand);
        }
      where
        number_is : (h : LeafType) → IsNumber h → (u : NumTy) × (h ≡ number u)
        number_is (number u) k = (u, refl)
        number_is a_clock k = absurd k
