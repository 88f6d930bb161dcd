-- The arrays of a whole design: those that its modules put are those of its circuit.
use Rattle.std.proofs.Common.{◌≡◌, ℕ, suc, ◌+◌, ◌^◌, ◌<◌, List, [], ◌∷◌, ◌++◌, length, map, Option, Some, refl, sym, ap, ap₂, ◌∙◌, subst, arith, inl, inr}
use Rattle.std.specs.Prelude.{flat_map, slice_get}
use Rattle.std.specs.List.{AllByRecursion, range_with_len}
use Rattle.std.proofs.lemmas.List.{length-map, map-append}
use Rattle.std.proofs.lemmas.Option.{get_or_from_slice_get}
use Rattle.std.proofs.lemmas.Simd.{map-map}
use Rattle.fir_base.specs.Lists.{In}
use Rattle.fir_base.proofs.Elements.{beside, get_in}
use Rattle.fir_leaf.proofs.LeafPlaces.{get_mapped}
use Rattle.fir_meaning.specs.LeafPaths.{path_text}
use Rattle.fir_meaning.specs.LeafTypes.{LeafType}
use Rattle.fir_meaning.specs.ModuleScenes.{Scene}
use Rattle.fir_meaning.specs.working.Designs.{empty_module, module_of}
use Rattle.fir_meaning.specs.working.Elaborated.{views}
use Rattle.fir_meaning.specs.working.LeafCircuits.{LeafCircuit}
use Rattle.fir_meaning.specs.working.LeafModules.{LeafArray, LeafModule, Writing}
use Rattle.fir_meaning.specs.working.LeafedModules.{leafed_module}
use Rattle.fir_meaning.specs.working.Numberings.{Numbering, moved_writing, number, numbering}
use Rattle.fir_copies.specs.working.CopyLaws.{numbers_of}
use Rattle.fir_elaborate.specs.declared.elaborated.ModuleCopy.{ModuleCopy}
use Rattle.fir_elaborate.specs.working.CopyArrays.{ArraySeen, array_behind, array_seen, arrays_of_copy}
use Rattle.fir_elaborate.specs.working.Elaborations.{copy_seen}
use Rattle.fir_leaf_circuit.specs.working.Seen.{type_seen, unnamed_array, writing_seen}
use Rattle.fir_leaf_circuit.specs.working.Seen as code
use Rattle.fir_memory_types.specs.working.TypedMemories.{AreMemoriesTyped, IsWritingTyped}
use Rattle.fir_flatten.specs.declared.design_arrays.DesignArray.{DesignArray}
use Rattle.fir_flatten.specs.declared.design_net.ModulePart.{ModulePart}
use Rattle.fir_flatten.specs.declared.offsets.Offsets.{Offsets}
use Rattle.fir_flatten.specs.working.DesignArrays.{arrays_of, arrays_of_part, listed, part_arrays, told_behind}
use Rattle.fir_flatten.specs.working.DesignArrays as put
use Rattle.fir_flatten.specs.working.DesignNets.{IsDesignArray, IsPartOf}
use Rattle.fir_flatten.specs.working.MovedNets.{leaf_moved, offsets_of, writing_moved}
use Rattle.fir_flatten.specs.working.PutModules.{part_of}
use Rattle.fir_flatten.proofs.DesignRoles.{Known, leaf_place}
use Rattle.fir_flatten.proofs.MovedPorts.{writings_stand}

-- what the net has of an array
record Shown : Type 0 where
  pub path : List ℕ
  pub holds : LeafType
  pub words : ℕ
  pub writings : List Writing

abbrev shown : ArraySeen → Shown
shown a = record { path = a.path; holds = a.holds; words = a.words; writings = a.writings }

abbrev seen : DesignArray → Shown
seen a = record { path = a.path; holds = type_seen a.holds; words = a.words; writings = map writing_seen a.writings }

-- an array that is put for each, from a number on
record IsPut (made : Option DesignArray) (s : Shown) : Type 0 where
  pub array : DesignArray
  pub put : made ≡ Some array
  pub looks : seen array ≡ s

all_put : (f : ℕ → Option DesignArray) (g : LeafArray → Shown) (x : ℕ) (arrays : List LeafArray)
    → ((i : ℕ) (a : LeafArray) → slice_get arrays i ≡ Some a → IsPut (f (x + i)) (g a))
    → map seen (flat_map (λ y. listed (f y)) (range_with_len x (length arrays))) ≡ map g arrays
all_put f g x [] each = refl
all_put f g x (a ∷ arrays) each =
    let first : x + 0 ≡ x = omega arith in
    let one : IsPut (f x) (g a) = subst (λ (y : ℕ). IsPut (f y) (g a)) first (each 0 a refl) in
    let others : List DesignArray = flat_map (λ y. listed (f y)) (range_with_len (x + 1) (length arrays)) in
    let rest = all_put f g (x + 1) arrays (λ i b e. subst (λ (y : ℕ). IsPut (f y) (g b)) (omega arith) (each (suc i) b e)) in
    ap (λ o. map seen (listed o ++ others)) one.put ∙ ap₂ (λ (s : Shown) (ss : List Shown). s ∷ ss) one.looks rest

-- those of a module
module _ (m : LeafModule) (p : ModulePart) (is : IsPartOf m p) (typed : AreMemoriesTyped m.leaves m.arrays) (prefix : List ℕ) (at : Offsets) (n : Numbering)
    (places : (y : ℕ) → y < length m.leaves → leaf_moved at y ≡ number n y) where
  array_put : (i : ℕ) (a : LeafArray) → slice_get m.arrays i ≡ Some a → IsPut (put.array_behind prefix at p i) (shown (array_behind prefix n a))
  array_put i a e =
      let one = beside code.array_seen unnamed_array p.part.now.arrays.items m.arrays is.view.arrays i a e in
      let text = λ (b : LeafArray). path_text b.path in
      let text_at : slice_get p.array_texts.items i ≡ Some (text a) =
      ap (λ (ts : List (List ℕ)). slice_get ts i) is.array_texts ∙ get_mapped text m.arrays i a e in
      let writings : map writing_seen one.0.writings.items ≡ a.writings = ap (λ (b : LeafArray). b.writings) one.2 in
      let written : AllByRecursion (IsWritingTyped m.leaves a.holds) (map writing_seen one.0.writings.items) =
      subst (AllByRecursion (IsWritingTyped m.leaves a.holds)) (sym writings) (typed.arrays_typed i a e).writings in
      let moved : map writing_seen (map (writing_moved at) one.0.writings.items) ≡ map (moved_writing n) a.writings =
      writings_stand at n m.leaves places a.holds one.0.writings.items written ∙ ap (map (moved_writing n)) writings in
      record {
        array = record {
          path = prefix ++ text a;
          holds = one.0.holds;
          words = one.0.words;
          writings = map (writing_moved at) one.0.writings.items;
        };
        put = λ j. told_behind prefix at (one.1 j) (text_at j);
        looks = λ j. record { path = prefix ++ text a; holds = (one.2 j).holds; words = (one.2 j).words; writings = moved j };
      }

  part_alike : map seen (flat_map (λ x. listed (put.array_behind prefix at p x)) (range_with_len 0 (length p.part.now.arrays.items)))
      ≡ map (λ a. shown (array_behind prefix n a)) m.arrays
  part_alike =
      let many : length p.part.now.arrays.items ≡ length m.arrays =
      sym (length-map p.part.now.arrays.items code.array_seen) ∙ ap length is.view.arrays ∙ length-map m.arrays unnamed_array in
      ap (λ k. map seen (flat_map (λ x. listed (put.array_behind prefix at p x)) (range_with_len 0 k))) many
      ∙ all_put (put.array_behind prefix at p) (λ a. shown (array_behind prefix n a)) 0 m.arrays
      (λ i a e. subst (λ (x : ℕ). IsPut (put.array_behind prefix at p x) (shown (array_behind prefix n a))) (omega arith) (array_put i a e))

module _ (scenes : List Scene) (parts : List ModulePart) (c : LeafCircuit) (small : length c.leaves < 2 ^ 64)
    (typed : (s : Scene) → In scenes s → AreMemoriesTyped (leafed_module s).leaves (leafed_module s).arrays) where
  -- those of a copy
  copy_alike : (k : ModuleCopy) → Known scenes parts c k → map seen (arrays_of_part k (part_of parts k)) ≡ map shown (arrays_of_copy scenes k)
  copy_alike k n =
      let s = n.stands.scene in
      let m = leafed_module s in
      let module_is : module_of (views scenes) k.module_number ≡ m =
      get_or_from_slice_get (map leafed_module scenes) k.module_number m empty_module (get_mapped leafed_module scenes k.module_number s n.stands.is) in
      ap (λ o. map seen (arrays_of_part k o)) n.part_is
      ∙ part_alike m n.part n.is_part (typed s (get_in scenes k.module_number s n.stands.is)) k.prefix
      (offsets_of k n.part.part.now.port_leaves 0) (numbers_of m (copy_seen k)) (leaf_place scenes parts c small k n 0)
      ∙ sym (map-map shown (array_behind k.prefix (numbering m k.first k.own)) m.arrays)
      ∙ ap (λ (v : LeafModule). map shown (map (array_behind k.prefix (numbering v k.first k.own)) v.arrays)) (sym module_is)

  all_alike : (ks : List ModuleCopy) → ((k : ModuleCopy) → In ks k → Known scenes parts c k)
      → map seen (arrays_of parts ks) ≡ map shown (flat_map (arrays_of_copy scenes) ks)
  all_alike [] known = refl
  all_alike (k ∷ ks) known =
      map-append seen (arrays_of_part k (part_of parts k)) (arrays_of parts ks)
      ∙ ap₂ (λ (xs ys : List Shown). xs ++ ys) (copy_alike k (known k (inl refl))) (all_alike ks (λ j m. known j (inr m)))
      ∙ sym (map-append shown (arrays_of_copy scenes k) (flat_map (arrays_of_copy scenes) ks))

  module _ (copies : List ModuleCopy) (known : (k : ModuleCopy) → In copies k → Known scenes parts c k)
      (are : map array_seen c.arrays ≡ flat_map (arrays_of_copy scenes) copies) where
    arrays_alike : map (λ a. shown (array_seen a)) c.arrays ≡ map seen (arrays_of parts copies)
    arrays_alike =
        sym (map-map shown array_seen c.arrays) ∙ ap (map shown) are ∙ sym (all_alike copies known)

    pub arrays_count : length (arrays_of parts copies) ≡ length c.arrays
    arrays_count =
        sym (length-map (arrays_of parts copies) seen) ∙ sym (ap length arrays_alike) ∙ length-map c.arrays (λ a. shown (array_seen a))

    pub array_is : (x : ℕ) (a : DesignArray) (m : LeafArray) → slice_get (arrays_of parts copies) x ≡ Some a → slice_get c.arrays x ≡ Some m
        → IsDesignArray a m
    array_is x a m e f =
        let one = beside (λ b. shown (array_seen b)) seen c.arrays (arrays_of parts copies) arrays_alike x a e in
        let here : Some one.0 ≡ Some m = sym one.1 ∙ f in
        let at : one.0 ≡ m = cc in
        let same : seen a ≡ shown (array_seen m) = sym one.2 ∙ ap (λ b. shown (array_seen b)) at in
        record {
          path = ap (λ (s : Shown). s.path) same;
          held = ap (λ (s : Shown). s.holds) same;
          words = ap (λ (s : Shown). s.words) same;
          writings = ap (λ (s : Shown). s.writings) same;
        }
