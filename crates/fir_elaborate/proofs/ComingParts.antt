-- What comes of a copy is what is below its instances, with their designs, and its own state between them.
use Rattle.std.proofs.Common.{◌≡◌, ℕ, ◌+◌, ◌<◌, List, [], ◌∷◌, ◌++◌, Bool, flat_map, map, length, refl, sym, ap, ap₂, ◌∙◌, subst, arith, append_assoc, inl, inr}
use Rattle.fir_base.specs.Lists.{In}
use Rattle.fir_leaf.specs.declared.statement.LeafInstance.{LeafInstance}
use Rattle.fir_meaning.specs.LeafPaths.{LeafPath}
use Rattle.fir_meaning.specs.working.DesignPaths.{instance_path}
use Rattle.fir_meaning.specs.working.Designs.{Design, IsDesignOf, module_of}
use Rattle.fir_meaning.specs.working.FlatDesigns.{array_count_below, count_below}
use Rattle.fir_meaning.specs.working.LeafBlocks.{HeldInstance}
use Rattle.fir_meaning.specs.working.LeafModules.{LeafModule}
use Rattle.fir_meaning.specs.working.Numberings.{number}
use Rattle.fir_meaning.specs.working.StateWalks.{words_below}
use Rattle.fir_design.proofs.DesignInstances.{Instance, own_of, sizes, words_of}
use Rattle.fir_design.proofs.InstanceArrays.{arrays_of}
use Rattle.fir_elaborate.specs.declared.numbers.Numbers.{Numbers}
use Rattle.fir_elaborate.specs.declared.numbers.Stretch.{Stretch}
use Rattle.fir_elaborate.specs.declared.walk.Pending.{Pending}
use Rattle.fir_copies.specs.working.Copies.{copies_below}
use Rattle.fir_elaborate.specs.working.CopyPaths.{prefix_text}
use Rattle.fir_elaborate.specs.working.Walks.{ArePlaced, Placed, arrays_among, arrays_below, arrays_to_come, below_prefix, chosen, copies_to_come, first_from, has_bits_of, held_seen, instance_parts, is_word_of, next_array, next_first, numbering_of, own_arrays_of, own_words_of, paths_to_come, state_to_come, words_among, words_to_come}
use Rattle.fir_elaborate.proofs.InstanceWords.{array_declarations, arrays_behind, next_array_of, next_of, state_behind, words_behind}
use Rattle.fir_elaborate.proofs.OwnInstances.{copies_given, paths_given}

-- with its path in the design
abbrev pub placed : LeafPath → LeafModule → Instance → Placed
placed path m x = (instance_path path m x.0, x.1)

module _ (views : List LeafModule) (m : LeafModule) (path : LeafPath) (at : Numbers) (arrays : List ℕ) (names : List (List ℕ)) (prefix : List ℕ)
    (ps : List Pending)
    (ds : List Placed) where
  abbrev coming : List LeafInstance → List Pending
  coming is = instance_parts at (length m.leaves) arrays names prefix is ++ ps

  abbrev designs : List Instance → List Placed
  designs xs = map (placed path m) xs ++ ds

  abbrev size : List Instance → ℕ
  size xs = sizes count_below (words_of (numbering_of at)) xs

  abbrev array_size : List Instance → ℕ
  array_size xs = sizes array_count_below arrays_of xs

  pub same_next : (is : List LeafInstance) (xs : List Instance) → map held_seen is ≡ map own_of xs
      → next_first (length m.leaves) is ≡ next_of m xs
  same_next [] [] e = refl
  same_next [] (x ∷ xs) e = absurd (cc)
  same_next (i ∷ is) [] e = absurd (cc)
  same_next (i ∷ is) (x ∷ xs) e = let same : held_seen i ≡ x.0 = cc in ap (λ (h : HeldInstance). h.first) same

  pub same_next_array : arrays ≡ array_declarations m → (is : List LeafInstance) (xs : List Instance) → map held_seen is ≡ map own_of xs
      → next_array arrays is ≡ next_array_of m xs
  same_next_array declared [] [] e = ap length declared
  same_next_array declared [] (x ∷ xs) e = absurd (cc)
  same_next_array declared (i ∷ is) [] e = absurd (cc)
  same_next_array declared (i ∷ is) (x ∷ xs) e =
      let same : held_seen i ≡ x.0 = cc in
      let rest : map held_seen is ≡ map own_of xs = cc in
      ap₂ (λ ds n. first_from ds n i.declaration) declared (same_next_array declared is xs rest)
      ∙ ap (λ (h : HeldInstance). first_from (array_declarations m) (next_array_of m xs) h.declaration) same

  pub copies_come : (is : List LeafInstance) (xs : List Instance) (free array : ℕ) → map held_seen is ≡ map own_of xs
      → copies_to_come free array (coming is) (designs xs)
      ≡ copies_given (numbering_of at) free array xs ++ copies_to_come (free + size xs) (array + array_size xs) ps ds
  copies_come [] [] free array e =
      let none : free ≡ free + 0 = omega arith in
      let no_array : array ≡ array + 0 = omega arith in
      ap₂ (λ z y. copies_to_come z y ps ds) none no_array
  copies_come [] (x ∷ xs) free array e = absurd (cc)
  copies_come (i ∷ is) [] free array e = absurd (cc)
  copies_come (i ∷ is) (x ∷ xs) free array e =
      let n = numbering_of at in
      let same : held_seen i ≡ x.0 = cc in
      let rest : map held_seen is ≡ map own_of xs = cc in
      let further = free + count_below x.1 in
      let further_array = array + array_count_below x.1 in
      let sum : further + size xs ≡ free + size (x ∷ xs) = omega arith in
      let array_sum : further_array + array_size xs ≡ array + array_size (x ∷ xs) = omega arith in
      let here = copies_below x.0.module_number (number n x.0.first) free array x.1 in
      ap
      (λ (h : HeldInstance).
      copies_below h.module_number (number n h.first) free array x.1 ++ copies_to_come further further_array (coming is) (designs xs)) same
      ∙ ap (λ ks. here ++ ks) (copies_come is xs further further_array rest)
      ∙ sym (append_assoc here (copies_given n further further_array xs) (copies_to_come (further + size xs) (further_array + array_size xs) ps ds))
      ∙ ap₂ (λ z y. copies_given n free array (x ∷ xs) ++ copies_to_come z y ps ds) sum array_sum

  pub paths_come : (is : List LeafInstance) (xs : List Instance) → map held_seen is ≡ map own_of xs
      → paths_to_come (coming is) (designs xs) ≡ flat_map (paths_given path m) xs ++ paths_to_come ps ds
  paths_come [] [] e = refl
  paths_come [] (x ∷ xs) e = absurd (cc)
  paths_come (i ∷ is) [] e = absurd (cc)
  paths_come (i ∷ is) (x ∷ xs) e =
      let rest : map held_seen is ≡ map own_of xs = cc in
      ap (λ qs. paths_given path m x ++ qs) (paths_come is xs rest)
      ∙ sym (append_assoc (paths_given path m x) (flat_map (paths_given path m) xs) (paths_to_come ps ds))

  -- and the state, where that of the copy itself is what stands between the instances
  module _ (own : Numbers → Stretch → List ℕ) (below : ℕ → ℕ → Design → List ℕ) (of_size : Design → ℕ) (f : ℕ → ℕ) (is_so : ℕ → Bool)
      (next : List Instance → ℕ)
      (between : (i : LeafInstance) (is : List LeafInstance) (x : Instance) (xs : List Instance) → map held_seen (i ∷ is) ≡ map own_of (x ∷ xs)
      → own at
      (record { from = i.first; upto = next_first (length m.leaves) is; arrays_from = next_array arrays (i ∷ is); arrays_upto = next_array arrays is })
      ≡ chosen f is_so (next (x ∷ xs)) (next xs)) where
    abbrev gives : HeldInstance → ℕ → Design → List ℕ
    gives i free d = below (number (numbering_of at) i.first) free d

    pub state_comes : (is : List LeafInstance) (xs : List Instance) (free : ℕ) → map held_seen is ≡ map own_of xs
        → state_to_come own below of_size free (coming is) (designs xs)
        ≡ state_behind f is_so of_size (λ i free d. below (number (numbering_of at) i.first) free d) next free xs
        ++ state_to_come own below of_size (free + sizes of_size (λ i free d. below (number (numbering_of at) i.first) free d) xs) ps ds
    state_comes [] [] free e = let none : free ≡ free + 0 = omega arith in ap (λ z. state_to_come own below of_size z ps ds) none
    state_comes [] (x ∷ xs) free e = absurd (cc)
    state_comes (i ∷ is) [] free e = absurd (cc)
    state_comes (i ∷ is) (x ∷ xs) free e =
        let n = numbering_of at in
        let same : held_seen i ≡ x.0 = cc in
        let rest : map held_seen is ≡ map own_of xs = cc in
        let further = free + of_size x.1 in
        let sum : further + sizes of_size gives xs ≡ free + sizes of_size gives (x ∷ xs) = omega arith in
        let here = below (number n x.0.first) free x.1 in
        let among = chosen f is_so (next (x ∷ xs)) (next xs) in
        let later = state_to_come own below of_size further (coming is) (designs xs) in
        let more = state_behind f is_so of_size gives next further xs in
        let some : Stretch = record {
          from = i.first;
          upto = next_first (length m.leaves) is;
          arrays_from = next_array arrays (i ∷ is);
          arrays_upto = next_array arrays is;
        } in
        ap (λ (h : HeldInstance). below (number n h.first) free x.1 ++ (own at some ++ later)) same
        ∙ ap (λ z. here ++ (z ++ later)) (between i is x xs e)
        ∙ ap (λ ws. here ++ (among ++ ws)) (state_comes is xs further rest)
        ∙ regrouped here among more (state_to_come own below of_size (further + sizes of_size gives xs) ps ds)
        ∙ ap (λ z. state_behind f is_so of_size gives next free (x ∷ xs) ++ state_to_come own below of_size z ps ds) sum
      where
        regrouped : (a b c d : List ℕ) → a ++ (b ++ (c ++ d)) ≡ (a ++ (b ++ c)) ++ d
        regrouped a b c d = simp append_assoc

  module _ (of_it : module_of views at.module_number ≡ m) where
    pub words_come : (is : List LeafInstance) (xs : List Instance) (free : ℕ) → map held_seen is ≡ map own_of xs
        → words_to_come views free (coming is) (designs xs)
        ≡ words_behind m (numbering_of at) free xs ++ words_to_come views (free + size xs) ps ds
    words_come =
        state_comes (own_words_of views) words_below count_below (number (numbering_of at)) (is_word_of m) (next_of m)
        (λ i is x xs e.
        let same : held_seen i ≡ x.0 = cc in
        let rest : map held_seen is ≡ map own_of xs = cc in
        ap (λ z. words_among z (numbering_of at) i.first (next_first (length m.leaves) is)) of_it
        ∙ ap₂ (λ (h : HeldInstance) y. words_among m (numbering_of at) h.first y) same (same_next is xs rest))

    pub arrays_come : arrays ≡ array_declarations m → (is : List LeafInstance) (xs : List Instance) (free : ℕ) → map held_seen is ≡ map own_of xs
        → arrays_to_come views free (coming is) (designs xs)
        ≡ arrays_behind m at.array free xs ++ arrays_to_come views (free + array_size xs) ps ds
    arrays_come declared =
        state_comes (own_arrays_of views) arrays_below array_count_below (λ x. at.array + x) (has_bits_of m) (next_array_of m)
        (λ i is x xs e.
        let rest : map held_seen is ≡ map own_of xs = cc in
        ap (λ z. arrays_among z at.array (next_array arrays (i ∷ is)) (next_array arrays is)) of_it
        ∙ ap₂ (λ z y. arrays_among m at.array z y) (same_next_array declared (i ∷ is) (x ∷ xs) e) (same_next_array declared is xs rest))

  -- and each of them is of a module that is there
  pub parts_placed : (is : List LeafInstance) (xs : List Instance) → map held_seen is ≡ map own_of xs → at.module_number < length views
      → ((x : Instance) → In xs x → x.0.module_number < length views)
      → ((x : Instance) → In xs x → IsDesignOf views (module_of views x.0.module_number) x.1)
      → ((x : Instance) → In xs x → below_prefix names prefix x.0.declaration ≡ prefix_text (instance_path path m x.0))
      → ArePlaced views ps ds
      → ArePlaced views (coming is) (designs xs)
  parts_placed [] [] e here there design text rest = rest
  parts_placed [] (x ∷ xs) e here there design text rest = absurd (cc)
  parts_placed (i ∷ is) [] e here there design text rest = absurd (cc)
  parts_placed (i ∷ is) (x ∷ xs) e here there design text rest =
      let same : held_seen i ≡ x.0 = cc in
      let others : map held_seen is ≡ map own_of xs = cc in (
        record {
          there = subst (λ (h : HeldInstance). h.module_number < length views) (sym same) (there x (inl refl));
          is_design = subst (λ (h : HeldInstance). IsDesignOf views (module_of views h.module_number) x.1) (sym same) (design x (inl refl));
          prefix_is = ap (λ (h : HeldInstance). below_prefix names prefix h.declaration) same ∙ text x (inl refl);
        },
        (
          here,
          parts_placed is xs others here (λ y among. there y (inr among)) (λ y among. design y (inr among)) (λ y among. text y (inr among)) rest,
        ),
      )
