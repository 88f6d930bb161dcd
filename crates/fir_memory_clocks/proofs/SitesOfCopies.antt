-- The first of the memories that were found in the modules of some copies, and that of one copy more.
use Rattle.std.proofs.Common.{◌≡◌, ◌⊎◌, ℕ, ◌+◌, ◌<◌, ◌≤◌, List, length, slice_get, true, false, Option, Some, None, sym, ap, ◌∙◌, subst, inl, inr, refl, arith}
use Rattle.std.proofs.lemmas.Bool.{cases_eq}
use Rattle.std.proofs.lemmas.Option.{same_Some, slice_get_within}
use Rattle.fir_meaning.specs.Lack.{is_before}
use Rattle.fir_elaborate.specs.declared.elaborated.ModuleCopy.{ModuleCopy}
use Rattle.fir_memory_clocks.specs.declared.first_site.Site.{Site}
use Rattle.fir_memory_clocks.specs.declared.module_memories.FoundMemory.{FoundMemory}
use Rattle.fir_memory_clocks.specs.working.FirstMemories.{IsFirstBefore, IsFirstSite, IsFoundAt, IsSiteOf}
use Rattle.fir_memory_clocks.proofs.FoundMemories.{irreflexive, not_before}

module _ (found : List (Option FoundMemory)) (copies : List ModuleCopy) where
  pub none_yet : IsFirstBefore found copies 0 None
  none_yet i v lt at = omega (arith, lt)

  -- what was found at a copy is one memory
  same_found : (i : ℕ) (v w : FoundMemory) → IsFoundAt found copies i v → IsFoundAt found copies i w → v ≡ w
  same_found i v w p q =
      let copy : p.copy ≡ q.copy = same_Some p.copy q.copy (sym p.is ∙ q.is) in
      let both : Some v ≡ Some w =
      same_Some (Some v) (Some w) (sym p.memory ∙ ap (λ (k : ModuleCopy). slice_get found k.module_number) copy ∙ q.memory) in
      same_Some v w both

  -- ---- the copy of a number alone

  module _ (i : ℕ) where
    pub no_copy : length copies ≤ i → IsSiteOf found copies i None
    no_copy past v h = let lt = slice_get_within copies i h.copy h.is in omega (arith, past, lt)

    module _ (k : ModuleCopy) (is : slice_get copies i ≡ Some k) where
      of_copy : (v : FoundMemory) → IsFoundAt found copies i v → slice_get found k.module_number ≡ Some (Some v)
      of_copy v h =
          ap (λ (q : ModuleCopy). slice_get found q.module_number) (same_Some k h.copy (sym is ∙ h.is)) ∙ h.memory

      pub no_module : length found ≤ k.module_number → IsSiteOf found copies i None
      no_module past v h = let lt = slice_get_within found k.module_number (Some v) (of_copy v h) in omega (arith, past, lt)

      pub no_memory : slice_get found k.module_number ≡ Some None → IsSiteOf found copies i None
      no_memory e v h = let never : Some None ≡ Some (Some v) = sym e ∙ of_copy v h in cc

      pub a_memory : (v : FoundMemory) → slice_get found k.module_number ≡ Some (Some v)
          → IsSiteOf found copies i (Some (record { copy = i; memory = v }))
      a_memory v e = (refl, record { copy = k; is = is; memory = e })

  -- ---- one copy more

  module _ (n : ℕ) where
    before_next : (i : ℕ) → i < n + 1 → (i < n) ⊎ (i ≡ n)
    before_next i lt = by (cases_eq i n)
      where
        by : (i ≡ n) ⊎ (i ≡ n → ⊥) → (i < n) ⊎ (i ≡ n)
        by (inl e) = inr e
        by (inr other) = inl (omega (arith, lt, other))

    at_next : (s : Site) → IsSiteOf found copies n (Some s) → (i : ℕ) (v : FoundMemory) → i ≡ n → IsFoundAt found copies i v → v ≡ s.memory
    at_next s h i v e at = same_found n v s.memory (subst (λ j. IsFoundAt found copies j v) e at) h.1

    stays : (one : Site) → IsFirstSite found copies n one
        → ((i : ℕ) (v : FoundMemory) → i ≡ n → IsFoundAt found copies i v → is_before v.place one.memory.place ≡ false)
        → IsFirstSite found copies (n + 1) one
    stays one h here = record {
      within = let lt = h.within in omega (arith, lt);
      at = h.at;
      first = λ i v lt at. first i v (before_next i lt) at;
      first_copy = λ i v lt at same. first_copy i v (before_next i lt) at same;
    }
      where
        first : (i : ℕ) (v : FoundMemory) → (i < n) ⊎ (i ≡ n) → IsFoundAt found copies i v → is_before v.place one.memory.place ≡ false
        first i v (inl lt) at = h.first i v lt at
        first i v (inr e) at = here i v e at

        first_copy : (i : ℕ) (v : FoundMemory) → (i < n) ⊎ (i ≡ n) → IsFoundAt found copies i v → v.place ≡ one.memory.place → one.copy ≤ i
        first_copy i v (inl lt) at same = h.first_copy i v lt at same
        first_copy i v (inr e) at same = let lt = h.within in omega (arith, lt, e)

    comes : (other : Site) → IsSiteOf found copies n (Some other)
        → ((i : ℕ) (v : FoundMemory) → i < n → IsFoundAt found copies i v
        → (is_before v.place other.memory.place ≡ false) × (v.place ≡ other.memory.place → ⊥)) → IsFirstSite found copies (n + 1) other
    comes other h before = record {
      within = let e = h.0 in omega (arith, e);
      at = subst (λ j. IsFoundAt found copies j other.memory) (sym h.0) h.1;
      first = λ i v lt at. first i v (before_next i lt) at;
      first_copy = λ i v lt at same. first_copy i v (before_next i lt) at same;
    }
      where
        first : (i : ℕ) (v : FoundMemory) → (i < n) ⊎ (i ≡ n) → IsFoundAt found copies i v → is_before v.place other.memory.place ≡ false
        first i v (inl lt) at = (before i v lt at).0
        first i v (inr e) at =
            ap (λ (w : FoundMemory). is_before w.place other.memory.place) (at_next other h i v e at) ∙ irreflexive other.memory.place

        first_copy : (i : ℕ) (v : FoundMemory) → (i < n) ⊎ (i ≡ n) → IsFoundAt found copies i v → v.place ≡ other.memory.place → other.copy ≤ i
        first_copy i v (inl lt) at same = absurd ((before i v lt at).1 same)
        first_copy i v (inr e) at same = let own = h.0 in omega (arith, own, e)

    pub second_first : (one other : Site) → is_before other.memory.place one.memory.place ≡ true → IsFirstSite found copies n one
        → IsSiteOf found copies n (Some other) → IsFirstSite found copies (n + 1) other
    second_first one other e h k =
        comes other k
        (λ i v lt at. (
          not_before one.memory.place other.memory.place v.place e (h.first i v lt at),
          λ same. let behind = h.first i v lt at in
              let ahead : is_before v.place one.memory.place ≡ true = ap (λ p. is_before p one.memory.place) same ∙ e in
              let never : true ≡ false = sym ahead ∙ behind in
              cc,
        ))

    pub first_first : (one other : Site) → is_before other.memory.place one.memory.place ≡ false → IsFirstSite found copies n one
        → IsSiteOf found copies n (Some other) → IsFirstSite found copies (n + 1) one
    first_first one other e h k =
        stays one h
        (λ i v same at. ap (λ (w : FoundMemory). is_before w.place one.memory.place) (at_next other k i v same at) ∙ e)

    pub first_alone : (one : Site) → IsFirstSite found copies n one → IsSiteOf found copies n None → IsFirstSite found copies (n + 1) one
    first_alone one h none =
        stays one h (λ i v same at. absurd (none v (subst (λ j. IsFoundAt found copies j v) same at)))

    pub second_alone : (other : Option Site) → IsFirstBefore found copies n None → IsSiteOf found copies n other → IsFirstBefore found copies (n + 1) other
    second_alone None none k = λ i v lt at. by i v (before_next i lt) at
      where
        by : (i : ℕ) (v : FoundMemory) → (i < n) ⊎ (i ≡ n) → IsFoundAt found copies i v → ⊥
        by i v (inl lt) at = none i v lt at
        by i v (inr e) at = k v (subst (λ j. IsFoundAt found copies j v) e at)
    second_alone (Some other) none k = comes other k (λ i v lt at. absurd (none i v lt at))
