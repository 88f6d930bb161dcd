-- The arrays of the copies of a design stand one copy behind the other, so that each is one of just one copy.
use Rattle.std.proofs.Common.{◌≡◌, ℕ, ◌+◌, ◌-◌, ◌<◌, ◌≤◌, List, [], ◌∷◌, ◌++◌, Bool, true, false, nat_lt, length, refl, sym, ap, ◌∙◌, subst, inl, inr, arith}
use Rattle.std.proofs.lemmas.Bool.{ltb-false, ltb-true}
use Rattle.fir_base.specs.Lists.{In}
use Rattle.fir_meaning.specs.working.Designs.{AreItemsIn, Design, IsDesignOf, IsItemIn, Item, Items, done, drive, instance, made_of, module_of, then, when}
use Rattle.fir_meaning.specs.working.FlatDesigns.{array_count, array_count_all, array_count_below, count, count_all, inner_leaves}
use Rattle.fir_meaning.specs.working.LeafModules.{LeafModule}
use Rattle.fir_meaning.specs.working.Numberings.{Numbering, number, numbering}
use Rattle.fir_copies.specs.working.Copies.{Copy, all_copies_in, copies_below, copies_in, copies_of}

module _ (modules : List LeafModule) where
  -- how many arrays the module of a copy has
  abbrev pub array_many : Copy → ℕ
  array_many k = length (module_of modules k.module_number).arrays

  -- those of these copies, from one number up to another
  abbrev pub AreInTurn : ℕ → List Copy → ℕ → Type 0
  AreInTurn from [] to = from ≡ to
  AreInTurn from (k ∷ ks) to = (k.array ≡ from) × AreInTurn (from + array_many k) ks to

  moved_to : (from to high : ℕ) (ks : List Copy) → to ≡ high → AreInTurn from ks to → AreInTurn from ks high
  moved_to from to high ks e h = subst (λ z. AreInTurn from ks z) e h

  moved_from : (low from to : ℕ) (ks : List Copy) → low ≡ from → AreInTurn low ks to → AreInTurn from ks to
  moved_from low from to ks e h = subst (λ z. AreInTurn z ks to) e h

  joined : (from mid to : ℕ) (ks ls : List Copy) → AreInTurn from ks mid → AreInTurn mid ls to → AreInTurn from (ks ++ ls) to
  joined from mid to [] ls a b = moved_from mid from to ls (sym a) b
  joined from mid to (k ∷ ks) ls a b = (a.0, joined (from + array_many k) mid to ks ls a.1 b)

  mutual
    item_in_turn : (n : Numbering) (free array : ℕ) (x : Item) → IsItemIn modules x → AreInTurn array (copies_in n free array x) (array + array_count x)
    item_in_turn n free array (drive p b ps t) h = omega arith
    item_in_turn n free array (when p c a b) h =
        let second = array + array_count_all a in
        let far : second + array_count_all b ≡ array + (array_count_all a + array_count_all b) = omega arith in
        joined array second (array + (array_count_all a + array_count_all b)) (all_copies_in n free array a)
        (all_copies_in n (free + count_all a) second b) (items_in_turn n free array a h.0)
        (moved_to second (second + array_count_all b) (array + (array_count_all a + array_count_all b)) (all_copies_in n (free + count_all a) second b) far
        (items_in_turn n (free + count_all a) second b h.1))
    item_in_turn n free array (instance i d) h = design_in_turn i.module_number (number n i.first) free array d h

    items_in_turn : (n : Numbering) (free array : ℕ) (xs : Items) → AreItemsIn modules xs
        → AreInTurn array (all_copies_in n free array xs) (array + array_count_all xs)
    items_in_turn n free array done h = omega arith
    items_in_turn n free array ((then) x xs) h =
        let second = array + array_count x in
        let far : second + array_count_all xs ≡ array + (array_count x + array_count_all xs) = omega arith in
        joined array second (array + (array_count x + array_count_all xs)) (copies_in n free array x) (all_copies_in n (free + count x) second xs)
        (item_in_turn n free array x h.0)
        (moved_to second (second + array_count_all xs) (array + (array_count x + array_count_all xs)) (all_copies_in n (free + count x) second xs) far
        (items_in_turn n (free + count x) second xs h.1))

    design_in_turn : (x first free array : ℕ) (d : Design) → IsDesignOf modules (module_of modules x) d
        → AreInTurn array (copies_below x first free array d) (array + array_count_below d)
    design_in_turn x first free array (made_of m is) h =
        let second = array + length m.arrays in
        let rest = all_copies_in (numbering m first free) (free + length (inner_leaves m)) second is in
        let many : length m.arrays ≡ length (module_of modules x).arrays = ap (λ (u : LeafModule). length u.arrays) h.0 in
        let far : second + array_count_all is ≡ array + (length m.arrays + array_count_all is) = omega arith in (
          refl,
          moved_from second (array + length (module_of modules x).arrays) (array + (length m.arrays + array_count_all is)) rest
              (ap (λ z. array + z) many)
              (moved_to second (second + array_count_all is) (array + (length m.arrays + array_count_all is)) rest far
              (items_in_turn (numbering m first free) (free + length (inner_leaves m)) second is h.2)),
        )

  pub copies_in_turn : (x : ℕ) (d : Design) → IsDesignOf modules (module_of modules x) d → AreInTurn 0 (copies_of x d) (array_count_below d)
  copies_in_turn x (made_of m is) h =
      let all = array_count_below (made_of m is) in
      let none : 0 + all ≡ all = omega arith in
      moved_to 0 (0 + all) all (copies_of x (made_of m is)) none (design_in_turn x 0 m.port_leaves 0 (made_of m is) h)

  -- an array is one of a copy
  pub record IsOfCopy (ks : List Copy) (y : ℕ) : Type 0 where
    pub copy : Copy
    pub among : In ks copy
    pub own : ℕ
    pub within : own < array_many copy
    pub is : copy.array + own ≡ y

  more_copies : (k : Copy) (ks : List Copy) (y : ℕ) → IsOfCopy ks y → IsOfCopy (k ∷ ks) y
  more_copies k ks y h = record { copy = h.copy; among = inr h.among; own = h.own; within = h.within; is = h.is }

  pub of_copy : (from to : ℕ) (ks : List Copy) → AreInTurn from ks to → (y : ℕ) → from ≤ y → y < to → IsOfCopy ks y
  of_copy from to [] h y low high = absurd (omega (arith, h, low, high))
  of_copy from to (k ∷ ks) h y low high =
      by (nat_lt y (from + array_many k)) refl (λ behind. of_copy (from + array_many k) to ks h.1 y behind high)
    where
      by : (b : Bool) → nat_lt y (from + array_many k) ≡ b → (from + array_many k ≤ y → IsOfCopy ks y) → IsOfCopy (k ∷ ks) y
      by true e rest =
          let here = ltb-true y (from + array_many k) e in
          record { copy = k; among = inl refl; own = y - from; within = omega (arith, here, low); is = omega (arith, h.0, low) }
      by false e rest = more_copies k ks y (rest (ltb-false y (from + array_many k) e))

  -- and of no other
  from_low : (from to : ℕ) (ks : List Copy) → AreInTurn from ks to → (k : Copy) → In ks k → from ≤ k.array
  from_low from to [] h k m = absurd m
  from_low from to (j ∷ ks) h k (inl e) = let same = ap (λ (q : Copy). q.array) e in omega (arith, h.0, same)
  from_low from to (j ∷ ks) h k (inr m) = let below = from_low (from + array_many j) to ks h.1 k m in omega (arith, below)

  pub same_copy : (from to : ℕ) (ks : List Copy) → AreInTurn from ks to → (a b : Copy) → In ks a → In ks b → (i j : ℕ) → i < array_many a → j < array_many b
      → a.array + i ≡ b.array + j → a ≡ b
  same_copy from to [] h a b m n i j lt mt e = absurd m
  same_copy from to (k ∷ ks) h a b (inl m) (inl n) i j lt mt e = sym m ∙ n
  same_copy from to (k ∷ ks) h a b (inl m) (inr n) i j lt mt e =
      let at = ap (λ (q : Copy). q.array) m in
      let many = ap array_many m in
      let low = from_low (from + array_many k) to ks h.1 b n in
      absurd (omega (arith, h.0, at, many, low, lt, e))
  same_copy from to (k ∷ ks) h a b (inr m) (inl n) i j lt mt e =
      let at = ap (λ (q : Copy). q.array) n in
      let many = ap array_many n in
      let low = from_low (from + array_many k) to ks h.1 a m in
      absurd (omega (arith, h.0, at, many, low, mt, e))
  same_copy from to (k ∷ ks) h a b (inr m) (inr n) i j lt mt e = same_copy (from + array_many k) to ks h.1 a b m n i j lt mt e
