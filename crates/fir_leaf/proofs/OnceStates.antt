-- No word and no array stands twice in the order of a design's state: each instance has numbers of its own.
use Rattle.std.proofs.Common.{◌≡◌, ℕ, zero, suc, ◌+◌, ◌<◌, ◌≤◌, List, [], ◌∷◌, ◌++◌, Bool, true, false, ◌&&◌, map, flat_map, length, nat_eq, nat_lt, refl, sym, ap, ◌∙◌, arith, subst, inl, inr, ⊎_elim, true≢false}
use Rattle.std.specs.Prelude.{if◌then◌else◌, slice_index_or}
use Rattle.std.specs.List.{range_with_len}
use Rattle.std.proofs.lemmas.Bool.{and_parts, eqb-true, ltb-true, ltb-false}
use Rattle.std.proofs.lemmas.List.{length-drop}
use Rattle.fir_base.specs.Lists.{In, Distinct}
use Rattle.fir_base.proofs.Members.{in_either, in_flat_map_from, in_map_from}
use Rattle.fir_base.proofs.Twins.{distinct_joined}
use Rattle.fir_meaning.specs.working.LeafModules.{LeafArray, LeafDeclared, LeafModule, leaf_at, no_leaf}
use Rattle.fir_meaning.specs.working.Designs.{Item, drive, when, instance, Items, done, then, Design, made_of}
use Rattle.fir_leaf.specs.working.DesignStates.{no_array}
use Rattle.fir_meaning.specs.working.Numberings.{Numbering, number, numbering}
use Rattle.fir_meaning.specs.working.FlatDesigns.{inner_leaves, count, count_all, count_below, array_count, array_count_all, array_count_below}
use Rattle.fir_meaning.specs.working.StateWalks.{all_array_order_in, all_words_in, array_order_below, array_order_in, is_state, numbers_where, own_arrays, own_words, walk, words_below, words_in}
use Rattle.fir_meaning.specs.LeafTypes.{has_bits}
use Rattle.fir_leaf.specs.working.StateLaws.{ArraysStandOnce, EachInItem, EachInItems, EachModule, PortsShowNone, WordsStandOnce}
use Rattle.fir_leaf.proofs.MovedTerms.{number_own}
use Rattle.fir_leaf.proofs.WholeStates.{IsWord}

-- a number in the list is that of an element that is so
pub record IsNumberOf {A : Type 0} (is_so : A → Bool) (b : ℕ) (xs : List A) (d : A) (y : ℕ) : Type 0 where
  pub place : ℕ
  pub within : place < length xs
  pub is : y ≡ b + place
  pub so : is_so (slice_index_or xs place d) ≡ true

numbers_from : {A : Type 0} (is_so : A → Bool) (b : ℕ) (xs : List A) (d : A) (y : ℕ) → In (numbers_where is_so b xs) y → IsNumberOf is_so b xs d y
numbers_from is_so b [] d y h = absurd h
numbers_from is_so b (a ∷ others) d y h = go (is_so a) refl h (λ among. numbers_from is_so (suc b) others d y among)
  where
    later : IsNumberOf is_so (suc b) others d y → IsNumberOf is_so b (a ∷ others) d y
    later r = record { place = suc r.place; within = omega (arith, r.within); is = omega (arith, r.is); so = r.so }

    go : (t : Bool) → is_so a ≡ t → In (if t then b ∷ numbers_where is_so (suc b) others else numbers_where is_so (suc b) others) y
        → (In (numbers_where is_so (suc b) others) y → IsNumberOf is_so (suc b) others d y) → IsNumberOf is_so b (a ∷ others) d y
    go true e (inl same) rest = record { place = 0; within = omega arith; is = omega (arith, same); so = e }
    go true e (inr among) rest = later (rest among)
    go false e among rest = later (rest among)

numbers_once : {A : Type 0} (is_so : A → Bool) (b : ℕ) (xs : List A) (d : A) → Distinct (numbers_where is_so b xs)
numbers_once is_so b [] d = tt
numbers_once is_so b (a ∷ others) d = go (is_so a) (numbers_once is_so (suc b) others d)
  where
    is_later : In (numbers_where is_so (suc b) others) b → ⊥
    is_later among = let r = numbers_from is_so (suc b) others d b among in omega (arith, r.is)

    go : (t : Bool) → Distinct (numbers_where is_so (suc b) others)
        → Distinct (if t then b ∷ numbers_where is_so (suc b) others else numbers_where is_so (suc b) others)
    go true rest = (is_later, rest)
    go false rest = rest

once_mapped : {A B : Type 0} (f : A → B) (xs : List A) → ((x y : A) → In xs x → In xs y → f x ≡ f y → x ≡ y) → Distinct xs → Distinct (map f xs)
once_mapped f [] one h = tt
once_mapped f (x ∷ xs) one h = (
  λ among.
      let from = in_map_from f xs (f x) among in
      h.0 (subst (In xs) (one from.0 x (inr from.1) (inl refl) from.2) from.1),
  once_mapped f xs (λ y z hy hz e. one y z (inr hy) (inr hz) e) h.1,
)

range_above : (a n x : ℕ) → In (range_with_len a n) x → a ≤ x
range_above a zero x h = absurd h
range_above a (suc n) x (inl e) = omega (arith, e)
range_above a (suc n) x (inr h) = let up : a + 1 ≤ x = range_above (a + 1) n x h in omega (arith, up)

range_once : (a n : ℕ) → Distinct (range_with_len a n)
range_once a zero = tt
range_once a (suc n) = ((λ h. let up : a + 1 ≤ a = range_above (a + 1) n a h in omega (arith, up)), range_once (a + 1) n)

-- what declarations give: numbers from one on and below another, each once and by one declaration
pub record IsOnceWithin (gives : ℕ → List ℕ) (low high : ℕ) : Type 0 where
  pub distinct : (k : ℕ) → Distinct (gives k)
  pub above : (k y : ℕ) → In (gives k) y → low ≤ y
  pub under : (k y : ℕ) → In (gives k) y → y < high
  pub one : (k j y : ℕ) → In (gives k) y → In (gives j) y → k ≡ j

once_none : (low high : ℕ) → IsOnceWithin (λ k. []) low high
once_none low high = record { distinct = λ k. tt; above = λ k y h. absurd h; under = λ k y h. absurd h; one = λ k j y h i. absurd h }

once_joined : (f g : ℕ → List ℕ) (low mid from to high : ℕ) → low ≤ mid → mid ≤ from → from ≤ to → to ≤ high → mid ≤ high
    → IsOnceWithin f low mid → IsOnceWithin g from to → IsOnceWithin (λ k. f k ++ g k) low high
once_joined f g low mid from to high a b c d e hf hg = record {
  distinct = λ k. distinct_joined (f k) (g k) (hf.distinct k) (hg.distinct k) (λ y l r. apart k k y l r);
  above = λ k y h. ⊎_elim (λ (l : In (f k) y). hf.above k y l) (λ (r : In (g k) y). omega (arith, hg.above k y r, a, b)) (in_either (f k) (g k) y h);
  under = λ k y h.
      ⊎_elim (λ (l : In (f k) y). omega (arith, hf.under k y l, e)) (λ (r : In (g k) y). omega (arith, hg.under k y r, d)) (in_either (f k) (g k) y h);
  one = λ k j y h i.
      ⊎_elim
      (λ (l : In (f k) y).
      ⊎_elim (λ (m : In (f j) y). hf.one k j y l m) (λ (n : In (g j) y). absurd (apart k j y l n)) (in_either (f j) (g j) y i))
      (λ (r : In (g k) y).
      ⊎_elim (λ (m : In (f j) y). absurd (apart j k y m r)) (λ (n : In (g j) y). hg.one k j y r n) (in_either (f j) (g j) y i))
      (in_either (f k) (g k) y h);
}
  where
    apart : (k j y : ℕ) → In (f k) y → In (g j) y → ⊥
    apart k j y l r = omega (arith, hf.under k y l, hg.above j y r, b)

-- numbers from one on and below another, each once
pub record AreOnceWithin (ys : List ℕ) (low high : ℕ) : Type 0 where
  pub distinct : Distinct ys
  pub above : (y : ℕ) → In ys y → low ≤ y
  pub under : (y : ℕ) → In ys y → y < high

pub chosen_from : (t : Bool) (ys : List ℕ) (y : ℕ) → In (if t then ys else []) y → (t ≡ true) × In ys y
chosen_from true ys y h = (refl, h)
chosen_from false ys y h = absurd h

-- what the instance of a declaration gives
once_chosen : (i : ℕ) (ys : List ℕ) (low high : ℕ) → AreOnceWithin ys low high → IsOnceWithin (λ k. if nat_eq i k then ys else []) low high
once_chosen i ys low high h = record {
  distinct = λ k. go (nat_eq i k);
  above = λ k y among. h.above y (chosen_from (nat_eq i k) ys y among).1;
  under = λ k y among. h.under y (chosen_from (nat_eq i k) ys y among).1;
  one = λ k j y l r. sym (eqb-true i k (chosen_from (nat_eq i k) ys y l).0) ∙ eqb-true i j (chosen_from (nat_eq i j) ys y r).0;
}
  where
    go : (t : Bool) → Distinct (if t then ys else [])
    go true = h.distinct
    go false = tt

once_listed : (gives : ℕ → List ℕ) (low high : ℕ) (ks : List ℕ) → IsOnceWithin gives low high → Distinct ks → Distinct (flat_map gives ks)
once_listed gives low high [] h once = tt
once_listed gives low high (k ∷ ks) h once =
    distinct_joined (gives k) (flat_map gives ks) (h.distinct k) (once_listed gives low high ks h once.1)
    (λ y l r. let from = in_flat_map_from gives ks y r in once.0 (subst (In ks) (h.one from.0 k y from.2 l) from.1))

once_walked : (m : LeafModule) (gives : ℕ → List ℕ) (low high : ℕ) → IsOnceWithin gives low high → AreOnceWithin (walk m gives) low high
once_walked m gives low high h = record {
  distinct = once_listed gives low high (range_with_len 0 (length m.declared)) h (range_once 0 (length m.declared));
  above = λ y among. let from = in_flat_map_from gives (range_with_len 0 (length m.declared)) y among in h.above from.0 y from.2;
  under = λ y among. let from = in_flat_map_from gives (range_with_len 0 (length m.declared)) y among in h.under from.0 y from.2;
}

not_below : (x y : ℕ) → (x < y → ⊥) → y ≤ x
not_below x y h = go (nat_lt x y) refl
  where
    go : (b : Bool) → nat_lt x y ≡ b → y ≤ x
    go true e = absurd (h (ltb-true x y e))
    go false e = ltb-false x y e

-- a word of a module's own
pub record IsOwnWord (m : LeafModule) (k x : ℕ) : Type 0 where
  pub within : x < length m.leaves
  pub declaration : (leaf_at m.leaves x).declaration ≡ k
  pub inner : m.port_leaves ≤ x
  pub word : IsWord (leaf_at m.leaves x)

pub own_word : (m : LeafModule) (k x : ℕ) → PortsShowNone m → In (own_words m k) x → IsOwnWord m k x
own_word m k x none among = by (numbers_from (λ (l : LeafDeclared). nat_eq l.declaration k && is_state l.role && has_bits l.holds) 0 m.leaves no_leaf x among)
  where
    by : IsNumberOf (λ (l : LeafDeclared). nat_eq l.declaration k && is_state l.role && has_bits l.holds) 0 m.leaves no_leaf x → IsOwnWord m k x
    by r =
        let e : r.place ≡ x = omega (arith, r.is) in
        let so : (nat_eq (leaf_at m.leaves x).declaration k && is_state (leaf_at m.leaves x).role && has_bits (leaf_at m.leaves x).holds) ≡ true =
        subst (λ z. (nat_eq (leaf_at m.leaves z).declaration k && is_state (leaf_at m.leaves z).role && has_bits (leaf_at m.leaves z).holds) ≡ true) e r.so in
        let ends = and_parts (nat_eq (leaf_at m.leaves x).declaration k && is_state (leaf_at m.leaves x).role) (has_bits (leaf_at m.leaves x).holds) so in
        let both = and_parts (nat_eq (leaf_at m.leaves x).declaration k) (is_state (leaf_at m.leaves x).role) ends.0 in
        record {
          within = omega (arith, r.within, e);
          declaration = eqb-true _ _ both.0;
          inner = not_below x m.port_leaves (λ lt. true≢false (sym both.1 ∙ none.each x lt));
          word = record { state = both.1; bits = ends.1 };
        }

own_once : (m : LeafModule) (first free : ℕ) → PortsShowNone m
    → IsOnceWithin (λ k. map (number (numbering m first free)) (own_words m k)) free (free + length (inner_leaves m))
own_once m first free none = record {
  distinct = λ k.
      once_mapped (number (numbering m first free)) (own_words m k) (λ x y hx hy e. one_word k k x y (own_word m k x none hx) (own_word m k y none hy) e)
      (numbers_once (λ (l : LeafDeclared). nat_eq l.declaration k && is_state l.role && has_bits l.holds) 0 m.leaves no_leaf);
  above = λ k y among.
      let from = in_map_from (number (numbering m first free)) (own_words m k) y among in
      let w = own_word m k from.0 none from.1 in
      omega (arith, from.2, number_own (numbering m first free) from.0 w.inner);
  under = λ k y among.
      let from = in_map_from (number (numbering m first free)) (own_words m k) y among in
      let w = own_word m k from.0 none from.1 in
      omega (arith, from.2, number_own (numbering m first free) from.0 w.inner, w.inner, w.within, length-drop m.port_leaves m.leaves);
  one = λ k j y l r.
      let a = in_map_from (number (numbering m first free)) (own_words m k) y l in
      let b = in_map_from (number (numbering m first free)) (own_words m j) y r in
      let wa = own_word m k a.0 none a.1 in
      let wb = own_word m j b.0 none b.1 in
      let same : a.0 ≡ b.0 = one_word k j a.0 b.0 wa wb (a.2 ∙ sym b.2) in
      sym wa.declaration ∙ ap (λ z. (leaf_at m.leaves z).declaration) same ∙ wb.declaration;
}
  where
    one_word : (k j x y : ℕ) → IsOwnWord m k x → IsOwnWord m j y → number (numbering m first free) x ≡ number (numbering m first free) y → x ≡ y
    one_word k j x y wx wy e =
        omega (arith, wx.inner, wy.inner, e, number_own (numbering m first free) x wx.inner, number_own (numbering m first free) y wy.inner)

mutual
  item_once : (n : Numbering) (free : ℕ) (i : Item) → EachInItem PortsShowNone i → IsOnceWithin (λ k. words_in n free k i) free (free + count i)
  item_once n free (drive p b ps t) h = once_none free (free + 0)
  item_once n free (when p c a b) h =
      once_joined (λ k. all_words_in n free k a) (λ k. all_words_in n (free + count_all a) k b) free (free + count_all a) (free + count_all a)
      ((free + count_all a) + count_all b) (free + (count_all a + count_all b)) (omega arith) (omega arith) (omega arith) (omega arith) (omega arith)
      (items_once n free a h.0) (items_once n (free + count_all a) b h.1)
  item_once n free (instance i d) h =
      once_chosen i.declaration (words_below (number n i.first) free d) free (free + count_below d) (below_once (number n i.first) free d h)

  items_once : (n : Numbering) (free : ℕ) (is : Items) → EachInItems PortsShowNone is → IsOnceWithin (λ k. all_words_in n free k is) free (free + count_all is)
  items_once n free done h = once_none free (free + 0)
  items_once n free ((then) i is) h =
      once_joined (λ k. words_in n free k i) (λ k. all_words_in n (free + count i) k is) free (free + count i) (free + count i)
      ((free + count i) + count_all is) (free + (count i + count_all is)) (omega arith) (omega arith) (omega arith) (omega arith) (omega arith)
      (item_once n free i h.0) (items_once n (free + count i) is h.1)

  below_once : (first free : ℕ) (d : Design) → EachModule PortsShowNone d → AreOnceWithin (words_below first free d) free (free + count_below d)
  below_once first free (made_of c is) h =
      let n = numbering c first free in
      let inner = length (inner_leaves c) in
      once_walked c (λ k. map (number n) (own_words c k) ++ all_words_in n (free + inner) k is) free (free + (inner + count_all is))
      (once_joined (λ k. map (number n) (own_words c k)) (λ k. all_words_in n (free + inner) k is) free (free + inner) (free + inner)
      ((free + inner) + count_all is) (free + (inner + count_all is)) (omega arith) (omega arith) (omega arith) (omega arith) (omega arith)
      (own_once c first free h.0) (items_once n (free + inner) is h.1))

pub words_once : WordsStandOnce
words_once (made_of m is) h = (below_once 0 m.port_leaves (made_of m is) h).distinct

pub own_array : (m : LeafModule) (k x : ℕ) → In (own_arrays m k) x
    → IsNumberOf (λ (a : LeafArray). nat_eq a.declaration k && has_bits a.holds) 0 m.arrays no_array x
own_array m k x among = numbers_from (λ (a : LeafArray). nat_eq a.declaration k && has_bits a.holds) 0 m.arrays no_array x among

own_arrays_once : (m : LeafModule) (array : ℕ) → IsOnceWithin (λ k. map (λ x. array + x) (own_arrays m k)) array (array + length m.arrays)
own_arrays_once m array = record {
  distinct = λ k.
      once_mapped (λ x. array + x) (own_arrays m k) (λ x y hx hy e. omega (arith, e))
      (numbers_once (λ (a : LeafArray). nat_eq a.declaration k && has_bits a.holds) 0 m.arrays no_array);
  above = λ k y among. let from = in_map_from (λ x. array + x) (own_arrays m k) y among in omega (arith, from.2);
  under = λ k y among.
      let from = in_map_from (λ x. array + x) (own_arrays m k) y among in
      let r = own_array m k from.0 from.1 in
      omega (arith, from.2, r.is, r.within);
  one = λ k j y l r.
      let a = in_map_from (λ x. array + x) (own_arrays m k) y l in
      let b = in_map_from (λ x. array + x) (own_arrays m j) y r in
      let wa = own_array m k a.0 a.1 in
      let wb = own_array m j b.0 b.1 in
      let same : wa.place ≡ wb.place = omega (arith, a.2, b.2, wa.is, wb.is) in
      sym (eqb-true _ k (and_parts _ _ wa.so).0) ∙ ap (λ z. (slice_index_or m.arrays z no_array).declaration) same ∙ eqb-true _ j (and_parts _ _ wb.so).0;
}

mutual
  item_arrays_once : (array : ℕ) (i : Item) → IsOnceWithin (λ k. array_order_in array k i) array (array + array_count i)
  item_arrays_once array (drive p b ps t) = once_none array (array + 0)
  item_arrays_once array (when p c a b) =
      once_joined (λ k. all_array_order_in array k a) (λ k. all_array_order_in (array + array_count_all a) k b) array (array + array_count_all a)
      (array + array_count_all a) ((array + array_count_all a) + array_count_all b) (array + (array_count_all a + array_count_all b))
      (omega arith) (omega arith) (omega arith) (omega arith) (omega arith) (items_arrays_once array a) (items_arrays_once (array + array_count_all a) b)
  item_arrays_once array (instance i d) = once_chosen i.declaration (array_order_below array d) array (array + array_count_below d) (arrays_below_once array d)

  items_arrays_once : (array : ℕ) (is : Items) → IsOnceWithin (λ k. all_array_order_in array k is) array (array + array_count_all is)
  items_arrays_once array done = once_none array (array + 0)
  items_arrays_once array ((then) i is) =
      once_joined (λ k. array_order_in array k i) (λ k. all_array_order_in (array + array_count i) k is) array (array + array_count i)
      (array + array_count i) ((array + array_count i) + array_count_all is) (array + (array_count i + array_count_all is))
      (omega arith) (omega arith) (omega arith) (omega arith) (omega arith) (item_arrays_once array i) (items_arrays_once (array + array_count i) is)

  arrays_below_once : (array : ℕ) (d : Design) → AreOnceWithin (array_order_below array d) array (array + array_count_below d)
  arrays_below_once array (made_of c is) =
      once_walked c (λ k. map (λ x. array + x) (own_arrays c k) ++ all_array_order_in (array + length c.arrays) k is) array
      (array + (length c.arrays + array_count_all is))
      (once_joined (λ k. map (λ x. array + x) (own_arrays c k)) (λ k. all_array_order_in (array + length c.arrays) k is) array (array + length c.arrays)
      (array + length c.arrays) ((array + length c.arrays) + array_count_all is) (array + (length c.arrays + array_count_all is))
      (omega arith) (omega arith) (omega arith) (omega arith) (omega arith) (own_arrays_once c array) (items_arrays_once (array + length c.arrays) is))

pub arrays_once : ArraysStandOnce
arrays_once (made_of m is) = (arrays_below_once 0 (made_of m is)).distinct
