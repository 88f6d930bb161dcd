-- No word and no array of a design is left out of the order of its state.
use Rattle.std.proofs.Common.{◌≡◌, ℕ, zero, suc, ◌+◌, ◌-◌, ◌<◌, ◌≤◌, List, [], ◌∷◌, ◌++◌, Bool, true, false, ◌&&◌, map, length, nat_eq, nat_lt, refl, sym, ap, ◌∙◌, arith, subst, inl, inr, length-append}
use Rattle.std.specs.Prelude.{if◌then◌else◌, slice_index_or}
use Rattle.std.specs.List.{range_with_len}
use Rattle.std.proofs.lemmas.Bool.{and_from, eq-eqb, ltb-true, ltb-false}
use Rattle.std.proofs.lemmas.List.{length-map, length-drop, length-take, get_or-map, get_or-drop, get_or-take, get_or_append_left, get_or-append-add}
use Rattle.std.proofs.lemmas.List.FromFn.{get_or-range_with_len, length-range_with_len}
use Rattle.fir_base.specs.Lists.{In}
use Rattle.fir_base.proofs.Members.{in_flat_map, in_left, in_map, in_right}
use Rattle.fir_meaning.specs.LeafPaths.{LeafPath}
use Rattle.fir_meaning.specs.working.LeafBlocks.{HeldInstance}
use Rattle.fir_meaning.specs.working.LeafModules.{LeafArray, LeafDeclared, LeafModule, Role, computed, leaf_at, no_leaf, pipe, reading, register, sink, source}
use Rattle.fir_meaning.specs.working.Designs.{Item, drive, when, instance, Items, done, then, Design, made_of}
use Rattle.fir_meaning.specs.working.DesignPaths.{instance_path}
use Rattle.fir_leaf.specs.working.DesignStates.{array_at, no_array}
use Rattle.fir_meaning.specs.working.Numberings.{Numbering, moved_role, number, numbering}
use Rattle.fir_meaning.specs.working.FlatDesigns.{inner_leaves, count, count_all, array_count, array_count_all}
use Rattle.fir_meaning.specs.working.FlatLeaves.{placed_leaf, leaves_in, all_leaves_in, leaves_below, placed_array, arrays_in, all_arrays_in, arrays_below}
use Rattle.fir_meaning.specs.working.StateWalks.{all_array_order_in, all_words_in, array_order_below, array_order_in, is_state, numbers_where, own_arrays, own_words, walk, words_below, words_in}
use Rattle.fir_meaning.specs.LeafTypes.{has_bits}
use Rattle.fir_meaning.specs.working.Flattened.{port_leaves}
use Rattle.fir_leaf.specs.working.NamedDesigns.{HasOwnNames, IsNamedItem, AreNamedItems, IsNamedInstance}
use Rattle.fir_leaf.specs.working.StateLaws.{ArraysAreAll, WordsAreAll}
use Rattle.fir_leaf.proofs.MovedTerms.{number_own, number_port}
use Rattle.fir_leaf.proofs.FlatPlaces.{count_is, counts_are}
use Rattle.fir_leaf.proofs.FlatArrays.{array_count_is, array_counts_are}
use Rattle.fir_leaf.proofs.OncePaths.{at_in}

-- an element of joined lists
joined_at : {A : Type 0} (xs ys : List A) (d : A) (p : ℕ) (R : Type 0) → (p < length xs → slice_index_or (xs ++ ys) p d ≡ slice_index_or xs p d → R)
    → ((q : ℕ) → p ≡ length xs + q → slice_index_or (xs ++ ys) p d ≡ slice_index_or ys q d → R) → R
joined_at xs ys d p R left right = go (nat_lt p (length xs)) refl
  where
    go : (b : Bool) → nat_lt p (length xs) ≡ b → R
    go true e = let lt : p < length xs = ltb-true p (length xs) e in left lt (get_or_append_left xs ys d p lt)
    go false e =
        let le : length xs ≤ p = ltb-false p (length xs) e in
        let is : p ≡ length xs + (p - length xs) = omega (arith, le) in
        right (p - length xs) is (ap (λ z. slice_index_or (xs ++ ys) z d) is ∙ get_or-append-add xs ys (p - length xs) d)

-- what is so has its number in the list
in_numbers : {A : Type 0} (is_so : A → Bool) (b : ℕ) (xs : List A) (d : A) (x y : ℕ) → x < length xs → y ≡ b + x → is_so (slice_index_or xs x d) ≡ true
    → In (numbers_where is_so b xs) y
in_numbers is_so b [] d x y lt e h = absurd (omega (arith, lt))
in_numbers is_so b (a ∷ others) d zero y lt e h =
    let same : b ≡ y = omega (arith, e) in
    subst (λ t. In (if t then b ∷ numbers_where is_so (suc b) others else numbers_where is_so (suc b) others) y) (sym h) (inl same)
in_numbers is_so b (a ∷ others) d (suc x) y lt e h = go (is_so a) (in_numbers is_so (suc b) others d x y (omega (arith, lt)) (omega (arith, e)) h)
  where
    go : (t : Bool) → In (numbers_where is_so (suc b) others) y
        → In (if t then b ∷ numbers_where is_so (suc b) others else numbers_where is_so (suc b) others) y
    go true among = inr among
    go false among = among

-- a number that a declaration of the module gives
pub record IsGiven (m : LeafModule) (gives : ℕ → List ℕ) (y : ℕ) : Type 0 where
  pub declaration : ℕ
  pub within : declaration < length m.declared
  pub among : In (gives declaration) y

first_given : (m : LeafModule) (f g : ℕ → List ℕ) (y : ℕ) → IsGiven m f y → IsGiven m (λ k. f k ++ g k) y
first_given m f g y h = record { declaration = h.declaration; within = h.within; among = in_left (f h.declaration) (g h.declaration) y h.among }

second_given : (m : LeafModule) (f g : ℕ → List ℕ) (y : ℕ) → IsGiven m g y → IsGiven m (λ k. f k ++ g k) y
second_given m f g y h = record { declaration = h.declaration; within = h.within; among = in_right (f h.declaration) (g h.declaration) y h.among }

in_walk : (m : LeafModule) (gives : ℕ → List ℕ) (y : ℕ) → IsGiven m gives y → In (walk m gives) y
in_walk m gives y h =
    in_flat_map gives (range_with_len 0 (length m.declared)) h.declaration y (subst (In (range_with_len 0 (length m.declared))) same member) h.among
  where
    same : slice_index_or (range_with_len 0 (length m.declared)) h.declaration 0 ≡ h.declaration
    same = let z : 0 + h.declaration ≡ h.declaration = omega arith in get_or-range_with_len 0 (length m.declared) h.declaration 0 h.within ∙ z

    member : In (range_with_len 0 (length m.declared)) (slice_index_or (range_with_len 0 (length m.declared)) h.declaration 0)
    member = at_in (range_with_len 0 (length m.declared)) 0 h.declaration (omega (arith, h.within, length-range_with_len 0 (length m.declared)))

-- what the instance of a declaration gives
given_by : (m : LeafModule) (i : HeldInstance) (ys : List ℕ) (y : ℕ) → i.declaration < length m.declared → In ys y
    → IsGiven m (λ k. if nat_eq i.declaration k then ys else []) y
given_by m i ys y lt among = record {
  declaration = i.declaration;
  within = lt;
  among = subst (λ t. In (if t then ys else []) y) (sym (eq-eqb i.declaration i.declaration refl)) among;
}

pub state_moved : (n : Numbering) (array : ℕ) (r : Role) → is_state (moved_role n array r) ≡ is_state r
state_moved n array source = refl
state_moved n array sink = refl
state_moved n array (computed t) = refl
state_moved n array (register c r) = refl
state_moved n array (reading r) = refl
state_moved n array (pipe r clock under) = refl

pub record IsWord (l : LeafDeclared) : Type 0 where
  pub state : is_state l.role ≡ true
  pub bits : has_bits l.holds ≡ true

own_given : (m : LeafModule) (first free : ℕ) (x : ℕ) → HasOwnNames m → x < length m.leaves → IsWord (leaf_at m.leaves x)
    → IsGiven m (λ k. map (number (numbering m first free)) (own_words m k)) (number (numbering m first free) x)
own_given m first free x own lt w = record {
  declaration = (leaf_at m.leaves x).declaration;
  within = own.declared x lt;
  among =
      in_map (number (numbering m first free)) (own_words m (leaf_at m.leaves x).declaration) x
      (in_numbers (λ (l : LeafDeclared). nat_eq l.declaration (leaf_at m.leaves x).declaration && is_state l.role && has_bits l.holds) 0 m.leaves no_leaf
      x x lt (omega arith)
      (and_from _ _ (and_from _ _ (eq-eqb (leaf_at m.leaves x).declaration (leaf_at m.leaves x).declaration refl) w.state) w.bits));
}

-- those of the module's own leaves, and of its instances
inside_given : (path : LeafPath) (k : ℕ) (c : LeafModule) (first free array : ℕ) (is : Items) (p y : ℕ) → HasOwnNames c
    → p < length (leaves_below path k first free array (made_of c is)) → y ≡ free + p → IsWord (leaf_at (leaves_below path k first free array (made_of c is)) p)
    → ((q : ℕ) → q < length (all_leaves_in path k c (numbering c first free) (free + length (inner_leaves c)) (array + length c.arrays) is)
    → y ≡ (free + length (inner_leaves c)) + q
    → IsWord (leaf_at (all_leaves_in path k c (numbering c first free) (free + length (inner_leaves c)) (array + length c.arrays) is) q)
    → IsGiven c (λ d. all_words_in (numbering c first free) (free + length (inner_leaves c)) d is) y)
    → In (words_below first free (made_of c is)) y
inside_given path k c first free array is p y own lt e w rest =
    let n = numbering c first free in
    let placed = map (placed_leaf path k n array) (inner_leaves c) in
    let others = all_leaves_in path k c n (free + length (inner_leaves c)) (array + length c.arrays) is in
    let mine = λ (d : ℕ). map (number n) (own_words c d) in
    let theirs = λ (d : ℕ). all_words_in n (free + length (inner_leaves c)) d is in
    let long : length placed ≡ length (inner_leaves c) = length-map (inner_leaves c) (placed_leaf path k n array) in
    in_walk c (λ d. mine d ++ theirs d) y
    (joined_at placed others no_leaf p (IsGiven c (λ d. mine d ++ theirs d) y)
    (λ low same. first_given c mine theirs y (here (omega (arith, low, long)) (subst IsWord same w)))
    (λ q at same. second_given c mine theirs y
    (rest q (omega (arith, lt, at, length-append placed others)) (omega (arith, e, at, long)) (subst IsWord same w))))
  where
    here : p < length (inner_leaves c) → IsWord (leaf_at (map (placed_leaf path k (numbering c first free) array) (inner_leaves c)) p)
        → IsGiven c (λ d. map (number (numbering c first free)) (own_words c d)) y
    here low word =
        let n = numbering c first free in
        let within : c.port_leaves + p < length c.leaves = omega (arith, low, length-drop c.port_leaves c.leaves) in
        let same : leaf_at (map (placed_leaf path k n array) (inner_leaves c)) p ≡ placed_leaf path k n array (leaf_at c.leaves (c.port_leaves + p)) =
        get_or-map (placed_leaf path k n array) (inner_leaves c) p no_leaf no_leaf low
        ∙ ap (placed_leaf path k n array) (get_or-drop c.port_leaves c.leaves p no_leaf) in
        let moved : IsWord (placed_leaf path k n array (leaf_at c.leaves (c.port_leaves + p))) = subst IsWord same word in
        let own_word : IsWord (leaf_at c.leaves (c.port_leaves + p)) =
        record { state = sym (state_moved n array (leaf_at c.leaves (c.port_leaves + p)).role) ∙ moved.state; bits = moved.bits } in
        let is_y : number n (c.port_leaves + p) ≡ y = omega (arith, number_own n (c.port_leaves + p) (omega arith), e) in
        subst (IsGiven c (λ d. map (number n) (own_words c d))) is_y (own_given c first free (c.port_leaves + p) own within own_word)

-- a leaf of the main module's ports
port_given : (m : LeafModule) (x : ℕ) → HasOwnNames m → m.port_leaves ≤ length m.leaves → x < m.port_leaves → IsWord (leaf_at (port_leaves m) x)
    → IsGiven m (λ d. map (number (numbering m 0 m.port_leaves)) (own_words m d)) x
port_given m x own room lt w =
    let same : leaf_at (port_leaves m) x ≡ leaf_at m.leaves x = get_or-take m.port_leaves m.leaves x no_leaf lt in
    let is_x : number (numbering m 0 m.port_leaves) x ≡ x = omega (arith, number_port (numbering m 0 m.port_leaves) x lt) in
    subst (IsGiven m (λ d. map (number (numbering m 0 m.port_leaves)) (own_words m d))) is_x
    (own_given m 0 m.port_leaves x own (omega (arith, lt, room)) (subst IsWord same w))

mutual
  item_given : (path : LeafPath) (k : ℕ) (m : LeafModule) (n : Numbering) (free array : ℕ) (i : Item) (p y : ℕ) → IsNamedItem m i
      → p < length (leaves_in path k m n free array i) → y ≡ free + p → IsWord (leaf_at (leaves_in path k m n free array i) p)
      → IsGiven m (λ d. words_in n free d i) y
  item_given path k m n free array (drive q b ps t) p y h lt e w = absurd (omega (arith, lt))
  item_given path k m n free array (when q c a b) p y h lt e w =
      let first = all_leaves_in path (k + 1) m n free array a in
      let second = all_leaves_in path (k + 1) m n (free + count_all a) (array + array_count_all a) b in
      joined_at first second no_leaf p (IsGiven m (λ d. all_words_in n free d a ++ all_words_in n (free + count_all a) d b) y)
      (λ low is. first_given m (λ d. all_words_in n free d a) (λ d. all_words_in n (free + count_all a) d b) y
      (items_given path (k + 1) m n free array a p y h.0 low e (subst IsWord is w)))
      (λ r at is. second_given m (λ d. all_words_in n free d a) (λ d. all_words_in n (free + count_all a) d b) y
      (items_given path (k + 1) m n (free + count_all a) (array + array_count_all a) b r y h.1 (omega (arith, lt, at, length-append first second))
      (omega (arith, e, at, counts_are path (k + 1) m n free array a)) (subst IsWord is w)))
  item_given path k m n free array (instance i d) p y h lt e w = instance_given path k m n free array i d p y h lt e w

  items_given : (path : LeafPath) (k : ℕ) (m : LeafModule) (n : Numbering) (free array : ℕ) (is : Items) (p y : ℕ) → AreNamedItems m is
      → p < length (all_leaves_in path k m n free array is) → y ≡ free + p → IsWord (leaf_at (all_leaves_in path k m n free array is) p)
      → IsGiven m (λ d. all_words_in n free d is) y
  items_given path k m n free array done p y h lt e w = absurd (omega (arith, lt))
  items_given path k m n free array ((then) i is) p y h lt e w =
      let first = leaves_in path k m n free array i in
      let second = all_leaves_in path k m n (free + count i) (array + array_count i) is in
      joined_at first second no_leaf p (IsGiven m (λ d. words_in n free d i ++ all_words_in n (free + count i) d is) y)
      (λ low same. first_given m (λ d. words_in n free d i) (λ d. all_words_in n (free + count i) d is) y
      (item_given path k m n free array i p y h.0 low e (subst IsWord same w)))
      (λ r at same. second_given m (λ d. words_in n free d i) (λ d. all_words_in n (free + count i) d is) y
      (items_given path k m n (free + count i) (array + array_count i) is r y h.1 (omega (arith, lt, at, length-append first second))
      (omega (arith, e, at, count_is path k m n free array i)) (subst IsWord same w)))

  instance_given : (path : LeafPath) (k : ℕ) (m : LeafModule) (n : Numbering) (free array : ℕ) (i : HeldInstance) (d : Design) (p y : ℕ) → IsNamedInstance m i d
      → p < length (leaves_below (instance_path path m i) k (number n i.first) free array d) → y ≡ free + p
      → IsWord (leaf_at (leaves_below (instance_path path m i) k (number n i.first) free array d) p)
      → IsGiven m (λ z. if nat_eq i.declaration z then words_below (number n i.first) free d else []) y
  instance_given path k m n free array i (made_of c is) p y h lt e w =
      given_by m i (words_below (number n i.first) free (made_of c is)) y h.0.declared
      (inside_given (instance_path path m i) k c (number n i.first) free array is p y h.1 lt e w
      (λ q low. items_given (instance_path path m i) k c (numbering c (number n i.first) free) (free + length (inner_leaves c)) (array + length c.arrays)
      is q y h.3 low))

pub words_are_all : WordsAreAll
words_are_all (made_of m is) room h x lt state bits =
    let n = numbering m 0 m.port_leaves in
    let below = leaves_below [] 0 0 m.port_leaves 0 (made_of m is) in
    let mine = λ (d : ℕ). map (number n) (own_words m d) in
    let theirs = λ (d : ℕ). all_words_in n (m.port_leaves + length (inner_leaves m)) d is in
    let word : IsWord (leaf_at (port_leaves m ++ below) x) = record { state = state; bits = bits } in
    let long : length (port_leaves m) ≡ m.port_leaves = omega (arith, room, length-take m.port_leaves m.leaves) in
    joined_at (port_leaves m) below no_leaf x (In (words_below 0 m.port_leaves (made_of m is)) x)
    (λ low same. in_walk m (λ d. mine d ++ theirs d) x (first_given m mine theirs x
    (port_given m x h.0 room (omega (arith, low, long)) (subst IsWord same word))))
    (λ p at same.
    inside_given [] 0 m 0 m.port_leaves 0 is p x h.0 (omega (arith, lt, at, length-append (port_leaves m) below)) (omega (arith, at, long))
    (subst IsWord same word)
    (λ q low. items_given [] 0 m n (m.port_leaves + length (inner_leaves m)) (0 + length m.arrays) is q x h.2 low))

-- arrays likewise
abbrev HasBits : LeafArray → Type 0
HasBits a = has_bits a.holds ≡ true

own_array_given : (m : LeafModule) (array x y : ℕ) → HasOwnNames m → x < length m.arrays → y ≡ array + x → HasBits (array_at m.arrays x)
    → IsGiven m (λ k. map (λ z. array + z) (own_arrays m k)) y
own_array_given m array x y own lt e w = record {
  declaration = (array_at m.arrays x).declaration;
  within = own.arrays x lt;
  among =
      subst (In (map (λ z. array + z) (own_arrays m (array_at m.arrays x).declaration))) (sym e)
      (in_map (λ z. array + z) (own_arrays m (array_at m.arrays x).declaration) x
      (in_numbers (λ (a : LeafArray). nat_eq a.declaration (array_at m.arrays x).declaration && has_bits a.holds) 0 m.arrays no_array x x lt (omega arith)
      (and_from _ _ (eq-eqb (array_at m.arrays x).declaration (array_at m.arrays x).declaration refl) w)));
}

inside_array : (path : LeafPath) (c : LeafModule) (first free array : ℕ) (is : Items) (p y : ℕ) → HasOwnNames c
    → p < length (arrays_below path first free (made_of c is)) → y ≡ array + p → HasBits (array_at (arrays_below path first free (made_of c is)) p)
    → ((q : ℕ) → q < length (all_arrays_in path c (numbering c first free) (free + length (inner_leaves c)) is) → y ≡ (array + length c.arrays) + q
    → HasBits (array_at (all_arrays_in path c (numbering c first free) (free + length (inner_leaves c)) is) q)
    → IsGiven c (λ d. all_array_order_in (array + length c.arrays) d is) y)
    → In (array_order_below array (made_of c is)) y
inside_array path c first free array is p y own lt e w rest =
    let n = numbering c first free in
    let placed = map (placed_array path n) c.arrays in
    let others = all_arrays_in path c n (free + length (inner_leaves c)) is in
    let mine = λ (d : ℕ). map (λ x. array + x) (own_arrays c d) in
    let theirs = λ (d : ℕ). all_array_order_in (array + length c.arrays) d is in
    let long : length placed ≡ length c.arrays = length-map c.arrays (placed_array path n) in
    in_walk c (λ d. mine d ++ theirs d) y
    (joined_at placed others no_array p (IsGiven c (λ d. mine d ++ theirs d) y)
    (λ low same.
    let within : p < length c.arrays = omega (arith, low, long) in
    first_given c mine theirs y (own_array_given c array p y own within e
    (subst HasBits (same ∙ get_or-map (placed_array path n) c.arrays p no_array no_array within) w)))
    (λ q at same. second_given c mine theirs y
    (rest q (omega (arith, lt, at, length-append placed others)) (omega (arith, e, at, long)) (subst HasBits same w))))

mutual
  item_array : (path : LeafPath) (m : LeafModule) (n : Numbering) (free array : ℕ) (i : Item) (p y : ℕ) → IsNamedItem m i
      → p < length (arrays_in path m n free i) → y ≡ array + p → HasBits (array_at (arrays_in path m n free i) p) → IsGiven m (λ d. array_order_in array d i) y
  item_array path m n free array (drive q b ps t) p y h lt e w = absurd (omega (arith, lt))
  item_array path m n free array (when q c a b) p y h lt e w =
      let first = all_arrays_in path m n free a in
      let second = all_arrays_in path m n (free + count_all a) b in
      let mine = λ (d : ℕ). all_array_order_in array d a in
      let theirs = λ (d : ℕ). all_array_order_in (array + array_count_all a) d b in
      joined_at first second no_array p (IsGiven m (λ d. mine d ++ theirs d) y)
      (λ low same. first_given m mine theirs y (items_array path m n free array a p y h.0 low e (subst HasBits same w)))
      (λ r at same. second_given m mine theirs y
      (items_array path m n (free + count_all a) (array + array_count_all a) b r y h.1 (omega (arith, lt, at, length-append first second))
      (omega (arith, e, at, array_counts_are path m n free a)) (subst HasBits same w)))
  item_array path m n free array (instance i d) p y h lt e w = instance_array path m n free array i d p y h lt e w

  items_array : (path : LeafPath) (m : LeafModule) (n : Numbering) (free array : ℕ) (is : Items) (p y : ℕ) → AreNamedItems m is
      → p < length (all_arrays_in path m n free is) → y ≡ array + p → HasBits (array_at (all_arrays_in path m n free is) p)
      → IsGiven m (λ d. all_array_order_in array d is) y
  items_array path m n free array done p y h lt e w = absurd (omega (arith, lt))
  items_array path m n free array ((then) i is) p y h lt e w =
      let first = arrays_in path m n free i in
      let second = all_arrays_in path m n (free + count i) is in
      let mine = λ (d : ℕ). array_order_in array d i in
      let theirs = λ (d : ℕ). all_array_order_in (array + array_count i) d is in
      joined_at first second no_array p (IsGiven m (λ d. mine d ++ theirs d) y)
      (λ low same. first_given m mine theirs y (item_array path m n free array i p y h.0 low e (subst HasBits same w)))
      (λ r at same. second_given m mine theirs y
      (items_array path m n (free + count i) (array + array_count i) is r y h.1 (omega (arith, lt, at, length-append first second))
      (omega (arith, e, at, array_count_is path m n free i)) (subst HasBits same w)))

  instance_array : (path : LeafPath) (m : LeafModule) (n : Numbering) (free array : ℕ) (i : HeldInstance) (d : Design) (p y : ℕ) → IsNamedInstance m i d
      → p < length (arrays_below (instance_path path m i) (number n i.first) free d) → y ≡ array + p
      → HasBits (array_at (arrays_below (instance_path path m i) (number n i.first) free d) p)
      → IsGiven m (λ z. if nat_eq i.declaration z then array_order_below array d else []) y
  instance_array path m n free array i (made_of c is) p y h lt e w =
      given_by m i (array_order_below array (made_of c is)) y h.0.declared
      (inside_array (instance_path path m i) c (number n i.first) free array is p y h.1 lt e w
      (λ q low. items_array (instance_path path m i) c (numbering c (number n i.first) free) (free + length (inner_leaves c)) (array + length c.arrays)
      is q y h.3 low))

pub arrays_are_all : ArraysAreAll
arrays_are_all (made_of m is) h x lt bits =
    inside_array [] m 0 m.port_leaves 0 is x x h.0 lt (omega arith) bits
    (λ q low. items_array [] m (numbering m 0 m.port_leaves) (m.port_leaves + length (inner_leaves m)) (0 + length m.arrays) is q x h.2 low)
