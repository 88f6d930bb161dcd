-- Each word of a design's state is a leaf that shows state and has bits, and each array has bits.
use Rattle.std.proofs.Common.{◌≡◌, ℕ, ◌+◌, ◌<◌, List, [], ◌++◌, true, map, length, nat_eq, refl, sym, ap, ◌∙◌, arith, append-nil, subst, ⊎_elim}
use Rattle.std.specs.List.{range_with_len}
use Rattle.std.proofs.lemmas.Bool.{and_parts}
use Rattle.std.proofs.lemmas.List.{length-map, get_or-map}
use Rattle.fir_base.specs.Lists.{In}
use Rattle.fir_base.proofs.Members.{in_either, in_flat_map_from, in_map_from}
use Rattle.fir_meaning.specs.LeafPaths.{LeafPath}
use Rattle.fir_meaning.specs.working.LeafModules.{LeafArray, LeafDeclared, LeafModule, leaf_at}
use Rattle.fir_meaning.specs.working.Designs.{Item, drive, when, instance, Items, done, then, Design, made_of}
use Rattle.fir_meaning.specs.working.DesignPaths.{instance_path}
use Rattle.fir_leaf.specs.working.DesignStates.{array_at, no_array}
use Rattle.fir_meaning.specs.working.Numberings.{Numbering, number, numbering}
use Rattle.fir_meaning.specs.working.FlatDesigns.{inner_leaves, count, count_all, array_count, array_count_all}
use Rattle.fir_meaning.specs.working.FlatLeaves.{placed_leaf, leaves_in, all_leaves_in, leaves_below, placed_array, arrays_in, all_arrays_in, arrays_below}
use Rattle.fir_meaning.specs.working.StateWalks.{all_array_order_in, all_words_in, array_order_below, array_order_in, own_arrays, own_words, words_below, words_in}
use Rattle.fir_meaning.specs.LeafTypes.{has_bits}
use Rattle.fir_leaf.specs.working.StateLaws.{ArraysHaveBits, EachInItem, EachInItems, EachModule, PortsShowNone, WordsShowState}
use Rattle.fir_leaf.proofs.MovedTerms.{number_own}
use Rattle.fir_leaf.proofs.FlatPlaces.{At, at_get, at_left, at_right, at_room, count_is, counts_are, inner_at, placed_at}
use Rattle.fir_leaf.proofs.FlatArrays.{array_count_is, array_counts_are}
use Rattle.fir_leaf.proofs.FlatMeaning.{main_at, main_table}
use Rattle.fir_leaf.proofs.WholeStates.{IsWord, state_moved}
use Rattle.fir_leaf.proofs.OnceStates.{chosen_from, own_array, own_word}

-- a leaf of the table that is a word
pub record IsWordIn (table : List LeafDeclared) (y : ℕ) : Type 0 where
  pub within : y < length table
  pub word : IsWord (leaf_at table y)

module _ (table : List LeafDeclared) where
  own_shows : (path : LeafPath) (k first free array : ℕ) (c : LeafModule) (rest : List LeafDeclared) (d y : ℕ) → PortsShowNone c
      → At table free (map (placed_leaf path k (numbering c first free) array) (inner_leaves c) ++ rest)
      → In (map (number (numbering c first free)) (own_words c d)) y → IsWordIn table y
  own_shows path k first free array c rest d y none at among =
      let from = in_map_from (number (numbering c first free)) (own_words c d) y among in
      let w = own_word c d from.0 none from.1 in
      let placed = placed_at table path k first free array c rest from.0 at w.inner w.within in
      let moved : IsWord (placed_leaf path k (numbering c first free) array (leaf_at c.leaves from.0)) =
      record { state = state_moved (numbering c first free) array (leaf_at c.leaves from.0).role ∙ w.word.state; bits = w.word.bits } in
      subst (IsWordIn table) (sym (number_own (numbering c first free) from.0 w.inner) ∙ from.2)
      (record { within = placed.0; word = subst IsWord (sym placed.1) moved })

  mutual
    item_shows : (path : LeafPath) (k : ℕ) (m : LeafModule) (n : Numbering) (free array : ℕ) (i : Item) (d y : ℕ) → EachInItem PortsShowNone i
        → At table free (leaves_in path k m n free array i) → In (words_in n free d i) y → IsWordIn table y
    item_shows path k m n free array (drive p b ps t) d y h at among = absurd among
    item_shows path k m n free array (when p c a b) d y h at among =
        let first = all_leaves_in path (k + 1) m n free array a in
        let second = all_leaves_in path (k + 1) m n (free + count_all a) (array + array_count_all a) b in
        ⊎_elim
        (λ (l : In (all_words_in n free d a) y). items_show path (k + 1) m n free array a d y h.0 (at_left table first second free at) l)
        (λ (r : In (all_words_in n (free + count_all a) d b) y).
        items_show path (k + 1) m n (free + count_all a) (array + array_count_all a) b d y h.1
        (rw (counts_are path (k + 1) m n free array a) at (at_right table first second free at)) r)
        (in_either (all_words_in n free d a) (all_words_in n (free + count_all a) d b) y among)
    item_shows path k m n free array (instance i e) d y h at among =
        below_shows (instance_path path m i) k (number n i.first) free array e y h at
        (chosen_from (nat_eq i.declaration d) (words_below (number n i.first) free e) y among).1

    items_show : (path : LeafPath) (k : ℕ) (m : LeafModule) (n : Numbering) (free array : ℕ) (is : Items) (d y : ℕ) → EachInItems PortsShowNone is
        → At table free (all_leaves_in path k m n free array is) → In (all_words_in n free d is) y → IsWordIn table y
    items_show path k m n free array done d y h at among = absurd among
    items_show path k m n free array ((then) i is) d y h at among =
        let first = leaves_in path k m n free array i in
        let second = all_leaves_in path k m n (free + count i) (array + array_count i) is in
        ⊎_elim
        (λ (l : In (words_in n free d i) y). item_shows path k m n free array i d y h.0 (at_left table first second free at) l)
        (λ (r : In (all_words_in n (free + count i) d is) y).
        items_show path k m n (free + count i) (array + array_count i) is d y h.1
        (rw (count_is path k m n free array i) at (at_right table first second free at)) r)
        (in_either (words_in n free d i) (all_words_in n (free + count i) d is) y among)

    below_shows : (path : LeafPath) (k first free array : ℕ) (e : Design) (y : ℕ) → EachModule PortsShowNone e
        → At table free (leaves_below path k first free array e) → In (words_below first free e) y → IsWordIn table y
    below_shows path k first free array (made_of c is) y h at among =
        let n = numbering c first free in
        let from = in_flat_map_from
        (λ d. map (number n) (own_words c d) ++ all_words_in n (free + length (inner_leaves c)) d is) (range_with_len 0 (length c.declared)) y among in
        ⊎_elim
        (λ (l : In (map (number n) (own_words c from.0)) y). own_shows path k first free array c _ from.0 y h.0 at l)
        (λ (r : In (all_words_in n (free + length (inner_leaves c)) from.0 is) y).
        items_show path k c n (free + length (inner_leaves c)) (array + length c.arrays) is from.0 y h.1 (inner_at table path k first free array c is at) r)
        (in_either (map (number n) (own_words c from.0)) (all_words_in n (free + length (inner_leaves c)) from.0 is) y from.2)

pub words_show : WordsShowState
words_show (made_of m is) room h x among =
    let w = below_shows (main_table m is) [] 0 0 m.port_leaves 0 (made_of m is) x h (main_at m is room) among in
    record { within = w.within; shows = w.word.state; bits = w.word.bits }

-- an array of the table that has bits
pub record HasBitsIn (table : List LeafArray) (y : ℕ) : Type 0 where
  pub within : y < length table
  pub bits : has_bits (array_at table y).holds ≡ true

module _ (table : List LeafArray) where
  own_has_bits : (path : LeafPath) (c : LeafModule) (first free array : ℕ) (rest : List LeafArray) (d y : ℕ)
      → At table array (map (placed_array path (numbering c first free)) c.arrays ++ rest) → In (map (λ x. array + x) (own_arrays c d)) y → HasBitsIn table y
  own_has_bits path c first free array rest d y at among =
      let from = in_map_from (λ x. array + x) (own_arrays c d) y among in
      let r = own_array c d from.0 from.1 in
      let placed = map (placed_array path (numbering c first free)) c.arrays in
      let own : At table array placed = at_left table placed rest array at in
      let long : length placed ≡ length c.arrays = length-map c.arrays (placed_array path (numbering c first free)) in
      let within : r.place < length placed = omega (arith, r.within, long) in
      let is_y : array + r.place ≡ y = omega (arith, from.2, r.is) in
      let same : array_at table (array + r.place) ≡ placed_array path (numbering c first free) (array_at c.arrays r.place) =
      at_get table placed array r.place no_array own within
      ∙ get_or-map (placed_array path (numbering c first free)) c.arrays r.place no_array no_array r.within in
      subst (HasBitsIn table) is_y
      (record { within = omega (arith, at_room table placed array own, within); bits = ap (λ (a : LeafArray). has_bits a.holds) same ∙ (and_parts _ _ r.so).1 })

  mutual
    item_has_bits : (path : LeafPath) (m : LeafModule) (n : Numbering) (free array : ℕ) (i : Item) (d y : ℕ) → At table array (arrays_in path m n free i)
        → In (array_order_in array d i) y → HasBitsIn table y
    item_has_bits path m n free array (drive p b ps t) d y at among = absurd among
    item_has_bits path m n free array (when p c a b) d y at among =
        let first = all_arrays_in path m n free a in
        let second = all_arrays_in path m n (free + count_all a) b in
        ⊎_elim
        (λ (l : In (all_array_order_in array d a) y). items_have_bits path m n free array a d y (at_left table first second array at) l)
        (λ (r : In (all_array_order_in (array + array_count_all a) d b) y).
        items_have_bits path m n (free + count_all a) (array + array_count_all a) b d y
        (rw (array_counts_are path m n free a) at (at_right table first second array at)) r)
        (in_either (all_array_order_in array d a) (all_array_order_in (array + array_count_all a) d b) y among)
    item_has_bits path m n free array (instance i e) d y at among =
        below_has_bits (instance_path path m i) (number n i.first) free array e y at
        (chosen_from (nat_eq i.declaration d) (array_order_below array e) y among).1

    items_have_bits : (path : LeafPath) (m : LeafModule) (n : Numbering) (free array : ℕ) (is : Items) (d y : ℕ)
        → At table array (all_arrays_in path m n free is)
        → In (all_array_order_in array d is) y → HasBitsIn table y
    items_have_bits path m n free array done d y at among = absurd among
    items_have_bits path m n free array ((then) i is) d y at among =
        let first = arrays_in path m n free i in
        let second = all_arrays_in path m n (free + count i) is in
        ⊎_elim
        (λ (l : In (array_order_in array d i) y). item_has_bits path m n free array i d y (at_left table first second array at) l)
        (λ (r : In (all_array_order_in (array + array_count i) d is) y).
        items_have_bits path m n (free + count i) (array + array_count i) is d y
        (rw (array_count_is path m n free i) at (at_right table first second array at)) r)
        (in_either (array_order_in array d i) (all_array_order_in (array + array_count i) d is) y among)

    below_has_bits : (path : LeafPath) (first free array : ℕ) (e : Design) (y : ℕ) → At table array (arrays_below path first free e)
        → In (array_order_below array e) y → HasBitsIn table y
    below_has_bits path first free array (made_of c is) y at among =
        let n = numbering c first free in
        let from = in_flat_map_from
        (λ d. map (λ x. array + x) (own_arrays c d) ++ all_array_order_in (array + length c.arrays) d is) (range_with_len 0 (length c.declared)) y among in
        let placed = map (placed_array path n) c.arrays in
        let others = all_arrays_in path c n (free + length (inner_leaves c)) is in
        ⊎_elim
        (λ (l : In (map (λ x. array + x) (own_arrays c from.0)) y). own_has_bits path c first free array _ from.0 y at l)
        (λ (r : In (all_array_order_in (array + length c.arrays) from.0 is) y).
        items_have_bits path c n (free + length (inner_leaves c)) (array + length c.arrays) is from.0 y
        (rw (length-map c.arrays (placed_array path n)) at (at_right table placed others array at)) r)
        (in_either (map (λ x. array + x) (own_arrays c from.0)) (all_array_order_in (array + length c.arrays) from.0 is) y from.2)

pub arrays_have_bits : ArraysHaveBits
arrays_have_bits (made_of m is) x among =
    let table = arrays_below [] 0 m.port_leaves (made_of m is) in
    let whole : At table 0 table = record { before = []; after = []; is = sym (append-nil table); long = refl } in
    let w = below_has_bits table [] 0 m.port_leaves 0 (made_of m is) x whole among in
    record { within = w.within; bits = w.bits }
