-- Where the leaves of the instances of a design stand in its table.
use Rattle.std.proofs.Common.{◌≡◌, ℕ, ◌+◌, ◌-◌, ◌<◌, ◌≤◌, List, [], ◌∷◌, ◌++◌, Bool, true, false, map, length, get_or, refl, sym, ap, ◌∙◌, arith, append_assoc, length-append}
use Rattle.std.specs.Prelude.{nat_lt}
use Rattle.std.proofs.lemmas.Bool.{ltb-true, ltb-false}
use Rattle.std.proofs.lemmas.List.{length-map, length-drop, get_or-map, get_or-drop, get_or_append_left, get_or-append-add}
use Rattle.fir_meaning.specs.LeafPaths.{LeafPath, named}
use Rattle.fir_meaning.specs.working.LeafModules.{LeafDeclared, LeafModule, leaf_at, no_leaf}
use Rattle.fir_meaning.specs.working.LeafBlocks.{HeldInstance}
use Rattle.fir_meaning.specs.working.Designs.{Item, drive, when, instance, Items, done, then, Design, made_of}
use Rattle.fir_meaning.specs.working.DesignPaths.{instance_path, instance_name}
use Rattle.fir_meaning.specs.working.Numberings.{Numbering, number, numbering}
use Rattle.fir_meaning.specs.working.FlatDesigns.{inner_leaves, count, count_all, count_below, array_count, array_count_all}
use Rattle.fir_meaning.specs.working.FlatLeaves.{placed_leaf, leaves_in, all_leaves_in, leaves_below}
use Rattle.fir_leaf.specs.working.SoundDesigns.{IsHeld}
use Rattle.fir_leaf.proofs.MovedTerms.{number_port, number_own, number_more, Stands}

-- ys stands in xs, from number b on
pub record At {A : Type 0} (xs : List A) (b : ℕ) (ys : List A) : Type 0 where
  pub before : List A
  pub after : List A
  pub is : xs ≡ before ++ (ys ++ after)
  pub long : length before ≡ b

pub at_get : {A : Type 0} (xs ys : List A) (b k : ℕ) (d : A) → At xs b ys → k < length ys → get_or xs (b + k) d ≡ get_or ys k d
at_get xs ys b k d h lt = rw (h.is, ← h.long) (get_or-append-add h.before (ys ++ h.after) k d ∙ get_or_append_left ys h.after d k lt)

-- the two parts of what stands in a list
pub at_left : {A : Type 0} (xs ys zs : List A) (b : ℕ) → At xs b (ys ++ zs) → At xs b ys
at_left xs ys zs b h = record { before = h.before; after = zs ++ h.after; is = h.is ∙ ap (λ l. h.before ++ l) (append_assoc ys zs h.after); long = h.long }

pub at_right : {A : Type 0} (xs ys zs : List A) (b : ℕ) → At xs b (ys ++ zs) → At xs (b + length ys) zs
at_right xs ys zs b h = record {
  before = h.before ++ ys;
  after = h.after;
  is = h.is ∙ ap (λ l. h.before ++ l) (append_assoc ys zs h.after) ∙ sym (append_assoc h.before ys (zs ++ h.after));
  long = omega (arith, length-append h.before ys, h.long);
}

pub at_room : {A : Type 0} (xs ys : List A) (b : ℕ) → At xs b ys → b + length ys ≤ length xs
at_room xs ys b h = omega (arith, ap length h.is, length-append h.before (ys ++ h.after), length-append ys h.after, h.long)

-- as many leaves as are counted
mutual
  pub count_is : (path : LeafPath) (k : ℕ) (m : LeafModule) (n : Numbering) (free array : ℕ) (i : Item) → length (leaves_in path k m n free array i) ≡ count i
  count_is path k m n free array (drive p b ps t) = refl
  count_is path k m n free array (when p c a b) =
      omega (
        arith,
        length-append (all_leaves_in path (k + 1) m n free array a) (all_leaves_in path (k + 1) m n (free + count_all a) (array + array_count_all a) b),
        counts_are path (k + 1) m n free array a,
        counts_are path (k + 1) m n (free + count_all a) (array + array_count_all a) b,
      )
  count_is path k m n free array (instance i d) = count_below_is (instance_path path m i) k (number n i.first) free array d

  pub counts_are : (path : LeafPath) (k : ℕ) (m : LeafModule) (n : Numbering) (free array : ℕ) (is : Items)
      → length (all_leaves_in path k m n free array is) ≡ count_all is
  counts_are path k m n free array done = refl
  counts_are path k m n free array ((then) i is) =
      omega (
        arith,
        length-append (leaves_in path k m n free array i) (all_leaves_in path k m n (free + count i) (array + array_count i) is),
        count_is path k m n free array i,
        counts_are path k m n (free + count i) (array + array_count i) is,
      )

  pub count_below_is : (path : LeafPath) (k first free array : ℕ) (d : Design) → length (leaves_below path k first free array d) ≡ count_below d
  count_below_is path k first free array (made_of m is) =
      omega (
        arith,
        length-append (map (placed_leaf path k (numbering m first free) array) (inner_leaves m))
            (all_leaves_in path k m (numbering m first free) (free + length (inner_leaves m)) (array + length m.arrays) is),
        length-map (inner_leaves m) (placed_leaf path k (numbering m first free) array),
        counts_are path k m (numbering m first free) (free + length (inner_leaves m)) (array + length m.arrays) is,
      )

-- a module's own leaf stands where it is listed
pub placed_at : (table : List LeafDeclared) (path : LeafPath) (k first free array : ℕ) (m : LeafModule) (rest : List LeafDeclared) (x : ℕ)
    → At table free (map (placed_leaf path k (numbering m first free) array) (inner_leaves m) ++ rest) → m.port_leaves ≤ x → x < length m.leaves
    → (free + (x - m.port_leaves) < length table)
    × (leaf_at table (free + (x - m.port_leaves)) ≡ placed_leaf path k (numbering m first free) array (leaf_at m.leaves x))
placed_at table path k first free array m rest x h le lt =
    let placed = map (placed_leaf path k (numbering m first free) array) (inner_leaves m) in
    let own : At table free placed = at_left table placed rest free h in
    let long : length placed ≡ length m.leaves - m.port_leaves =
    length-map (inner_leaves m) (placed_leaf path k (numbering m first free) array) ∙ length-drop m.port_leaves m.leaves in
    let within : x - m.port_leaves < length placed = omega (arith, le, lt, long) in
    let inner : x - m.port_leaves < length (inner_leaves m) = omega (arith, le, lt, length-drop m.port_leaves m.leaves) in
    let e : m.port_leaves + (x - m.port_leaves) ≡ x = omega (arith, le) in (
      omega (arith, at_room table placed free own, within),
      at_get table placed free (x - m.port_leaves) no_leaf own within
          ∙ get_or-map (placed_leaf path k (numbering m first free) array) (inner_leaves m) (x - m.port_leaves) no_leaf no_leaf inner
          ∙ ap (placed_leaf path k (numbering m first free) array) (get_or-drop m.port_leaves m.leaves (x - m.port_leaves) no_leaf ∙ ap (leaf_at m.leaves) e),
    )

-- the ports of a module stand where its instance's leaves stand, and its own leaves where they are listed
pub stands_below : (table : List LeafDeclared) (path : LeafPath) (k first free array : ℕ) (m : LeafModule) (rest : List LeafDeclared)
    → m.port_leaves ≤ length m.leaves
    → ((x : ℕ) → x < m.port_leaves
    → (first + x < length table) × ((leaf_at table (first + x)).path ≡ path ++ (leaf_at m.leaves x).path)
    × ((leaf_at table (first + x)).depth ≡ k + (leaf_at m.leaves x).depth))
    → At table free (map (placed_leaf path k (numbering m first free) array) (inner_leaves m) ++ rest) → Stands table (numbering m first free) path k m
stands_below table path k first free array m rest room ports h = record {
  ports = refl;
  within = λ x lt. (all x lt).0;
  path = λ x lt. (all x lt).1;
  depth = λ x lt. (all x lt).2;
}
  where
    all : (x : ℕ) → x < length m.leaves
        → (number (numbering m first free) x < length table)
        × ((leaf_at table (number (numbering m first free) x)).path ≡ path ++ (leaf_at m.leaves x).path)
        × ((leaf_at table (number (numbering m first free) x)).depth ≡ k + (leaf_at m.leaves x).depth)
    all x lt = go (nat_lt x m.port_leaves) refl
      where
        go : (b : Bool) → nat_lt x m.port_leaves ≡ b
            → (number (numbering m first free) x < length table)
            × ((leaf_at table (number (numbering m first free) x)).path ≡ path ++ (leaf_at m.leaves x).path)
            × ((leaf_at table (number (numbering m first free) x)).depth ≡ k + (leaf_at m.leaves x).depth)
        go true e = rw (number_port (numbering m first free) x (ltb-true x m.port_leaves e)) (ports x (ltb-true x m.port_leaves e))
        go false e =
            let le : m.port_leaves ≤ x = ltb-false x m.port_leaves e in
            let one = placed_at table path k first free array m rest x h le lt in
            rw (number_own (numbering m first free) x le) (one.0, ap (λ l. l.path) one.1, ap (λ l. l.depth) one.1)

-- where an instance's module stands, as the module that holds it does
pub held_stands : (table : List LeafDeclared) (here : LeafPath) (k0 k free array : ℕ) (n : Numbering) (m c : LeafModule) (i : HeldInstance)
    (rest : List LeafDeclared)
    → Stands table n here k0 m → IsHeld m k i c
    → At table free (map (placed_leaf (instance_path here m i) (k0 + k) (numbering c (number n i.first) free) array) (inner_leaves c) ++ rest)
    → Stands table (numbering c (number n i.first) free) (instance_path here m i) (k0 + k) c
held_stands table here k0 k free array n m c i rest s h at =
    stands_below table (instance_path here m i) (k0 + k) (number n i.first) free array c rest h.ports port at
  where
    port : (x : ℕ) → x < c.port_leaves
        → (number n i.first + x < length table)
        × ((leaf_at table (number n i.first + x)).path ≡ instance_path here m i ++ (leaf_at c.leaves x).path)
        × ((leaf_at table (number n i.first + x)).depth ≡ (k0 + k) + (leaf_at c.leaves x).depth)
    port x lt =
        let e : number n i.first + x ≡ number n (i.first + x) = number_more n i.first x (λ low. absurd (omega (arith, low, s.ports, h.own))) in
        let within : i.first + x < length m.leaves = omega (arith, lt, h.within) in
        rw e (
          s.within (i.first + x) within,
          s.path (i.first + x) within ∙ ap (λ p. here ++ p) (h.path x lt) ∙ sym (append_assoc here (named (instance_name m i) ∷ []) (leaf_at c.leaves x).path),
          omega (arith, s.depth (i.first + x) within, h.depth x lt),
        )

-- what the instances of a module have stands behind its own leaves
pub inner_at : (table : List LeafDeclared) (path : LeafPath) (k first free array : ℕ) (m : LeafModule) (is : Items)
    → At table free (leaves_below path k first free array (made_of m is))
    → At table (free + length (inner_leaves m)) (all_leaves_in path k m (numbering m first free) (free + length (inner_leaves m)) (array + length m.arrays) is)
inner_at table path k first free array m is at =
    rw (length-map (inner_leaves m) (placed_leaf path k (numbering m first free) array)) at
    (at_right table (map (placed_leaf path k (numbering m first free) array) (inner_leaves m)) _ free at)
