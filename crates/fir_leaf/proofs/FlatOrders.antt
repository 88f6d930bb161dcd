-- The words of the state of a leaf circuit are those of its design.
use Rattle.std.proofs.Common.{◌≡◌, ℕ, suc, ◌+◌, ◌<◌, List, [], ◌∷◌, ◌++◌, Bool, true, false, map, flat_map, length, refl, ap₂, ◌∙◌, arith}
use Rattle.std.specs.Prelude.{nat_eq, if◌then◌else◌}
use Rattle.std.specs.List.{range_with_len}
use Rattle.std.proofs.lemmas.List.{map-append}
use Rattle.fir_meaning.specs.LeafPaths.{LeafPath}
use Rattle.fir_meaning.specs.working.LeafBlocks.{HeldInstance}
use Rattle.fir_meaning.specs.working.LeafModules.{LeafDeclared, LeafModule, leaf_at}
use Rattle.fir_meaning.specs.working.Designs.{Item, drive, when, instance, Items, done, then, Design, made_of}
use Rattle.fir_meaning.specs.working.DesignPaths.{instance_path, leaf_path}
use Rattle.fir_meaning.specs.working.Numberings.{Numbering, number, numbering}
use Rattle.fir_meaning.specs.working.FlatDesigns.{inner_leaves, count, count_all, array_count, array_count_all}
use Rattle.fir_meaning.specs.working.FlatLeaves.{leaves_in, all_leaves_in, leaves_below}
use Rattle.fir_meaning.specs.working.StateWalks.{all_words_in, numbers_where, own_words, walk, words_below, words_in}
use Rattle.fir_leaf.specs.working.DesignStates.{all_word_paths_in, word_paths_below, word_paths_in}
use Rattle.fir_leaf.specs.working.SoundDesigns.{IsWired, AreWired, IsInstance}
use Rattle.fir_leaf.specs.working.DesignLaws.{SameWords}
use Rattle.fir_leaf.proofs.MovedTerms.{Stands}
use Rattle.fir_leaf.proofs.FlatPlaces.{At, at_left, at_right, count_is, counts_are, held_stands, inner_at}
use Rattle.fir_leaf.proofs.FlatMeaning.{main_at, main_stands, main_table}

-- what is the same of each declaration is the same of the walk
each_same : {A B : Type 0} (f : A → B) (g : ℕ → List A) (h : ℕ → List B) (ks : List ℕ) → ((k : ℕ) → map f (g k) ≡ h k) → map f (flat_map g ks) ≡ flat_map h ks
each_same f g h [] e = refl
each_same f g h (k ∷ ks) e = map-append f (g k) (flat_map g ks) ∙ ap₂ (λ xs ys. xs ++ ys) (e k) (each_same f g h ks e)

pub walk_same : {A B : Type 0} (m : LeafModule) (f : A → B) (g : ℕ → List A) (h : ℕ → List B) → ((k : ℕ) → map f (g k) ≡ h k) → map f (walk m g) ≡ walk m h
walk_same m f g h e = each_same f g h (range_with_len 0 (length m.declared)) e

-- and so of each number in a list
pub numbers_same : {A B : Type 0} (is_so : A → Bool) (b : ℕ) (xs : List A) (f : ℕ → B) (g : ℕ → ℕ) (h : ℕ → B) → ((x : ℕ) → x < b + length xs → f (g x) ≡ h x)
    → map f (map g (numbers_where is_so b xs)) ≡ map h (numbers_where is_so b xs)
numbers_same is_so b [] f g h e = refl
numbers_same is_so b (a ∷ others) f g h e = go (is_so a) (numbers_same is_so (suc b) others f g h (λ x lt. e x (omega (arith, lt))))
  where
    go : (t : Bool) → map f (map g (numbers_where is_so (suc b) others)) ≡ map h (numbers_where is_so (suc b) others)
        → map f (map g (if t then b ∷ numbers_where is_so (suc b) others else numbers_where is_so (suc b) others))
        ≡ map h (if t then b ∷ numbers_where is_so (suc b) others else numbers_where is_so (suc b) others)
    go true rest = ap₂ (λ y ys. y ∷ ys) (e b (omega arith)) rest
    go false rest = rest

-- where the choice is the same
pub either_same : {A B : Type 0} (f : A → B) (t : Bool) (xs : List A) (ys : List B) → map f xs ≡ ys → map f (if t then xs else []) ≡ (if t then ys else [])
either_same f true xs ys e = e
either_same f false xs ys e = refl

module _ (table : List LeafDeclared) where
  abbrev path_of : ℕ → LeafPath
  path_of x = (leaf_at table x).path

  -- those of the module itself, and of its instances
  inside_same : (here : LeafPath) (c : LeafModule) (first free k0 : ℕ) (is : Items) → Stands table (numbering c first free) here k0 c
      → ((d : ℕ) → map path_of (all_words_in (numbering c first free) (free + length (inner_leaves c)) d is) ≡ all_word_paths_in here c d is)
      → map path_of (words_below first free (made_of c is)) ≡ word_paths_below here (made_of c is)
  inside_same here c first free k0 is s inner =
      walk_same c path_of _ _ (λ d.
      map-append path_of (map (number (numbering c first free)) (own_words c d)) (all_words_in (numbering c first free) (free + length (inner_leaves c)) d is)
      ∙ ap₂ (λ xs ys. xs ++ ys)
      (numbers_same _ 0 c.leaves path_of (number (numbering c first free)) (leaf_path here c) (λ x lt. s.path x (omega (arith, lt))))
      (inner d))

  mutual
    word_same : (here : LeafPath) (m : LeafModule) (n : Numbering) (free array k0 k d : ℕ) (i : Item) → Stands table n here k0 m
        → At table free (leaves_in here (k0 + k) m n free array i) → IsWired m k i → map path_of (words_in n free d i) ≡ word_paths_in here m d i
    word_same here m n free array k0 k d (drive p b ps t) s at w = refl
    word_same here m n free array k0 k d (when p c a b) s at w =
        let ea : (k0 + k) + 1 ≡ k0 + (k + 1) = omega arith in
        let first : At table free (all_leaves_in here (k0 + (k + 1)) m n free array a) =
        rw ea at (at_left table (all_leaves_in here ((k0 + k) + 1) m n free array a) _ free at) in
        let second : At table (free + count_all a) (all_leaves_in here (k0 + (k + 1)) m n (free + count_all a) (array + array_count_all a) b) =
        rw (counts_are here ((k0 + k) + 1) m n free array a, ea) at
        (at_right table (all_leaves_in here ((k0 + k) + 1) m n free array a)
        (all_leaves_in here ((k0 + k) + 1) m n (free + count_all a) (array + array_count_all a) b) free at) in
        map-append _ (all_words_in n free d a) (all_words_in n (free + count_all a) d b)
        ∙ ap₂ (λ xs ys. xs ++ ys) (words_same here m n free array k0 (k + 1) d a s first w.1)
        (words_same here m n (free + count_all a) (array + array_count_all a) k0 (k + 1) d b s second w.2)
    word_same here m n free array k0 k d (instance i e) s at w =
        either_same path_of (nat_eq i.declaration d) (words_below (number n i.first) free e) _ (below_same here m n free array k0 k i e s at w)

    words_same : (here : LeafPath) (m : LeafModule) (n : Numbering) (free array k0 k d : ℕ) (is : Items) → Stands table n here k0 m
        → At table free (all_leaves_in here (k0 + k) m n free array is) → AreWired m k is
        → map path_of (all_words_in n free d is) ≡ all_word_paths_in here m d is
    words_same here m n free array k0 k d done s at w = refl
    words_same here m n free array k0 k d ((then) i is) s at w =
        let second : At table (free + count i) (all_leaves_in here (k0 + k) m n (free + count i) (array + array_count i) is) =
        rw (count_is here (k0 + k) m n free array i) at (at_right table (leaves_in here (k0 + k) m n free array i) _ free at) in
        map-append _ (words_in n free d i) (all_words_in n (free + count i) d is)
        ∙ ap₂ (λ xs ys. xs ++ ys) (word_same here m n free array k0 k d i s (at_left table (leaves_in here (k0 + k) m n free array i) _ free at) w.0)
        (words_same here m n (free + count i) (array + array_count i) k0 k d is s second w.1)

    below_same : (here : LeafPath) (m : LeafModule) (n : Numbering) (free array k0 k : ℕ) (i : HeldInstance) (e : Design) → Stands table n here k0 m
        → At table free (leaves_below (instance_path here m i) (k0 + k) (number n i.first) free array e) → IsInstance m k i e
        → map path_of (words_below (number n i.first) free e) ≡ word_paths_below (instance_path here m i) e
    below_same here m n free array k0 k i (made_of c is) s at w =
        let z : (k0 + k) + 0 ≡ k0 + k = omega arith in
        let inner : At table (free + length (inner_leaves c))
        (all_leaves_in (instance_path here m i) ((k0 + k) + 0) c (numbering c (number n i.first) free) (free + length (inner_leaves c))
        (array + length c.arrays) is) =
        rw z (inner_at table (instance_path here m i) (k0 + k) (number n i.first) free array c is at) in
        let stands = held_stands table here k0 k free array n m c i _ s w.0 at in
        inside_same (instance_path here m i) c (number n i.first) free (k0 + k) is stands
        (λ d. words_same (instance_path here m i) c (numbering c (number n i.first) free) (free + length (inner_leaves c)) (array + length c.arrays)
        (k0 + k) 0 d is
        stands inner w.1)

pub same_words : SameWords
same_words (made_of m is) sound =
    let stands = main_stands m is sound.wired.0 in
    inside_same (main_table m is) [] m 0 m.port_leaves 0 is stands
    (λ d. words_same (main_table m is) [] m (numbering m 0 m.port_leaves) (m.port_leaves + length (inner_leaves m)) (0 + length m.arrays) 0 0 d is stands
    (inner_at (main_table m is) [] 0 0 m.port_leaves 0 m is (main_at m is sound.wired.0)) sound.wired.1)
