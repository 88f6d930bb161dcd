-- The order of the state of a design (FIRRTL spec, "Registers", "Memories", "Instances").
-- It is that of a walk through the declarations of the module, in the order of the text: the words of a declaration are its leaves that are registers or pipes,
-- and the state of an instance stands in the place of its declaration. Arrays have a walk of their own. What has no bits is in no list.
use Rattle.std.specs.Prelude.{ℕ, suc, ◌+◌, List, [], ◌∷◌, ◌++◌, map, flat_map, length, Bool, true, false, ◌&&◌, nat_eq, if◌then◌else◌}
use Rattle.std.specs.List.{range_with_len}
use Rattle.fir_meaning.specs.working.LeafModules.{LeafArray, LeafDeclared, LeafModule, Role, pipe, register}
use Rattle.fir_meaning.specs.working.Designs.{Item, drive, when, instance, Items, done, then, Design, made_of}
use Rattle.fir_meaning.specs.working.Numberings.{Numbering, number, numbering}
use Rattle.fir_meaning.specs.working.FlatDesigns.{inner_leaves, count, count_all, array_count, array_count_all}
use Rattle.fir_meaning.specs.LeafTypes.{has_bits}

abbrev pub is_state : Role → Bool
is_state (register clock reset) = true
is_state (pipe r clock under) = true
is_state _ = false

-- the numbers of those that are so, counted from one on
abbrev pub numbers_where : {A : Type 0} → (A → Bool) → ℕ → List A → List ℕ
numbers_where is_so x [] = []
numbers_where is_so x (a ∷ others) = if is_so a then x ∷ numbers_where is_so (suc x) others else numbers_where is_so (suc x) others

-- the words and the arrays of declaration k of a module, by its numbers
abbrev pub own_words : LeafModule → ℕ → List ℕ
own_words m k = numbers_where (λ (l : LeafDeclared). nat_eq l.declaration k && is_state l.role && has_bits l.holds) 0 m.leaves

abbrev pub own_arrays : LeafModule → ℕ → List ℕ
own_arrays m k = numbers_where (λ (a : LeafArray). nat_eq a.declaration k && has_bits a.holds) 0 m.arrays

-- all declarations of a module, one behind the other
abbrev pub walk : {A : Type 0} → LeafModule → (ℕ → List A) → List A
walk m each = flat_map each (range_with_len 0 (length m.declared))

-- the words of the instance that is declaration k, if one is
abbrev mutual
  pub words_in : Numbering → ℕ → ℕ → Item → List ℕ
  words_in n free k (drive p b ps t) = []
  words_in n free k (when p c a b) = all_words_in n free k a ++ all_words_in n (free + count_all a) k b
  words_in n free k (instance i d) = if nat_eq i.declaration k then words_below (number n i.first) free d else []

  pub all_words_in : Numbering → ℕ → ℕ → Items → List ℕ
  all_words_in n free k done = []
  all_words_in n free k ((then) i is) = words_in n free k i ++ all_words_in n (free + count i) k is

  -- those of a design
  pub words_below : ℕ → ℕ → Design → List ℕ
  words_below first free (made_of m is) =
      walk m (λ k. map (number (numbering m first free)) (own_words m k)
      ++ all_words_in (numbering m first free) (free + length (inner_leaves m)) k is)

-- and the arrays
abbrev mutual
  pub array_order_in : ℕ → ℕ → Item → List ℕ
  array_order_in array k (drive p b ps t) = []
  array_order_in array k (when p c a b) = all_array_order_in array k a ++ all_array_order_in (array + array_count_all a) k b
  array_order_in array k (instance i d) = if nat_eq i.declaration k then array_order_below array d else []

  pub all_array_order_in : ℕ → ℕ → Items → List ℕ
  all_array_order_in array k done = []
  all_array_order_in array k ((then) i is) = array_order_in array k i ++ all_array_order_in (array + array_count i) k is

  pub array_order_below : ℕ → Design → List ℕ
  array_order_below array (made_of m is) =
      walk m (λ k. map (λ x. array + x) (own_arrays m k) ++ all_array_order_in (array + length m.arrays) k is)
