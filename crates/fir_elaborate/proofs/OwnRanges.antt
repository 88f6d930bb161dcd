-- The leaves of declarations that follow each other, and their arrays, are those of a range, where they rise by declaration; so are those of them that are of
-- the state.
use Rattle.std.proofs.Common.{◌≡◌, ℕ, zero, suc, ◌+◌, ◌-◌, ◌<◌, ◌≤◌, List, ◌++◌, Bool, true, false, not, ◌&&◌, ◌||◌, filter, map, length, nat_eq, nat_lt, refl, sym, ap, ◌∙◌, subst, arith}
use Rattle.std.specs.List.{range_with_len}
use Rattle.std.proofs.lemmas.Bool.{and_left, and_parts, and_right, eqb-true, le-ltb, lt-ltb, not_from_true}
use Rattle.std.proofs.lemmas.Bool.Decides.{nat_tests}
use Rattle.std.proofs.lemmas.List.{append-nil, map-append}
use Rattle.fir_meaning.specs.LeafTypes.{has_bits}
use Rattle.fir_meaning.specs.working.LeafModules.{LeafArray, LeafDeclared, LeafModule, leaf_at, no_leaf}
use Rattle.fir_meaning.specs.working.StateWalks.{is_state, own_arrays, own_words}
use Rattle.fir_design.proofs.WalkedRanges.{IsWalk, both_walks, one_walk}
use Rattle.fir_leaf.specs.working.DesignStates.{array_at, no_array}
use Rattle.fir_elaborate.specs.working.Walks.{chosen, has_bits_of, is_word_of}
use Rattle.fir_elaborate.proofs.ChosenRanges.{chosen_in_turn, chosen_joined, chosen_none, chosen_same, numbers_chosen}

-- a declaration from one on and before another
abbrev is_between : ℕ → ℕ → ℕ → Bool
is_between low high a = not (nat_lt a low) && nat_lt a high

before_all : (low high a : ℕ) (w : Bool) → (w ≡ true → a < low) → (is_between low high a && w) ≡ false
before_all low high a false h = and_right (is_between low high a) false refl
before_all low high a true h =
    and_left (is_between low high a) true (and_left (not (nat_lt a low)) (nat_lt a high) (not_from_true (nat_lt a low) (lt-ltb a low (h refl))))

behind_all : (low high a : ℕ) (w : Bool) → (w ≡ true → high ≤ a) → (is_between low high a && w) ≡ false
behind_all low high a false h = and_right (is_between low high a) false refl
behind_all low high a true h =
    and_left (is_between low high a) true (and_right (not (nat_lt a low)) (nat_lt a high) (le-ltb a high (h refl)))

among_them : (low high a : ℕ) (w : Bool) → (w ≡ true → low ≤ a) → (w ≡ true → a < high) → (is_between low high a && w) ≡ w
among_them low high a false h k = and_right (is_between low high a) false refl
among_them low high a true h k =
    ap (λ s. (not s && nat_lt a high) && true) (le-ltb a low (h refl)) ∙ ap (λ s. s && true) (lt-ltb a high (k refl))

one_more : (low between high a : ℕ) (w : Bool) → low ≤ between → between + 1 ≡ high
    → (is_between low high a && w) ≡ ((is_between low between a && w) || (nat_eq a between && w))
one_more low between high a w le e = grind (arith, nat_tests)

not_before : (low between a b : ℕ) (v w : Bool) → a ≤ b → (nat_eq a between && v) ≡ true → (is_between low between b && w) ≡ false
not_before low between a b v w le h =
    let same : a ≡ between = eqb-true a between (and_parts (nat_eq a between) v h).0 in
    behind_all low between b w (λ t. omega (arith, same, le))

regrouped : (a b c : Bool) → ((a && b) && c) ≡ (a && (b && c))
regrouped a b c = grind arith

-- the words of a declaration, and its arrays that have bits
pub words_chosen : (m : LeafModule) (k : ℕ)
    → own_words m k ≡ filter (λ x. nat_eq (leaf_at m.leaves x).declaration k && is_word_of m x) (range_with_len 0 (length m.leaves))
words_chosen m k =
    numbers_chosen (λ (l : LeafDeclared). nat_eq l.declaration k && is_state l.role && has_bits l.holds)
    (λ x. nat_eq (leaf_at m.leaves x).declaration k && is_word_of m x) no_leaf 0 m.leaves
    (λ j lt.
    let same : j ≡ 0 + j = omega arith in
    regrouped (nat_eq (leaf_at m.leaves j).declaration k) (is_state (leaf_at m.leaves j).role) (has_bits (leaf_at m.leaves j).holds)
    ∙ ap (λ y. nat_eq (leaf_at m.leaves y).declaration k && is_word_of m y) same)

pub arrays_chosen : (m : LeafModule) (k : ℕ)
    → own_arrays m k ≡ filter (λ x. nat_eq (array_at m.arrays x).declaration k && has_bits_of m x) (range_with_len 0 (length m.arrays))
arrays_chosen m k =
    numbers_chosen (λ (a : LeafArray). nat_eq a.declaration k && has_bits a.holds)
    (λ x. nat_eq (array_at m.arrays x).declaration k && has_bits_of m x) no_array 0 m.arrays
    (λ j lt. let same : j ≡ 0 + j = omega arith in ap (λ y. nat_eq (array_at m.arrays y).declaration k && has_bits_of m y) same)

-- numbers before one, each of a declaration, where those of a declaration that are so are these
module _ (long : ℕ) (declared_at : ℕ → ℕ) (is_so : ℕ → Bool) (own : ℕ → List ℕ)
    (own_is : (k : ℕ) → own k ≡ filter (λ x. nat_eq (declared_at x) k && is_so x) (range_with_len 0 long)) (f : ℕ → ℕ)
    (rise : (x y : ℕ) → x ≤ y → y < long → declared_at x ≤ declared_at y) where
  abbrev of_one : ℕ → List ℕ
  of_one k = map f (own k)

  abbrev passes : ℕ → ℕ → ℕ → Bool
  passes low high x = is_between low high (declared_at x) && is_so x

  abbrev all_between : ℕ → ℕ → List ℕ
  all_between low high = filter (passes low high) (range_with_len 0 long)

  between_walk : (size low high : ℕ) → low + size ≡ high → IsWalk of_one low high (map f (all_between low high))
  between_walk zero low high e = record {
    size = 0;
    long = e;
    is =
        sym (ap (map f) (chosen_none (passes low high) 0 long (λ x at lt.
        empty (nat_lt (declared_at x) low) (nat_lt (declared_at x) high) (is_so x)
        (ap (nat_lt (declared_at x)) (let same : low ≡ high = omega (arith, e) in same)))));
  }
    where
      empty : (s t w : Bool) → s ≡ t → ((not s && t) && w) ≡ false
      empty s t w e = grind arith
  between_walk (suc size) low high e =
      let between = low + size in
      let next : between + 1 ≡ high = omega (arith, e) in
      let le : low ≤ between = omega arith in
      let one = λ (x : ℕ). nat_eq (declared_at x) between && is_so x in
      let joined : all_between low high ≡ all_between low between ++ own between =
      chosen_in_turn (passes low high) (passes low between) one 0 long
      (λ x at lt. one_more low between high (declared_at x) (is_so x) le next)
      (λ x at lt y xy ylt is.
      not_before low between (declared_at x) (declared_at y) (is_so x) (is_so y)
      (rise x y xy (let within : y < long = omega (arith, ylt) in within)) is)
      ∙ ap (λ xs. all_between low between ++ xs) (sym (own_is between)) in
      subst (IsWalk of_one low high)
      (sym (ap (map f) joined ∙ map-append f (all_between low between) (own between)))
      (both_walks of_one low between high (map f (all_between low between)) (of_one between) (between_walk size low between refl)
      (one_walk of_one between high (of_one between) next refl))

  -- where those of earlier declarations stand before the range, and those of later ones behind it
  pub own_walk : (low high from upto : ℕ) → low ≤ high → from ≤ upto → upto ≤ long
      → ((x : ℕ) → x < from → is_so x ≡ true → declared_at x < low)
      → ((x : ℕ) → from ≤ x → x < long → is_so x ≡ true → low ≤ declared_at x)
      → ((x : ℕ) → x < upto → is_so x ≡ true → declared_at x < high)
      → ((x : ℕ) → upto ≤ x → x < long → is_so x ≡ true → high ≤ declared_at x)
      → IsWalk of_one low high (chosen f is_so from upto)
  own_walk low high from upto le fits within front low_is high_is rest =
      let test = passes low high in
      let inner = upto - from in
      let after = long - upto in
      let whole : long ≡ from + (inner + after) = omega arith in
      let size : low + (high - low) ≡ high = omega arith in
      let parts : all_between low high ≡ filter is_so (range_with_len from inner) =
      ap (λ n. filter test (range_with_len 0 n)) whole
      ∙ chosen_joined test 0 from (inner + after) from (omega arith)
      ∙ ap (λ xs. xs ++ filter test (range_with_len from (inner + after)))
      (chosen_none test 0 from
      (λ x at lt. before_all low high (declared_at x) (is_so x) (front x (let k : x < from = omega (arith, lt) in k))))
      ∙ chosen_joined test from inner after upto (omega arith)
      ∙ ap (λ xs. filter test (range_with_len from inner) ++ xs)
      (chosen_none test upto after
      (λ x at lt. behind_all low high (declared_at x) (is_so x) (rest x at (let k : x < long = omega (arith, lt) in k))))
      ∙ append-nil (filter test (range_with_len from inner))
      ∙ chosen_same test is_so from inner
      (λ x at lt.
      among_them low high (declared_at x) (is_so x) (low_is x at (let k : x < long = omega (arith, lt) in k))
      (high_is x (let k : x < upto = omega (arith, lt) in k))) in
      subst (λ xs. IsWalk of_one low high (map f xs)) parts (between_walk (high - low) low high size)
