-- The words of a module's design are those among its leaves up to its first instance, then those of that instance, and so on; and so it is with its arrays.
use Rattle.std.proofs.Common.{◌≡◌, ℕ, zero, suc, ◌+◌, ◌<◌, ◌≤◌, List, [], ◌∷◌, ◌++◌, Bool, true, false, ◌&&◌, filter, flat_map, map, length, nat_eq, refl, sym, ap, ap₂, ◌∙◌, subst, arith, append-nil, inl, inr, ⊎_elim}
use Rattle.std.specs.Prelude.{if◌then◌else◌}
use Rattle.std.specs.List.{range_with_len}
use Rattle.std.proofs.lemmas.List.{length-map}
use Rattle.std.proofs.lemmas.Bool.{and_left, both_ways, cases_eq, cases_lt, eq-eqb, eqb-true, ne_eqb}
use Rattle.fir_base.specs.Lists.{In}
use Rattle.fir_base.proofs.Members.{in_map}
use Rattle.fir_meaning.specs.LeafTypes.{has_bits}
use Rattle.fir_meaning.specs.working.Designs.{Design, Items, block_of, made_of}
use Rattle.fir_meaning.specs.working.FlatDesigns.{array_count_below, count_below, inner_leaves}
use Rattle.fir_meaning.specs.working.LeafBlocks.{HeldInstance}
use Rattle.fir_meaning.specs.working.LeafModules.{LeafArray, LeafModule, leaf_at}
use Rattle.fir_meaning.specs.working.Numberings.{Numbering, number, numbering}
use Rattle.fir_meaning.specs.working.StateWalks.{all_array_order_in, all_words_in, array_order_below, is_state, own_arrays, own_words, words_below}
use Rattle.fir_leaf.specs.working.DesignStates.{array_at}
use Rattle.fir_design.proofs.DesignInstances.{Instance, given, given_none, instances_in, own_of, words_given, words_of}
use Rattle.fir_design.proofs.InstanceArrays.{arrays_given, arrays_of}
use Rattle.fir_design.proofs.WalkedRanges.{IsWalk, both_walks, one_walk, walk_is}
use Rattle.fir_elaborate.specs.working.OrderedModules.{AreDeclaredBehind, IsOrdered, StandsInOrder, instances_of}
use Rattle.fir_elaborate.specs.working.Walks.{arrays_among, chosen, first_from, has_bits_of, is_word_of, words_among}
use Rattle.fir_elaborate.proofs.ChosenRanges.{chosen_none}
use Rattle.fir_elaborate.proofs.OwnInstances.{block_own}
use Rattle.fir_elaborate.proofs.OwnRanges.{arrays_chosen, own_walk, words_chosen}
use Rattle.fir_elaborate.proofs.FirstArrays.{first_before, first_behind, first_within}

-- walks that give the same
flat_alike : {A : Type 0} (g h : ℕ → List A) (a n : ℕ) → ((k : ℕ) → a ≤ k → k < a + n → g k ≡ h k)
    → flat_map g (range_with_len a n) ≡ flat_map h (range_with_len a n)
flat_alike g h a zero e = refl
flat_alike g h a (suc n) e =
    ap₂ (λ xs ys. xs ++ ys) (e a (omega arith) (omega arith))
    (flat_alike g h (a + 1) n (λ k low high. e k (omega (arith, low)) (omega (arith, high))))

walk_alike : {A : Type 0} (g h : ℕ → List A) (a b : ℕ) (xs : List A) → IsWalk h a b xs → ((k : ℕ) → a ≤ k → k < b → g k ≡ h k) → IsWalk g a b xs
walk_alike g h a b xs w e = record {
  size = w.size;
  long = w.long;
  is = flat_alike g h a w.size (λ k low high. e k low (omega (arith, high, w.long))) ∙ w.is;
}

declared_behind : (low : ℕ) (xs : List Instance) → AreDeclaredBehind low (map own_of xs) → (x : Instance) → In xs x → low ≤ x.0.declaration
declared_behind low [] h x among = absurd among
declared_behind low (y ∷ ys) h x (inl same) = subst (λ (z : Instance). low ≤ z.0.declaration) same h.0
declared_behind low (y ∷ ys) h x (inr among) =
    let further = declared_behind (suc y.0.declaration) ys h.1 x among in
    omega (arith, h.0, further)

-- instances with the state that each gives, one behind the other; between them stand the numbers of a range that are so, each of which reaches to where the
-- instance behind it begins
module _ (f : ℕ → ℕ) (is_so : ℕ → Bool) (size : Design → ℕ) (gives : HeldInstance → ℕ → Design → List ℕ) (next : List Instance → ℕ) where
  abbrev pub state_behind : ℕ → List Instance → List ℕ
  state_behind free [] = []
  state_behind free (x ∷ xs) =
      gives x.0 free x.1 ++ (chosen f is_so (next (x ∷ xs)) (next xs) ++ state_behind (free + size x.1) xs)

-- numbers before one, each of a declaration before another, where those of a declaration that are so are these
module _ (long : ℕ) (declared_at : ℕ → ℕ) (is_so : ℕ → Bool) (own : ℕ → List ℕ)
    (own_is : (k : ℕ) → own k ≡ filter (λ x. nat_eq (declared_at x) k && is_so x) (range_with_len 0 long)) (f : ℕ → ℕ)
    (rise : (x y : ℕ) → x ≤ y → y < long → declared_at x ≤ declared_at y) (count : ℕ)
    (all_declared : (x : ℕ) → x < long → declared_at x < count)
    (size : Design → ℕ) (gives : HeldInstance → ℕ → Design → List ℕ) (next : List Instance → ℕ) where
  -- those of earlier declarations than an instance stand before a number, those of later ones from it on, and none of its own is so
  pub record StandsBehind (i : HeldInstance) (start : ℕ) : Type 0 where
    pub declared : i.declaration < count
    pub within : start ≤ long
    pub before : (x : ℕ) → x < start → declared_at x < i.declaration
    pub behind : (x : ℕ) → start ≤ x → x < long → i.declaration ≤ declared_at x
    pub none : (x : ℕ) → x < long → declared_at x ≡ i.declaration → is_so x ≡ false

  abbrev pub AreInOrder : List Instance → Type 0
  AreInOrder [] = next [] ≡ long
  AreInOrder (x ∷ xs) = StandsBehind x.0 (next (x ∷ xs)) × AreInOrder xs

  none_of_it : (i : HeldInstance) (start : ℕ) → StandsBehind i start → own i.declaration ≡ []
  none_of_it i start s =
      own_is i.declaration
      ∙ chosen_none (λ x. nat_eq (declared_at x) i.declaration && is_so x) 0 long
      (λ x at lt. go x (nat_eq (declared_at x) i.declaration) refl (let within : x < long = omega (arith, lt) in within))
    where
      go : (x : ℕ) (t : Bool) → nat_eq (declared_at x) i.declaration ≡ t → x < long → (t && is_so x) ≡ false
      go x false e lt = refl
      go x true e lt = s.none x lt (eqb-true (declared_at x) i.declaration e)

  -- what is so from there on is of a later declaration
  so_behind : (i : HeldInstance) (start : ℕ) → StandsBehind i start → (x : ℕ) → start ≤ x → x < long → is_so x ≡ true
      → i.declaration + 1 ≤ declared_at x
  so_behind i start s x over lt so =
      let least = s.behind x over lt in
      ⊎_elim (λ (e : declared_at x ≡ i.declaration). absurd (both_ways (is_so x) (s.none x lt e) so))
      (λ (n : declared_at x ≡ i.declaration → ⊥). omega (arith, least, n))
      (cases_eq (declared_at x) i.declaration)

  abbrev all_given : ℕ → List Instance → ℕ → List ℕ
  all_given free xs k = map f (own k) ++ given size gives free k xs

  pub state_walk : (xs : List Instance) (low from free : ℕ) → low ≤ count → from ≤ long → AreDeclaredBehind low (map own_of xs) → AreInOrder xs
      → ((x : ℕ) → x < from → declared_at x < low)
      → ((x : ℕ) → from ≤ x → x < long → is_so x ≡ true → low ≤ declared_at x)
      → IsWalk (all_given free xs) low count (chosen f is_so from (next xs) ++ state_behind f is_so size gives next free xs)
  state_walk [] low from free le within turn stand front rest =
      let all : chosen f is_so from (next []) ++ [] ≡ chosen f is_so from long =
      append-nil (chosen f is_so from (next [])) ∙ ap (chosen f is_so from) stand in
      subst (IsWalk (all_given free []) low count) (sym all)
      (walk_alike (all_given free []) (λ k. map f (own k)) low count (chosen f is_so from long)
      (own_walk long declared_at is_so own own_is f rise low count from long le within (omega arith) (λ x lt w. front x lt) rest
      (λ x lt w. all_declared x lt) (λ x over lt w. absurd (omega (arith, over, lt))))
      (λ k low high. append-nil (map f (own k))))
  state_walk (x ∷ xs) low from free le within turn stand front rest =
      let i = x.0 in
      let k = i.declaration in
      let start = next (x ∷ xs) in
      let s = stand.0 in
      let further = free + size x.1 in
      let all = all_given free (x ∷ xs) in
      let mine = λ (j : ℕ). map f (own j) in
      let below = gives i free x.1 in
      let behind_it = chosen f is_so start (next xs) ++ state_behind f is_so size gives next further xs in
      let lower : low ≤ k = turn.0 in
      let behind : (y : Instance) → In xs y → k + 1 ≤ y.0.declaration =
      λ y among. let far = declared_behind (suc k) xs turn.1 y among in omega (arith, far) in
      let not_passed : from ≤ start =
      ⊎_elim
      (λ (lt : start < from).
      let over = front start lt in
      let under = s.behind start (omega arith) (omega (arith, lt, within)) in
      absurd (omega (arith, over, under, lower)))
      (λ (le : from ≤ start). le)
      (cases_lt start from) in
      let first =
      walk_alike all mine low k (chosen f is_so from start)
      (own_walk long declared_at is_so own own_is f rise low k from start lower not_passed s.within (λ y lt w. front y lt) rest
      (λ y lt w. s.before y lt) (λ y over lt w. s.behind y over lt))
      (λ j from_low under.
      ap (λ ws. mine j ++ ws)
      (given_none size gives free j (x ∷ xs)
      (λ y among e. let far = declared_behind k (x ∷ xs) (omega arith, turn.1) y among in absurd (omega (arith, far, e, under))))
      ∙ append-nil (mine j)) in
      let here : all k ≡ below =
      ap (λ ws. map f ws ++ ((if nat_eq k k then below else []) ++ given size gives further k xs)) (none_of_it i start s)
      ∙ ap (λ t. (if t then below else []) ++ given size gives further k xs) (eq-eqb k k refl)
      ∙ ap (λ ws. below ++ ws)
      (given_none size gives further k xs (λ y among e. let far = behind y among in absurd (omega (arith, far, e))))
      ∙ append-nil below in
      let following : suc k ≡ k + 1 = omega arith in
      let later =
      walk_alike all (all_given further xs) (k + 1) count behind_it
      (state_walk xs (k + 1) start further (omega (arith, s.declared)) s.within (subst (λ z. AreDeclaredBehind z (map own_of xs)) following turn.1)
      stand.1 (λ y lt. let under = s.before y lt in omega (arith, under)) (so_behind i start s))
      (λ j over under.
      ap (λ t. mine j ++ ((if t then below else []) ++ given size gives further j xs)) (ne_eqb k j (λ e. absurd (omega (arith, over, e))))) in
      both_walks all low k count (chosen f is_so from start) (below ++ behind_it) first
      (both_walks all k (k + 1) count below behind_it (one_walk all k (k + 1) below refl here) later)

-- the leaves of a module
abbrev pub next_of : LeafModule → List Instance → ℕ
next_of m [] = length m.leaves
next_of m (x ∷ xs) = x.0.first

abbrev pub words_behind : LeafModule → Numbering → ℕ → List Instance → List ℕ
words_behind m n = state_behind (number n) (is_word_of m) count_below (words_of n) (next_of m)

words_in_order : (m : LeafModule) (n : Numbering) (order : IsOrdered m) (xs : List Instance) → ((x : Instance) → In xs x → StandsInOrder m x.0)
    → AreInOrder (length m.leaves) (λ x. (leaf_at m.leaves x).declaration) (is_word_of m) (own_words m) (words_chosen m) (number n) order.rise
    (length m.declared) order.declared count_below (words_of n) (next_of m) xs
words_in_order m n order [] stand = refl
words_in_order m n order (x ∷ xs) stand =
    let s = stand x (inl refl) in (
      record {
        declared = s.declared;
        within = s.within;
        before = s.before;
        behind = s.behind;
        none = λ y lt e. and_left (is_state (leaf_at m.leaves y).role) (has_bits (leaf_at m.leaves y).holds) (s.no_state y lt e);
      },
      words_in_order m n order xs (λ y among. stand y (inr among)),
    )

-- and its arrays
abbrev pub array_declarations : LeafModule → List ℕ
array_declarations m = map (λ (a : LeafArray). a.declaration) m.arrays

abbrev pub next_array_of : LeafModule → List Instance → ℕ
next_array_of m [] = length (array_declarations m)
next_array_of m (x ∷ xs) = first_from (array_declarations m) (next_array_of m xs) x.0.declaration

abbrev pub arrays_behind : LeafModule → ℕ → ℕ → List Instance → List ℕ
arrays_behind m array = state_behind (λ x. array + x) (has_bits_of m) array_count_below arrays_of (next_array_of m)

module _ (m : LeafModule) (array : ℕ) (order : IsOrdered m) where
  abbrev ArraysInOrder : List Instance → Type 0
  ArraysInOrder =
      AreInOrder (length m.arrays) (λ x. (array_at m.arrays x).declaration) (has_bits_of m) (own_arrays m) (arrays_chosen m) (λ x. array + x)
      order.arrays_rise (length m.declared) order.arrays_declared array_count_below arrays_of (next_array_of m)

  array_within : (xs : List Instance) → ArraysInOrder xs → next_array_of m xs ≤ length m.arrays
  array_within [] h = omega (arith, h)
  array_within (x ∷ xs) h = h.0.within

  array_later : (k : ℕ) (xs : List Instance) → AreDeclaredBehind (suc k) (map own_of xs) → ArraysInOrder xs → (y : ℕ) → next_array_of m xs ≤ y
      → y < length m.arrays → k ≤ (array_at m.arrays y).declaration
  array_later k [] turn h y le lt = absurd (omega (arith, h, le, lt))
  array_later k (x ∷ xs) turn h y le lt =
      let far = turn.0 in
      let later = h.0.behind y le lt in
      omega (arith, far, later)

  arrays_in_order : (xs : List Instance) (low : ℕ) → AreDeclaredBehind low (map own_of xs) → ((x : Instance) → In xs x → StandsInOrder m x.0)
      → ArraysInOrder xs
  arrays_in_order [] low turn stand = length-map m.arrays (λ (a : LeafArray). a.declaration)
  arrays_in_order (x ∷ xs) low turn stand =
      let s = stand x (inl refl) in
      let k = x.0.declaration in
      let rest = arrays_in_order xs (suc k) turn.1 (λ y among. stand y (inr among)) in
      let upto = next_array_of m xs in
      let room : upto ≤ length m.arrays = array_within xs rest in (
        record {
          declared = s.declared;
          within = let less = first_within m k upto in omega (arith, less, room);
          before = first_before m k order.arrays_rise upto room;
          behind = λ y le lt.
              ⊎_elim (λ (under : y < upto). first_behind m k upto room y le under) (λ (over : upto ≤ y). array_later k xs turn.1 rest y over lt)
              (cases_lt y upto);
          none = λ y lt e. absurd (s.no_array y lt e);
        },
        rest,
      )

-- all words of the design, and all its arrays
module _ (m : LeafModule) (order : IsOrdered m) (is : Items) (body : block_of is ≡ m.body) where
  abbrev xs : List Instance
  xs = instances_in is

  own : map own_of (instances_in is) ≡ instances_of m.body
  own = block_own is ∙ ap instances_of body

  turn : AreDeclaredBehind 0 (map own_of (instances_in is))
  turn = subst (AreDeclaredBehind 0) (sym own) order.in_turn

  stand : (x : Instance) → In (instances_in is) x → StandsInOrder m x.0
  stand x among = order.instances x.0 (subst (λ z. In z x.0) own (in_map own_of xs x among))

  pub words_are : (first free : ℕ)
      → words_below first free (made_of m is)
      ≡ words_among m (numbering m first free) 0 (next_of m (instances_in is))
      ++ words_behind m (numbering m first free) (free + length (inner_leaves m)) (instances_in is)
  words_are first free =
      let n = numbering m first free in
      let from = free + length (inner_leaves m) in
      let all = words_among m n 0 (next_of m xs) ++ words_behind m n from xs in
      let each = λ (k : ℕ). map (number n) (own_words m k) ++ all_words_in n from k is in
      walk_is each (length m.declared) all
      (walk_alike each (λ k. map (number n) (own_words m k) ++ given count_below (words_of n) from k xs) 0 (length m.declared) all
      (state_walk (length m.leaves) (λ x. (leaf_at m.leaves x).declaration) (is_word_of m) (own_words m) (words_chosen m) (number n) order.rise
      (length m.declared) order.declared count_below (words_of n) (next_of m) xs 0 0 from (omega arith) (omega arith) turn
      (words_in_order m n order xs stand)
      (λ x lt. absurd (omega (arith, lt)))
      (λ x over lt w. omega arith))
      (λ k low high. ap (λ ws. map (number n) (own_words m k) ++ ws) (words_given n k is from)))

  pub arrays_are : (array : ℕ)
      → array_order_below array (made_of m is)
      ≡ arrays_among m array 0 (next_array_of m (instances_in is)) ++ arrays_behind m array (array + length m.arrays) (instances_in is)
  arrays_are array =
      let from = array + length m.arrays in
      let all = arrays_among m array 0 (next_array_of m xs) ++ arrays_behind m array from xs in
      let each = λ (k : ℕ). map (λ x. array + x) (own_arrays m k) ++ all_array_order_in from k is in
      walk_is each (length m.declared) all
      (walk_alike each (λ k. map (λ x. array + x) (own_arrays m k) ++ given array_count_below arrays_of from k xs) 0 (length m.declared) all
      (state_walk (length m.arrays) (λ x. (array_at m.arrays x).declaration) (has_bits_of m) (own_arrays m) (arrays_chosen m) (λ x. array + x)
      order.arrays_rise (length m.declared) order.arrays_declared array_count_below arrays_of (next_array_of m) xs 0 0 from (omega arith) (omega arith)
      turn (arrays_in_order m array order xs 0 turn stand)
      (λ x lt. absurd (omega (arith, lt)))
      (λ x over lt w. omega arith))
      (λ k low high. ap (λ ws. map (λ x. array + x) (own_arrays m k) ++ ws) (arrays_given k is from)))
