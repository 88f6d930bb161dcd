-- What is stored at a leaf is what the statement gives that is live under the choice of the values; nothing, where that leaves the leaf undriven.
use Rattle.std.proofs.Common.{◌≡◌, ◌↔◌, ℕ, zero, suc, ◌+◌, ◌<◌, ◌≤◌, List, [], ◌∷◌, ◌++◌, length, length-append, Bool, true, false, ◌&&◌, ◌||◌, not, Option, Some, None, option_map, refl, sym, ap, ◌∙◌, arith, nat_eq, nat_lt, if◌then◌else◌}
use Rattle.fir_ast.specs.declared.place.Place.{Place}
use Rattle.fir_meaning.specs.CountedWhens.{all_true, counts}
use Rattle.fir_meaning.specs.working.LeafBlocks.{LeafStatement, drive, when, instance, LeafBlock, done, then, LeafStore, nothing_stored, stored_at, stored, exec, exec_all}
use Rattle.fir_meaning.specs.working.Terms.{Term, Picks, no_picks, pick}
use Rattle.fir_meaning.specs.working.TermValues.{Holds, is_true, leaf_of}
use Rattle.fir_meaning.specs.working.TermReads.{is_picked, is_among, reached}
use Rattle.fir_meaning.specs.working.Choices.{Live, below, later, driving, last, last_all}
use Rattle.fir_leaf.specs.working.ValueChoices.{hits, choice_of, choice_of_all}
use Rattle.fir_leaf.specs.working.ChoiceLaws.{StoredIsLive, NothingWhereUndriven}
use Rattle.fir_leaf.proofs.PickedLeaves.{among_in, in_reached, same_is}

all_true_more : (bs : List Bool) (c : Bool) → all_true (bs ++ c ∷ []) ≡ (all_true bs && c)
all_true_more [] true = refl
all_true_more [] false = refl
all_true_more (true ∷ bs) c = all_true_more bs c
all_true_more (false ∷ bs) c = refl

counts_more : (d : ℕ) (taken : List Bool) (c : Bool) → d ≤ length taken → counts d (taken ++ c ∷ []) ≡ (counts d taken && c)
counts_more zero taken c l = all_true_more taken c
counts_more (suc d) [] c l = absurd (omega (arith, l))
counts_more (suc d) (t ∷ taken) c l = counts_more d taken c (omega (arith, l))

counts_few : (d : ℕ) (taken : List Bool) → length taken ≤ d → counts d taken ≡ true
counts_few zero [] l = refl
counts_few zero (t ∷ taken) l = absurd (omega (arith, l))
counts_few (suc d) [] l = refl
counts_few (suc d) (t ∷ taken) l = counts_few d taken (omega (arith, l))

one_more : (taken : List Bool) (c : Bool) → length (taken ++ c ∷ []) ≡ length taken + 1
one_more taken c = length-append taken (c ∷ [])

-- what a live statement gives, over what stood there
abbrev over : {V : Type 0} → (ℕ → Term → V) → ℕ → Option Live → Option V → Option V
over given x (Some l) old = Some (given x l.given)
over given x None old = old

-- so, where the leaf is driven
abbrev over_if : {V : Type 0} → (ℕ → Term → V) → ℕ → Bool → Option Live → Option V → Option V
over_if given x counted l old = if counted then over given x l old else old

module _ {V : Type 0} (holds : Holds) (depth : ℕ → ℕ) (numbers : ℕ → ℕ) (given : ℕ → Term → V) (x : ℕ) where
  over_later : (p q : Option Live) (z : Option V) → over given x (later p q) z ≡ over given x p (over given x q z)
  over_later (Some l) q z = refl
  over_later None q z = refl

  over_below : (c : Term) (p : Option Live) (z : Option V) → over given x (option_map (below c) p) z ≡ over given x p z
  over_below c (Some l) z = refl
  over_below c None z = refl

  then_joins : (t : Bool) (p q : Option Live) (z : Option V) → over_if given x t p (over_if given x t q z) ≡ over_if given x t (later p q) z
  then_joins true p q z = sym (over_later p q z)
  then_joins false p q z = refl

  -- both blocks of a when that stands round the declaration, or the one that is taken
  when_joins : (c : Term) (t v : Bool) (p q : Option Live) (z : Option V)
      → over_if given x (t && not v) q (over_if given x (t && v) p z) ≡ over_if given x t (option_map (below c) (if v then p else q)) z
  when_joins c true true p q z = sym (over_below c p z)
  when_joins c true false p q z = sym (over_below c q z)
  when_joins c false v p q z = refl

  over_none : (t : Bool) (z : Option V) → over_if given x t None z ≡ z
  over_none true z = refl
  over_none false z = refl

  hit_stores : (l : Live) (taken : List Bool) (store : LeafStore V) (o : Option ℕ)
      → stored holds depth numbers given o l.given taken store x ≡ over_if given x (counts (depth x) taken) (if hits o x then Some l else None) (store x)
  hit_stores l taken store None = sym (over_none (counts (depth x) taken) (store x))
  hit_stores l taken store (Some y) = go (nat_eq y x) refl
    where
      here : (t : Bool) → (if t then stored_at x (given x l.given) store else store) x ≡ over_if given x t (if nat_eq x x then Some l else None) (store x)
      here true = rw (same_is x) refl
      here false = refl

      there : (t : Bool) → nat_eq y x ≡ false → (if t then stored_at y (given y l.given) store else store) x ≡ store x
      there true e = rw e refl
      there false e = refl

      go : (b : Bool) → nat_eq y x ≡ b
          → (if counts (depth y) taken then stored_at y (given y l.given) store else store) x
          ≡ over_if given x (counts (depth x) taken) (if nat_eq y x then Some l else None) (store x)
      go true e = let same : y ≡ x = grind arith in rw same (here (counts (depth x) taken))
      go false e = rw e (there (counts (depth y) taken) e ∙ sym (over_none (counts (depth x) taken) (store x)))

  -- what hits the leaf is among what may be picked
  only_hits : (b : ℕ) (ps : Picks)
      → (is_among (reached b ps) x && (not (is_picked ps) || hits (leaf_of holds numbers b ps) x)) ≡ hits (leaf_of holds numbers b ps) x
  only_hits b no_picks = go (nat_eq b x)
    where
      go : (t : Bool) → ((t || false) && true) ≡ t
      go true = refl
      go false = refl
  only_hits b (pick ps p i n each) = go (leaf_of holds numbers b (pick ps p i n each)) refl
    where
      all : Picks
      all = pick ps p i n each

      by : (m t : Bool) → (t ≡ true → m ≡ true) → (m && (false || t)) ≡ t
      by m true h = rw (h refl) refl
      by true false h = refl
      by false false h = refl

      go : (o : Option ℕ) → leaf_of holds numbers b all ≡ o → (is_among (reached b all) x && (false || hits o x)) ≡ hits o x
      go None e = by (is_among (reached b all) x) false (λ t. absurd cc)
      go (Some y) e = by (is_among (reached b all) x) (nat_eq y x) among
        where
          among : nat_eq y x ≡ true → is_among (reached b all) x ≡ true
          among t = let same : y ≡ x = grind arith in among_in (reached b all) x (in_reached holds numbers b x all (e ∙ ap Some same))

  drive_stores : (p : Place) (b : ℕ) (ps : Picks) (t : Term) (taken : List Bool) (store : LeafStore V)
      → exec holds depth numbers given (drive p b ps t) taken store x
      ≡ over_if given x (counts (depth x) taken) (last (depth x) x (drive p b ps t) (length taken) (choice_of holds numbers x (drive p b ps t))) (store x)
  drive_stores p b ps t taken store = rw (only_hits b ps) (hit_stores (driving p ps t) taken store (leaf_of holds numbers b ps))

  -- a when, by whether it stands round the declaration
  when_stores : (c : Term) (taken : List Bool) (v : Bool) (p q : Option Live) (z : Option V)
      → over_if given x (counts (depth x) (taken ++ not v ∷ [])) q (over_if given x (counts (depth x) (taken ++ v ∷ [])) p z)
      ≡ over_if given x (counts (depth x) taken) (if nat_lt (length taken) (depth x) then later q p else option_map (below c) (if v then p else q)) z
  when_stores c taken v p q z = go (nat_lt (length taken) (depth x)) refl
    where
      go : (e : Bool) → nat_lt (length taken) (depth x) ≡ e
          → over_if given x (counts (depth x) (taken ++ not v ∷ [])) q (over_if given x (counts (depth x) (taken ++ v ∷ [])) p z)
          ≡ over_if given x (counts (depth x) taken) (if e then later q p else option_map (below c) (if v then p else q)) z
      go true e =
          let room : length taken < depth x = grind arith in
          let one = counts_few (depth x) (taken ++ not v ∷ []) (omega (arith, one_more taken (not v), room)) in
          let two = counts_few (depth x) (taken ++ v ∷ []) (omega (arith, one_more taken v, room)) in
          let three = counts_few (depth x) taken (omega (arith, room)) in
          rw (one, two, three) (sym (over_later q p z))
      go false e =
          let room : depth x ≤ length taken = grind arith in
          rw (counts_more (depth x) taken (not v) room, counts_more (depth x) taken v room) (when_joins c (counts (depth x) taken) v p q z)

  -- the live one under the choice of the values, where so many whens stand round
  abbrev live_in : LeafBlock → ℕ → Option Live
  live_in b k = last_all (depth x) x b k (choice_of_all holds numbers x b)

  mutual
    stores : (s : LeafStatement) (taken : List Bool) (store : LeafStore V)
        → exec holds depth numbers given s taken store x
        ≡ over_if given x (counts (depth x) taken) (last (depth x) x s (length taken) (choice_of holds numbers x s)) (store x)
    stores (drive p b ps t) taken store = drive_stores p b ps t taken store
    stores (when p c a b) taken store =
        let v = is_true holds numbers c in
        let first = taken ++ v ∷ [] in
        let second = taken ++ not v ∷ [] in
        stores_all b second (exec_all holds depth numbers given a first store)
        ∙ ap (over_if given x (counts (depth x) second) (live_in b (length second))) (stores_all a first store)
        ∙ rw
        (one_more taken v, one_more taken (not v))
        (when_stores c taken v (live_in a (length taken + 1)) (live_in b (length taken + 1)) (store x))
    stores (instance i) taken store = sym (over_none (counts (depth x) taken) (store x))

    stores_all : (b : LeafBlock) (taken : List Bool) (store : LeafStore V)
        → exec_all holds depth numbers given b taken store x ≡ over_if given x (counts (depth x) taken) (live_in b (length taken)) (store x)
    stores_all done taken store = sym (over_none (counts (depth x) taken) (store x))
    stores_all ((then) s b) taken store =
        let first = last (depth x) x s (length taken) (choice_of holds numbers x s) in
        stores_all b taken (exec holds depth numbers given s taken store)
        ∙ ap (over_if given x (counts (depth x) taken) (live_in b (length taken))) (stores s taken store)
        ∙ then_joins (counts (depth x) taken) (live_in b (length taken)) first (store x)

  over_nothing : (o : Option Live) → over given x o None ≡ option_map (λ l. given x l.given) o
  over_nothing (Some l) = refl
  over_nothing None = refl

  is_stored : (b : LeafBlock)
      → exec_all holds depth numbers given b [] nothing_stored x
      ≡ option_map (λ l. given x l.given) (last_all (depth x) x b 0 (choice_of_all holds numbers x b))
  is_stored b =
      stores_all b [] nothing_stored ∙ rw (counts_few (depth x) [] (omega arith)) (over_nothing (last_all (depth x) x b 0 (choice_of_all holds numbers x b)))

pub stored_is_live : (V : Type 0) → StoredIsLive V
stored_is_live V holds depth numbers given x b = is_stored holds depth numbers given x b

-- an image is nothing exactly where there is nothing
none_where_none : {A B : Type 0} → (f : A → B) (o : Option A) → (option_map f o ≡ None) ↔ (o ≡ None)
none_where_none f None = ((λ e. refl), (λ e. refl))
none_where_none f (Some a) = ((λ e. absurd cc), (λ e. absurd cc))

pub nothing_where_undriven : (V : Type 0) → NothingWhereUndriven V
nothing_where_undriven V holds depth numbers given x b =
    rw (is_stored holds depth numbers given x b)
    (none_where_none (λ (l : Live). given x l.given) (last_all (depth x) x b 0 (choice_of_all holds numbers x b)))
