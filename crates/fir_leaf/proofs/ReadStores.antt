-- Values that are the same at all that live statements read for a leaf store the same there.
use Rattle.std.proofs.Common.{◌≡◌, ℕ, ◌+◌, List, [], ◌∷◌, ◌++◌, map, flat_map, Bool, true, false, ◌&&◌, ◌||◌, not, Option, Some, None, option_map, refl, sym, ap, ◌∙◌, inl, nat_lt, if◌then◌else◌}
use Rattle.std.proofs.lemmas.List.{append_assoc}
use Rattle.fir_base.specs.Lists.{In}
use Rattle.fir_base.proofs.Members.{in_left, in_right, in_map}
use Rattle.fir_ast.specs.declared.place.Place.{Place}
use Rattle.fir_meaning.specs.Values.{number_of}
use Rattle.fir_meaning.specs.working.Terms.{Term, Picks, Terms, zeros, absent, literal, read, operation, mux, validif, no_picks, pick, no_terms, term}
use Rattle.fir_meaning.specs.working.TermValues.{Holds, eval, eval_each, is_true, leaf_of, value_at}
use Rattle.fir_meaning.specs.working.TermReads.{each_read, is_among, is_picked, picks_read, reached, reads}
use Rattle.fir_meaning.specs.working.LeafBlocks.{LeafStatement, drive, when, instance, LeafBlock, done, then}
use Rattle.fir_meaning.specs.working.Choices.{Live, below, covers_all, driving, last, last_all, later, live_reads, lives, lives_all, unless}
use Rattle.fir_leaf.specs.working.ValueChoices.{choice_of, choice_of_all, hits}
use Rattle.fir_leaf.specs.working.ChoiceLaws.{StoresByReads, fitted_at}
use Rattle.fir_leaf.proofs.PickedLeaves.{in_reached}
use Rattle.fir_leaf.proofs.LiveStores.{stored_is_live}
use Rattle.fir_leaf.proofs.LiveStatements.{covered_all, live_all, lives_are_live}

-- where the later one is given anyway, the earlier one does not matter
later_same : (covered : Bool) (q p r : Option Live) → (covered ≡ true → q ≡ None → ⊥) → (covered ≡ false → p ≡ r) → later q p ≡ later q r
later_same covered (Some l) p r gives same = refl
later_same true None p r gives same = absurd (gives refl refl)
later_same false None p r gives same = same refl

module _ (holds : Holds) (some others : ℕ → ℕ) where
  -- both are the same at all of these
  abbrev SameAt : List ℕ → Type 0
  SameAt ys = (y : ℕ) → In ys y → some y ≡ others y

  same_left : (xs ys : List ℕ) → SameAt (xs ++ ys) → SameAt xs
  same_left xs ys h y m = h y (in_left xs ys y m)

  same_right : (xs ys : List ℕ) → SameAt (xs ++ ys) → SameAt ys
  same_right xs ys h y m = h y (in_right xs ys y m)

  mutual
    same_value : (t : Term) → SameAt (reads t) → eval holds some t ≡ eval holds others t
    same_value zeros h = refl
    same_value (absent t ps) h = refl
    same_value (literal l) h = refl
    same_value (read b ps) h =
        rw (same_leaf b ps (same_left (picks_read ps) (reached b ps) h))
        (ap (number_of (holds b)) (go (leaf_of holds others b ps) (λ y e. same_right (picks_read ps) (reached b ps) h y (in_reached holds others b y ps e))))
      where
        go : (o : Option ℕ) → ((y : ℕ) → o ≡ Some y → some y ≡ others y) → value_at o some ≡ value_at o others
        go None f = refl
        go (Some y) f = f y refl
    same_value (operation op ts ks) h = rw (same_values ts h) refl
    same_value (mux c a b) h =
        rw (
          same_value c (same_left (reads c) (reads a) (same_left (reads c ++ reads a) (reads b) h)),
          same_value a (same_right (reads c) (reads a) (same_left (reads c ++ reads a) (reads b) h)),
          same_value b (same_right (reads c ++ reads a) (reads b) h),
        )
        refl
    same_value (validif c a) h = rw (same_value c (same_left (reads c) (reads a) h), same_value a (same_right (reads c) (reads a) h)) refl

    same_leaf : (b : ℕ) (ps : Picks) → SameAt (picks_read ps) → leaf_of holds some b ps ≡ leaf_of holds others b ps
    same_leaf b no_picks h = refl
    same_leaf b (pick ps p i n each) h =
        rw (same_value i (same_right (picks_read ps) (reads i) h), same_leaf b ps (same_left (picks_read ps) (reads i) h)) refl

    same_values : (ts : Terms) → SameAt (each_read ts) → eval_each holds some ts ≡ eval_each holds others ts
    same_values no_terms h = refl
    same_values (term t ts) h = rw (same_value t (same_left (reads t) (each_read ts) h), same_values ts (same_right (reads t) (each_read ts) h)) refl

  -- both are the same at all that these statements read
  abbrev SameFor : List Live → Type 0
  SameFor ls = (l : Live) → In ls l → SameAt (live_reads l)

  for_left : (ls ms : List Live) → SameFor (ls ++ ms) → SameFor ls
  for_left ls ms h l m = h l (in_left ls ms l m)

  for_right : (ls ms : List Live) → SameFor (ls ++ ms) → SameFor ms
  for_right ls ms h l m = h l (in_right ls ms l m)

  same_given : (l : Live) → SameAt (live_reads l) → eval holds some l.given ≡ eval holds others l.given
  same_given l h = same_value l.given (same_right (flat_map reads l.under ++ picks_read l.through) (reads l.given) h)

  -- a statement with one condition more reads what that reads, and what it read
  same_condition : (c : Term) (l : Live) → SameAt (live_reads (below c l)) → is_true holds some c ≡ is_true holds others c
  same_condition c l h =
      let under = flat_map reads l.under in
      let picks = picks_read l.through in
      let read_by_c = same_left (reads c) under (same_left (reads c ++ under) picks (same_left (reads c ++ under ++ picks) (reads l.given) h)) in
      rw (same_value c read_by_c) refl

  same_below : (c : Term) (l : Live) → SameAt (live_reads (below c l)) → SameAt (live_reads l)
  same_below c l h y m =
      let rest = flat_map reads l.under ++ (picks_read l.through ++ reads l.given) in
      h y (simp append_assoc (in_right (reads c) rest y (simp append_assoc at m)))

  for_above : (c : Term) (ls : List Live) → SameFor (map (below c) ls) → SameFor ls
  for_above c ls h l m = same_below c l (h (below c l) (in_map (below c) ls l m))

  -- one block behind the other
  joined_same : (covered : Bool) (ls ms : List Live) (q r p o : Option Live) → (covered ≡ true → q ≡ None → ⊥) → (SameFor ls → p ≡ o) → (SameFor ms → q ≡ r)
      → SameFor (unless covered ls ++ ms) → later q p ≡ later r o
  joined_same covered ls ms q r p o gives first second h =
      let same : q ≡ r = second (for_right (unless covered ls) ms h) in
      rw (← same) (later_same covered q p o gives (earlier covered h))
    where
      earlier : (v : Bool) → SameFor (unless v ls ++ ms) → v ≡ false → p ≡ o
      earlier true g e = absurd cc
      earlier false g e = first (for_left ls ms g)

  -- a when of which no block has a live statement gives nothing, and of another the condition is read
  within_same : (c : Term) (ls ms : List Live) (q r p o : Option Live) → ((l : Live) → p ≡ Some l → In ls l) → ((l : Live) → o ≡ Some l → In ls l)
      → ((l : Live) → q ≡ Some l → In ms l) → ((l : Live) → r ≡ Some l → In ms l) → (SameFor ls → p ≡ o) → (SameFor ms → q ≡ r)
      → SameFor (map (below c) (ls ++ ms))
      → option_map (below c) (if is_true holds some c then p else q) ≡ option_map (below c) (if is_true holds others c then o else r)
  within_same c ls ms q r p o in_p in_o in_q in_r first second h =
      let above = for_above c (ls ++ ms) h in
      let same : p ≡ o = first (for_left ls ms above) in
      let too : q ≡ r = second (for_right ls ms above) in
      rw (same, too) (go o r (λ l e. in_left ls ms l (in_o l e)) (λ l e. in_right ls ms l (in_r l e)))
    where
      go : (a b : Option Live) → ((l : Live) → a ≡ Some l → In (ls ++ ms) l) → ((l : Live) → b ≡ Some l → In (ls ++ ms) l)
          → option_map (below c) (if is_true holds some c then a else b) ≡ option_map (below c) (if is_true holds others c then a else b)
      go (Some l) b in_a in_b = rw (same_condition c l (h (below c l) (in_map (below c) (ls ++ ms) l (in_a l refl)))) refl
      go None (Some l) in_a in_b = rw (same_condition c l (h (below c l) (in_map (below c) (ls ++ ms) l (in_b l refl)))) refl
      go None None in_a in_b = none (is_true holds some c) ∙ sym (none (is_true holds others c))
        where
          none : (v : Bool) → option_map (below c) (if v then None else None) ≡ None
          none true = refl
          none false = refl

  when_same : (early covered : Bool) (c : Term) (ls ms : List Live) (q r p o : Option Live) → (covered ≡ true → q ≡ None → ⊥)
      → ((l : Live) → p ≡ Some l → In ls l) → ((l : Live) → o ≡ Some l → In ls l)
      → ((l : Live) → q ≡ Some l → In ms l) → ((l : Live) → r ≡ Some l → In ms l) → (SameFor ls → p ≡ o) → (SameFor ms → q ≡ r)
      → SameFor (if early then unless covered ls ++ ms else map (below c) (ls ++ ms))
      → (if early then later q p else option_map (below c) (if is_true holds some c then p else q))
      ≡ (if early then later r o else option_map (below c) (if is_true holds others c then o else r))
  when_same true covered c ls ms q r p o gives in_p in_o in_q in_r first second h = joined_same covered ls ms q r p o gives first second h
  when_same false covered c ls ms q r p o gives in_p in_o in_q in_r first second h = within_same c ls ms q r p o in_p in_o in_q in_r first second h

  module _ (depth x : ℕ) where
    drive_same : (p : Place) (b : ℕ) (ps : Picks) (t : Term) (among : Bool) → SameFor (if among then driving p ps t ∷ [] else [])
        → (if among && (not (is_picked ps) || hits (leaf_of holds some b ps) x) then Some (driving p ps t) else None)
        ≡ (if among && (not (is_picked ps) || hits (leaf_of holds others b ps) x) then Some (driving p ps t) else None)
    drive_same p b ps t true h = rw (same_leaf b ps (same_left (picks_read ps) (reads t) (h (driving p ps t) (inl refl)))) refl
    drive_same p b ps t false h = refl

    mutual
      same_last : (s : LeafStatement) (k : ℕ) → SameFor (lives depth x s k)
          → last depth x s k (choice_of holds some x s) ≡ last depth x s k (choice_of holds others x s)
      same_last (drive p b ps t) k h = drive_same p b ps t (is_among (reached b ps) x) h
      same_last (when p c a b) k h =
          let j = k + 1 in
          when_same (nat_lt k depth) (covers_all depth x b j) c (lives_all depth x a j) (lives_all depth x b j)
          (last_all depth x b j (choice_of_all holds some x b)) (last_all depth x b j (choice_of_all holds others x b))
          (last_all depth x a j (choice_of_all holds some x a)) (last_all depth x a j (choice_of_all holds others x a))
          (λ e. covered_all depth x b j e (choice_of_all holds some x b))
          (live_all depth x a j (choice_of_all holds some x a)) (live_all depth x a j (choice_of_all holds others x a))
          (live_all depth x b j (choice_of_all holds some x b)) (live_all depth x b j (choice_of_all holds others x b))
          (same_last_all a j) (same_last_all b j) h
      same_last (instance i) k h = refl

      same_last_all : (b : LeafBlock) (k : ℕ) → SameFor (lives_all depth x b k)
          → last_all depth x b k (choice_of_all holds some x b) ≡ last_all depth x b k (choice_of_all holds others x b)
      same_last_all done k h = refl
      same_last_all ((then) s b) k h =
          joined_same (covers_all depth x b k) (lives depth x s k) (lives_all depth x b k)
          (last_all depth x b k (choice_of_all holds some x b)) (last_all depth x b k (choice_of_all holds others x b))
          (last depth x s k (choice_of holds some x s)) (last depth x s k (choice_of holds others x s))
          (λ e. covered_all depth x b k e (choice_of_all holds some x b)) (same_last s k) (same_last_all b k) h

    -- what the live statement gives is the same too
    same_gift : (b : LeafBlock) (o : Option Live) → ((l : Live) → o ≡ Some l → In (lives_all depth x b 0) l) → SameFor (lives_all depth x b 0)
        → option_map (λ l. fitted_at holds some x l.given) o ≡ option_map (λ l. fitted_at holds others x l.given) o
    same_gift b None among h = refl
    same_gift b (Some l) among h = rw (same_given l (h l (among l refl))) refl

pub stores_by_reads : StoresByReads
stores_by_reads holds depth some others x b h =
    let d = depth x in
    let same : SameFor holds some others (lives_all d x b 0) =
    λ l m y n. h y (record { live = l; is_live = (lives_are_live d x b l).0 m; read = n }) in
    stored_is_live ℕ holds depth some (fitted_at holds some) x b
    ∙ ap (option_map (λ l. fitted_at holds some x l.given)) (same_last_all holds some others d x b 0 same)
    ∙ same_gift holds some others d x b (last_all d x b 0 (choice_of_all holds others x b)) (live_all d x b 0 (choice_of_all holds others x b)) same
    ∙ sym (stored_is_live ℕ holds depth others (fitted_at holds others) x b)
