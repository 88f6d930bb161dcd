-- The told choice is the first that leaves the leaf undriven: 0 where the second block of a when may miss the leaf, else 1, and a miss at each statement
-- through indices. No choice leaves a leaf undriven that is covered.
use Rattle.std.proofs.Common.{◌≡◌, ℕ, ◌+◌, List, [], ◌∷◌, ◌++◌, Bool, true, false, not, ◌&&◌, ◌||◌, nat_lt, if◌then◌else◌, Option, Some, None, option_map, refl}
use Rattle.std.proofs.lemmas.Bool.{or_parts}
use Rattle.fir_ast.specs.declared.fault.Outcome.{Outcome}
use Rattle.fir_ast.specs.declared.fault.Outcome.TheVariants as outcome
use Rattle.fir_ast.specs.declared.place.Place.{Place}
use Rattle.fir_meaning.specs.working.Terms.{Term}
use Rattle.fir_meaning.specs.working.TermReads.{reached, is_picked, is_among}
use Rattle.fir_meaning.specs.working.LeafBlocks.{LeafStatement, LeafBlock, drive, when, instance, done, then}
use Rattle.fir_meaning.specs.working.Choices.{Choice, Live, below, driving, later, first_part, second_part, last, last_all, covers, covers_all}
use Rattle.fir_meaning.specs.working.UndrivenChoices.{told, told_all, drives_any}
use Rattle.fir_meaning.specs.Outcomes.{ComesFirst, write_told}
use Rattle.fir_leaf.proofs.LiveStatements.{covered_all}
use Rattle.fir_driven.specs.working.Missed.{missed, missed_all}
use Rattle.fir_driven.specs.working.ChoiceLaws.{CoveredIsDriven, MissedIsFirst}

-- a choice of its own for each part
abbrev merge : Bool → Choice → Choice → Choice
merge h f g [] = h
merge h f g (false ∷ way) = f way
merge h f g (true ∷ way) = g way

comes_first_append : (l m r s : List Outcome) → ComesFirst l m → ComesFirst r s → ComesFirst (l ++ r) (m ++ s)
comes_first_append [] [] r s h k = k
comes_first_append [] (o ∷ m) r s h k = absurd h
comes_first_append (outcome.When p false ∷ l) (outcome.When q true ∷ m) r s h k = h
comes_first_append (outcome.When p false ∷ l) (outcome.When q false ∷ m) r s h k = (h.0, comes_first_append l m r s h.1 k)
comes_first_append (outcome.When p true ∷ l) (outcome.When q true ∷ m) r s h k = (h.0, comes_first_append l m r s h.1 k)
comes_first_append (outcome.When p true ∷ l) (outcome.When q false ∷ m) r s h k = absurd h
comes_first_append (outcome.When p false ∷ l) (outcome.Index q i ∷ m) r s h k = absurd h
comes_first_append (outcome.When p true ∷ l) (outcome.Index q i ∷ m) r s h k = absurd h
comes_first_append (outcome.When p false ∷ l) [] r s h k = absurd h
comes_first_append (outcome.When p true ∷ l) [] r s h k = absurd h
comes_first_append (outcome.Index p false ∷ l) (outcome.Index q true ∷ m) r s h k = h
comes_first_append (outcome.Index p false ∷ l) (outcome.Index q false ∷ m) r s h k = (h.0, comes_first_append l m r s h.1 k)
comes_first_append (outcome.Index p true ∷ l) (outcome.Index q true ∷ m) r s h k = (h.0, comes_first_append l m r s h.1 k)
comes_first_append (outcome.Index p true ∷ l) (outcome.Index q false ∷ m) r s h k = absurd h
comes_first_append (outcome.Index p false ∷ l) (outcome.When q i ∷ m) r s h k = absurd h
comes_first_append (outcome.Index p true ∷ l) (outcome.When q i ∷ m) r s h k = absurd h
comes_first_append (outcome.Index p false ∷ l) [] r s h k = absurd h
comes_first_append (outcome.Index p true ∷ l) [] r s h k = absurd h

-- a choice with these outcomes leaves the leaf undriven, and of each that does the outcomes come no earlier
record First (last_of : Choice → Option Live) (told_of : Choice → List Outcome) (outcomes : List Outcome) : Type 0 where
  choice : Choice
  undriven : last_of choice ≡ None
  are : told_of choice ≡ outcomes
  first : (other : Choice) → last_of other ≡ None → ComesFirst outcomes (told_of other)

none_first : (last_of : Choice → Option Live) (f : Choice) → last_of f ≡ None → First last_of (λ way. []) []
none_first last_of f u = record { choice = f; undriven = u; are = refl; first = λ other n. tt }

miss_first : (p : Place) (h : Bool) → ComesFirst (outcome.Index p false ∷ []) (outcome.Index p h ∷ [])
miss_first p true = refl
miss_first p false = (refl, tt)

drive_first : (m picked : Bool) (p : Place) (l : Live) → (m && not picked) ≡ false
    → First (λ f. if m && (not picked || f []) then Some l else None) (λ f. write_told (picked && m) p (f [])) (write_told (picked && m) p false)
drive_first true true p l c = record { choice = λ way. false; undriven = refl; are = refl; first = λ other n. miss_first p (other []) }
drive_first true false p l c = absurd cc
drive_first false true p l c = none_first (λ f. None) (λ way. false) refl
drive_first false false p l c = none_first (λ f. None) (λ way. false) refl

none_later : (p q : Option Live) → later p q ≡ None → (p ≡ None) × (q ≡ None)
none_later None q e = (refl, e)
none_later (Some l) q e = absurd cc

none_below : (c : Term) (p : Option Live) → option_map (below c) p ≡ None → p ≡ None
none_below c None e = refl
none_below c (Some l) e = absurd cc

-- two blocks, of which both count behind each other, or that one which the choice takes
module _ (last_a last_b : Choice → Option Live) (told_a told_b : Choice → List Outcome) (missed_a missed_b : List Outcome) where
  both_first : First last_a told_a missed_a → First last_b told_b missed_b
      → First (λ f. later (last_b (second_part f)) (last_a (first_part f)))
      (λ f. told_a (first_part f) ++ told_b (second_part f)) (missed_a ++ missed_b)
  both_first r s = record {
    choice = merge false r.choice s.choice;
    undriven = rw (s.undriven, r.undriven) refl;
    are = rw (r.are, s.are) refl;
    first = λ other n.
        let e = none_later (last_b (second_part other)) (last_a (first_part other)) n in
        comes_first_append missed_a (told_a (first_part other)) missed_b (told_b (second_part other))
        (r.first (first_part other) e.1) (s.first (second_part other) e.0);
  }

  abbrev last_when : Bool → Term → Choice → Option Live
  last_when early c f =
      if early
      then later (last_b (second_part f)) (last_a (first_part f))
      else option_map (below c) (if f [] then last_a (first_part f) else last_b (second_part f))

  abbrev told_when : Bool → Bool → Place → Choice → List Outcome
  told_when early drives p f =
      if early
      then told_a (first_part f) ++ told_b (second_part f)
      else if drives
      then outcome.When p (f []) ∷ (if f [] then told_a (first_part f) else told_b (second_part f))
      else []

  abbrev missed_when : Bool → Bool → Bool → Place → List Outcome
  missed_when early drives covers_b p =
      if early
      then missed_a ++ missed_b
      else if not drives
      then []
      else if covers_b
      then outcome.When p true ∷ missed_a
      else outcome.When p false ∷ missed_b

  zero_before : (p : Place) (c : Term) → First last_b told_b missed_b → (other : Choice) (h : Bool)
      → option_map (below c) (if h then last_a (first_part other) else last_b (second_part other)) ≡ None
      → ComesFirst (outcome.When p false ∷ missed_b) (outcome.When p h ∷ (if h then told_a (first_part other) else told_b (second_part other)))
  zero_before p c s other true n = refl
  zero_before p c s other false n = (refl, s.first (second_part other) (none_below c (last_b (second_part other)) n))

  one_before : (p : Place) (c : Term) → First last_a told_a missed_a → ((f : Choice) → last_b f ≡ None → ⊥) → (other : Choice) (h : Bool)
      → option_map (below c) (if h then last_a (first_part other) else last_b (second_part other)) ≡ None
      → ComesFirst (outcome.When p true ∷ missed_a) (outcome.When p h ∷ (if h then told_a (first_part other) else told_b (second_part other)))
  one_before p c r never other true n = (refl, r.first (first_part other) (none_below c (last_a (first_part other)) n))
  one_before p c r never other false n = absurd (never (second_part other) (none_below c (last_b (second_part other)) n))

  when_first : (early drives covers_a covers_b : Bool) (p : Place) (c : Term)
      → (covers_a ≡ false → First last_a told_a missed_a) → (covers_b ≡ false → First last_b told_b missed_b)
      → (covers_b ≡ true → (f : Choice) → last_b f ≡ None → ⊥)
      → (if early then covers_b || covers_a else covers_a && covers_b) ≡ false
      → First (last_when early c) (told_when early drives p) (missed_when early drives covers_b p)
  when_first true drives covers_a true p c a b never e = absurd cc
  when_first true drives covers_a false p c a b never e = both_first (a e) (b refl)
  when_first false drives true true p c a b never e = absurd cc
  when_first false true covers_a false p c a b never e =
      let s = b refl in
      record {
        choice = merge false s.choice s.choice;
        undriven = rw s.undriven refl;
        are = rw s.are refl;
        first = λ other n. zero_before p c s other (other []) n;
      }
  when_first false true false true p c a b never e =
      let r = a refl in
      record {
        choice = merge true r.choice r.choice;
        undriven = rw r.undriven refl;
        are = rw r.are refl;
        first = λ other n. one_before p c r (never refl) other (other []) n;
      }
  when_first false false covers_a false p c a b never e =
      let s = b refl in none_first (last_when false c) (merge false s.choice s.choice) (rw s.undriven refl)
  when_first false false false true p c a b never e =
      let r = a refl in none_first (last_when false c) (merge true r.choice r.choice) (rw r.undriven refl)

module _ (depth x : ℕ) where
  mutual
    first : (s : LeafStatement) (k : ℕ) → covers depth x s k ≡ false → First (last depth x s k) (told depth x s k) (missed depth x s k)
    first (drive p b ps t) k c = drive_first (is_among (reached b ps) x) (is_picked ps) p (driving p ps t) c
    first (when p c a b) k e =
        when_first
        (last_all depth x a (k + 1)) (last_all depth x b (k + 1)) (told_all depth x a (k + 1)) (told_all depth x b (k + 1))
        (missed_all depth x a (k + 1)) (missed_all depth x b (k + 1))
        (nat_lt k depth) (drives_any x a || drives_any x b) (covers_all depth x a (k + 1)) (covers_all depth x b (k + 1)) p c
        (first_all a (k + 1)) (first_all b (k + 1)) (covered_all depth x b (k + 1)) e
    first (instance i) k c = none_first (λ f. None) (λ way. false) refl

    first_all : (b : LeafBlock) (k : ℕ) → covers_all depth x b k ≡ false → First (last_all depth x b k) (told_all depth x b k) (missed_all depth x b k)
    first_all done k c = none_first (λ f. None) (λ way. false) refl
    first_all ((then) s b) k c =
        let e = or_parts (covers_all depth x b k) (covers depth x s k) c in
        both_first (last depth x s k) (last_all depth x b k) (told depth x s k) (told_all depth x b k) (missed depth x s k) (missed_all depth x b k)
        (first s k e.1) (first_all b k e.0)

pub covered_is_driven : CoveredIsDriven
covered_is_driven depth x b f c u = covered_all depth x b 0 c f u

pub missed_is_first : MissedIsFirst
missed_is_first depth x b c =
    let r = first_all depth x b 0 c in
    record { choice = r.choice; undriven = r.undriven; are = rw r.are refl; first = λ other u. rw r.are (r.first other u) }
