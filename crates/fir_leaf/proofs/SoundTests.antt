-- A test of whether a design is sound.
use Rattle.std.proofs.Common.{◌≡◌, ℕ, zero, suc, ◌+◌, ◌<◌, List, [], ◌∷◌, Bool, true, false, not, ◌&&◌, ◌||◌, length, refl, sym, ap, ◌∙◌, arith, nat_eq, nat_lt, nat_le, true≢false, ⊎_elim}
use Rattle.std.proofs.lemmas.Bool.{ltb-true, leb-true, lt-ltb, eqb-true, and_parts, cases_eq}
use Rattle.fir_meaning.specs.LeafPaths.{LeafPath, named}
use Rattle.fir_meaning.specs.working.Terms.{Term, zeros, absent, literal, read, operation, mux, validif, Picks, no_picks, pick, Terms, no_terms, term}
use Rattle.fir_meaning.specs.working.LeafBlocks.{HeldInstance}
use Rattle.fir_meaning.specs.working.LeafModules.{LeafDeclared, LeafModule, leaf_at}
use Rattle.fir_meaning.specs.SamePaths.{same_path}
use Rattle.fir_meaning.specs.working.Designs.{Item, drive, when, instance, Items, done, then, Design, made_of}
use Rattle.fir_meaning.specs.working.DesignPaths.{instance_name}
use Rattle.fir_meaning.specs.working.Flattened.{flattened}
use Rattle.fir_leaf.specs.working.SoundDesigns.{last_of, IsRead, IsTermIn, ArePicksIn, AreTermsIn, IsHeld, IsWired, AreWired, IsInstance, IsSound}
use Rattle.fir_leaf.proofs.FlatStores.{same_path_is, same_path_refl}

abbrev pub is_read : LeafModule → ℕ → Picks → Bool
is_read m b ps = nat_lt (last_of b ps) (length m.leaves) && (not (nat_lt b m.port_leaves) || nat_lt (last_of b ps) m.port_leaves)

pub implied : (a b : Bool) → (not a || b) ≡ true → a ≡ true → b ≡ true
implied true b h e = h
implied false b h e = absurd (true≢false (sym e))

read_by_test : (m : LeafModule) (b : ℕ) (ps : Picks) → is_read m b ps ≡ true → IsRead m b ps
read_by_test m b ps h =
    let both = and_parts (nat_lt (last_of b ps) (length m.leaves)) (not (nat_lt b m.port_leaves) || nat_lt (last_of b ps) m.port_leaves) h in
    record {
      within = ltb-true _ _ both.0;
      ports = λ low. ltb-true _ _ (implied (nat_lt b m.port_leaves) (nat_lt (last_of b ps) m.port_leaves) both.1 (lt-ltb b m.port_leaves low));
    }

module _ (m : LeafModule) where
  abbrev mutual
    pub is_term_in : Term → Bool
    is_term_in zeros = true
    is_term_in (absent t ps) = true
    is_term_in (literal l) = true
    is_term_in (read b ps) = is_read m b ps && are_picks_in ps
    is_term_in (operation op ts ks) = are_terms_in ts
    is_term_in (mux c a b) = is_term_in c && (is_term_in a && is_term_in b)
    is_term_in (validif c a) = is_term_in c && is_term_in a

    pub are_picks_in : Picks → Bool
    are_picks_in no_picks = true
    are_picks_in (pick ps p i n each) = are_picks_in ps && is_term_in i

    pub are_terms_in : Terms → Bool
    are_terms_in no_terms = true
    are_terms_in (term t ts) = is_term_in t && are_terms_in ts

  mutual
    term_by_test : (t : Term) → is_term_in t ≡ true → IsTermIn m t
    term_by_test zeros h = tt
    term_by_test (absent t ps) h = tt
    term_by_test (literal l) h = tt
    term_by_test (read b ps) h = let both = and_parts (is_read m b ps) (are_picks_in ps) h in (read_by_test m b ps both.0, picks_by_test ps both.1)
    term_by_test (operation op ts ks) h = terms_by_test ts h
    term_by_test (mux c a b) h =
        let all = and_parts (is_term_in c) (is_term_in a && is_term_in b) h in
        let both = and_parts (is_term_in a) (is_term_in b) all.1 in
        (term_by_test c all.0, term_by_test a both.0, term_by_test b both.1)
    term_by_test (validif c a) h = let both = and_parts (is_term_in c) (is_term_in a) h in (term_by_test c both.0, term_by_test a both.1)

    picks_by_test : (ps : Picks) → are_picks_in ps ≡ true → ArePicksIn m ps
    picks_by_test no_picks h = tt
    picks_by_test (pick ps p i n each) h = let both = and_parts (are_picks_in ps) (is_term_in i) h in (picks_by_test ps both.0, term_by_test i both.1)

    terms_by_test : (ts : Terms) → are_terms_in ts ≡ true → AreTermsIn m ts
    terms_by_test no_terms h = tt
    terms_by_test (term t ts) h = let both = and_parts (is_term_in t) (are_terms_in ts) h in (term_by_test t both.0, terms_by_test ts both.1)

-- the first n leaves of the ports
abbrev pub is_held_to : LeafModule → ℕ → HeldInstance → LeafModule → ℕ → Bool
is_held_to m k i c zero = true
is_held_to m k i c (suc n) =
    is_held_to m k i c n
    && (same_path (leaf_at m.leaves (i.first + n)).path (named (instance_name m i) ∷ (leaf_at c.leaves n).path)
    && nat_eq (leaf_at m.leaves (i.first + n)).depth (k + (leaf_at c.leaves n).depth))

abbrev pub is_held : LeafModule → ℕ → HeldInstance → LeafModule → Bool
is_held m k i c =
    nat_le c.port_leaves (length c.leaves)
    && (nat_le m.port_leaves i.first && (nat_le (i.first + c.port_leaves) (length m.leaves) && is_held_to m k i c c.port_leaves))

module _ (m : LeafModule) (k : ℕ) (i : HeldInstance) (c : LeafModule) where
  abbrev HeldAt : ℕ → Type 0
  HeldAt x =
      ((leaf_at m.leaves (i.first + x)).path ≡ named (instance_name m i) ∷ (leaf_at c.leaves x).path)
      × ((leaf_at m.leaves (i.first + x)).depth ≡ k + (leaf_at c.leaves x).depth)

  held_to : (n x : ℕ) → is_held_to m k i c n ≡ true → x < n → HeldAt x
  held_to zero x h lt = absurd (omega (arith, lt))
  held_to (suc n) x h lt =
      let all = and_parts (is_held_to m k i c n) _ h in
      let both = and_parts (same_path (leaf_at m.leaves (i.first + n)).path (named (instance_name m i) ∷ (leaf_at c.leaves n).path)) _ all.1 in
      let last : HeldAt n = (same_path_is _ _ both.0, eqb-true _ _ both.1) in
      ⊎_elim (λ (e : x ≡ n). rw e last) (λ (ne : x ≡ n → ⊥). held_to n x all.0 (omega (arith, lt, ne))) (cases_eq x n)

  held_by_test : is_held m k i c ≡ true → IsHeld m k i c
  held_by_test h =
      let first = and_parts (nat_le c.port_leaves (length c.leaves)) _ h in
      let next = and_parts (nat_le m.port_leaves i.first) _ first.1 in
      let last = and_parts (nat_le (i.first + c.port_leaves) (length m.leaves)) _ next.1 in
      record {
        ports = leb-true _ _ first.0;
        own = leb-true _ _ next.0;
        within = leb-true _ _ last.0;
        path = λ x lt. (held_to c.port_leaves x last.1 lt).0;
        depth = λ x lt. (held_to c.port_leaves x last.1 lt).1;
      }

abbrev mutual
  pub is_wired : LeafModule → ℕ → Item → Bool
  is_wired m k (drive p b ps t) = is_read m b ps && (are_picks_in m ps && is_term_in m t)
  is_wired m k (when p c a b) = is_term_in m c && (are_wired m (k + 1) a && are_wired m (k + 1) b)
  is_wired m k (instance i d) = is_instance m k i d

  pub are_wired : LeafModule → ℕ → Items → Bool
  are_wired m k done = true
  are_wired m k ((then) i is) = is_wired m k i && are_wired m k is

  pub is_instance : LeafModule → ℕ → HeldInstance → Design → Bool
  is_instance m k i (made_of c is) = is_held m k i c && are_wired c 0 is

mutual
  wired_by_test : (m : LeafModule) (k : ℕ) (i : Item) → is_wired m k i ≡ true → IsWired m k i
  wired_by_test m k (drive p b ps t) h =
      let all = and_parts (is_read m b ps) _ h in
      let both = and_parts (are_picks_in m ps) _ all.1 in
      (read_by_test m b ps all.0, picks_by_test m ps both.0, term_by_test m t both.1)
  wired_by_test m k (when p c a b) h =
      let all = and_parts (is_term_in m c) _ h in
      let both = and_parts (are_wired m (k + 1) a) _ all.1 in
      (term_by_test m c all.0, all_by_test m (k + 1) a both.0, all_by_test m (k + 1) b both.1)
  wired_by_test m k (instance i d) h = instance_by_test m k i d h

  all_by_test : (m : LeafModule) (k : ℕ) (is : Items) → are_wired m k is ≡ true → AreWired m k is
  all_by_test m k done h = tt
  all_by_test m k ((then) i is) h = let both = and_parts (is_wired m k i) _ h in (wired_by_test m k i both.0, all_by_test m k is both.1)

  instance_by_test : (m : LeafModule) (k : ℕ) (i : HeldInstance) (d : Design) → is_instance m k i d ≡ true → IsInstance m k i d
  instance_by_test m k i (made_of c is) h = let both = and_parts (is_held m k i c) _ h in (held_by_test m k i c both.0, all_by_test c 0 is both.1)

-- no leaf of the list has the path
abbrev pub is_apart : LeafPath → List LeafDeclared → Bool
is_apart x [] = true
is_apart x (l ∷ ls) = not (same_path l.path x) && is_apart x ls

abbrev pub are_apart : List LeafDeclared → Bool
are_apart [] = true
are_apart (l ∷ ls) = is_apart l.path ls && are_apart ls

apart_at : (x : LeafPath) (ls : List LeafDeclared) (i : ℕ) → is_apart x ls ≡ true → i < length ls → x ≡ (leaf_at ls i).path → ⊥
apart_at x [] i e lt h = absurd (omega (arith, lt))
apart_at x (l ∷ ls) zero e lt h =
    true≢false (sym (and_parts (not (same_path l.path x)) (is_apart x ls) e).0 ∙ ap not (ap (λ y. same_path l.path y) h ∙ same_path_refl l.path))
apart_at x (l ∷ ls) (suc i) e lt h = apart_at x ls i (and_parts (not (same_path l.path x)) (is_apart x ls) e).1 (omega (arith, lt)) h

once_by_test : (ls : List LeafDeclared) → are_apart ls ≡ true → (i j : ℕ) → i < length ls → j < length ls → (leaf_at ls i).path ≡ (leaf_at ls j).path → i ≡ j
once_by_test [] e i j lt lu h = absurd (omega (arith, lt))
once_by_test (l ∷ ls) e zero zero lt lu h = refl
once_by_test (l ∷ ls) e zero (suc j) lt lu h = absurd (apart_at l.path ls j (and_parts (is_apart l.path ls) (are_apart ls) e).0 (omega (arith, lu)) h)
once_by_test (l ∷ ls) e (suc i) zero lt lu h = absurd (apart_at l.path ls i (and_parts (is_apart l.path ls) (are_apart ls) e).0 (omega (arith, lt)) (sym h))
once_by_test (l ∷ ls) e (suc i) (suc j) lt lu h =
    ap suc (once_by_test ls (and_parts (is_apart l.path ls) (are_apart ls) e).1 i j (omega (arith, lt)) (omega (arith, lu)) h)

abbrev pub is_sound : Design → Bool
is_sound (made_of m is) =
    nat_le m.port_leaves (length m.leaves) && (are_wired m 0 is && are_apart (flattened (made_of m is)).leaves)

pub sound_by_test : (d : Design) → is_sound d ≡ true → IsSound d
sound_by_test (made_of m is) h =
    let all = and_parts (nat_le m.port_leaves (length m.leaves)) _ h in
    let both = and_parts (are_wired m 0 is) _ all.1 in
    record {
      wired = (leb-true _ _ all.0, all_by_test m 0 is both.0);
      once = once_by_test (flattened (made_of m is)).leaves both.1;
    }
