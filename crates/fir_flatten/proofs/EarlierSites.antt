-- The first of some leaves whose clock is unclear, and one leaf more.
use Rattle.std.proofs.Common.{◌≡◌, ◌⊎◌, ℕ, ◌+◌, ◌<◌, ◌≤◌, List, length, slice_get, Bool, true, false, nat_eq, nat_lt, ◌&&◌, ◌||◌, not, Option, Some, None, refl, sym, ap, ap₂, ◌∙◌, subst, inl, inr, ⊎_elim, arith}
use Rattle.std.proofs.lemmas.Bool.{eq-eqb, eqb-true, le-ltb, lt-ltb, ltb-false, ltb-true}
use Rattle.std.proofs.lemmas.Option.{same_Some}
use Rattle.fir_ast.specs.declared.place.Place.{Place}
use Rattle.fir_meaning.specs.Lack.{is_before}
use Rattle.fir_meaning.specs.ModuleScenes.{Scene}
use Rattle.fir_meaning.specs.SourceRanks.{Rank, comes_before}
use Rattle.fir_meaning.specs.working.LeafModules.{leaf_at}
use Rattle.fir_meaning.specs.working.LeafedModules.{leafed_module}
use Rattle.fir_elaborate.specs.declared.elaborated.ModuleCopy.{ModuleCopy}
use Rattle.fir_flatten.specs.declared.clock_faults.Site.{Site}
use Rattle.fir_flatten.specs.working.ClearClocks.{IsUnclear}
use Rattle.fir_flatten.specs.working.ClockTold.{rank}
use Rattle.fir_flatten.specs.working.FirstSites.{IsAhead, IsFirstAhead, IsFirstSite, IsSite, IsSiteOf, IsUnclearAt}

-- when a place is before another, and when it is not
abbrev IsEarlier : Place → Place → Type 0
IsEarlier p q = (p.line < q.line) ⊎ ((p.line ≡ q.line) × (p.col < q.col))

abbrev IsNoEarlier : Place → Place → Type 0
IsNoEarlier p q = (q.line < p.line) ⊎ ((q.line ≡ p.line) × (q.col ≤ p.col))

tests_false : (a b c : Bool) → a ≡ false → (b ≡ true → c ≡ false) → (a || b && c) ≡ false
tests_false true b c e f = absurd (cc)
tests_false false true c e f = f refl
tests_false false false c e f = refl

tests_true : (a b c : Bool) → (a ≡ true) ⊎ ((b ≡ true) × (c ≡ true)) → (a || b && c) ≡ true
tests_true true b c h = refl
tests_true false true true h = refl
tests_true false true false h = ⊎_elim (λ (e : false ≡ true). absurd (cc)) (λ (e : (true ≡ true) × (false ≡ true)). let never = e.1 in absurd (cc)) h
tests_true false false c h = ⊎_elim (λ (e : false ≡ true). absurd (cc)) (λ (e : (false ≡ true) × (c ≡ true)). let never = e.0 in absurd (cc)) h

module _ (p q : Place) where
  earlier_is : is_before p q ≡ true → IsEarlier p q
  earlier_is e = by (nat_lt p.line q.line) (nat_eq p.line q.line) (nat_lt p.col q.col) refl refl refl e
    where
      by : (a b c : Bool) → nat_lt p.line q.line ≡ a → nat_eq p.line q.line ≡ b → nat_lt p.col q.col ≡ c → (a || b && c) ≡ true → IsEarlier p q
      by true b c e f g h = inl (ltb-true p.line q.line e)
      by false true true e f g h = inr (eqb-true p.line q.line f, ltb-true p.col q.col g)
      by false true false e f g h = absurd (cc)
      by false false c e f g h = absurd (cc)

  is_earlier : IsEarlier p q → is_before p q ≡ true
  is_earlier h =
      tests_true (nat_lt p.line q.line) (nat_eq p.line q.line) (nat_lt p.col q.col)
      (⊎_elim (λ (e : p.line < q.line). inl (lt-ltb p.line q.line e))
      (λ (e : (p.line ≡ q.line) × (p.col < q.col)). inr (eq-eqb p.line q.line e.0, lt-ltb p.col q.col e.1)) h)

  no_earlier_is : is_before p q ≡ false → IsNoEarlier p q
  no_earlier_is e = by (nat_lt p.line q.line) (nat_eq p.line q.line) (nat_lt p.col q.col) refl refl refl e
    where
      apart : nat_lt p.line q.line ≡ false → nat_eq p.line q.line ≡ false → (b : Bool) → nat_lt q.line p.line ≡ b → q.line < p.line
      apart e f true g = ltb-true q.line p.line g
      apart e f false g =
          let one = ltb-false p.line q.line e in
          let other = ltb-false q.line p.line g in
          let same : nat_eq p.line q.line ≡ true = eq-eqb p.line q.line (omega (arith, one, other)) in
          absurd (cc)

      by : (a b c : Bool) → nat_lt p.line q.line ≡ a → nat_eq p.line q.line ≡ b → nat_lt p.col q.col ≡ c → (a || b && c) ≡ false → IsNoEarlier p q
      by true b c e f g h = absurd (cc)
      by false true true e f g h = absurd (cc)
      by false true false e f g h = inr (sym (eqb-true p.line q.line f), ltb-false p.col q.col g)
      by false false c e f g h = inl (apart e f (nat_lt q.line p.line) refl)

  is_no_earlier : IsNoEarlier p q → is_before p q ≡ false
  is_no_earlier h =
      ⊎_elim
      (λ (e : q.line < p.line).
      tests_false (nat_lt p.line q.line) (nat_eq p.line q.line) (nat_lt p.col q.col) (le-ltb p.line q.line (omega (arith, e)))
      (λ same. let one = eqb-true p.line q.line same in absurd (omega (arith, one, e))))
      (λ (e : (q.line ≡ p.line) × (q.col ≤ p.col)).
      let line = e.0 in
      tests_false (nat_lt p.line q.line) (nat_eq p.line q.line) (nat_lt p.col q.col) (le-ltb p.line q.line (omega (arith, line)))
      (λ same. le-ltb p.col q.col e.1)) h

-- behind a place is behind those before it
module _ (p a b : Place) (before : is_before b a ≡ true) (behind : is_before p a ≡ false) where
  still_earlier : is_before b p ≡ true
  still_earlier =
      is_earlier b p
      (⊎_elim
      (λ (e : b.line < a.line).
      ⊎_elim (λ (f : a.line < p.line). let one : b.line < p.line = omega (arith, e, f) in inl one)
      (λ (f : (a.line ≡ p.line) × (a.col ≤ p.col)). let line = f.0 in let one : b.line < p.line = omega (arith, e, line) in inl one)
      (no_earlier_is p a behind))
      (λ (e : (b.line ≡ a.line) × (b.col < a.col)).
      let own = e.0 in
      let own_col = e.1 in
      ⊎_elim (λ (f : a.line < p.line). let one : b.line < p.line = omega (arith, own, f) in inl one)
      (λ (f : (a.line ≡ p.line) × (a.col ≤ p.col)).
      let line = f.0 in
      let col = f.1 in
      let same : b.line ≡ p.line = omega (arith, own, line) in
      let less : b.col < p.col = omega (arith, own_col, col) in
      inr (same, less))
      (no_earlier_is p a behind))
      (earlier_is b a before))

  still_behind : is_before p b ≡ false
  still_behind =
      is_no_earlier p b
      (⊎_elim (λ (e : b.line < p.line). inl e)
      (λ (e : (b.line ≡ p.line) × (b.col < p.col)). let col = e.1 in let less : b.col ≤ p.col = omega (arith, col) in inr (e.0, less))
      (earlier_is b p still_earlier))

none_first : (a b c d e : Bool) → a ≡ false → c ≡ false → (d ≡ true → e ≡ false) → (a || not b && (c || d && e)) ≡ false
none_first true b c d e h k f = absurd (cc)
none_first false true c d e h k f = refl
none_first false false c d e h k f = tests_false c d e k f

place_behind : (a b r : Bool) → (a || not b && r) ≡ false → a ≡ false
place_behind true b r h = h
place_behind false b r h = refl

behind_so : (a b r : Bool) → a ≡ false → b ≡ true → (a || not b && r) ≡ false
behind_so true b r h k = absurd (cc)
behind_so false true r h k = refl
behind_so false false r h k = absurd (cc)

-- of one place what is ahead comes first
ahead_first : (p q : Place) (i z j w : ℕ) → is_before p q ≡ false → IsAhead j w i z → comes_before (rank p i z) (rank q j w) ≡ false
ahead_first p q i z j w e h =
    ⊎_elim
    (λ (k : j < i).
    none_first (is_before p q) (is_before q p) (nat_lt i j) (nat_eq i j) (nat_lt z w) e (le-ltb i j (omega (arith, k)))
    (λ same. let one = eqb-true i j same in absurd (omega (arith, one, k))))
    (λ (k : (j ≡ i) × (w < z)).
    let same = k.0 in
    let less = k.1 in
    none_first (is_before p q) (is_before q p) (nat_lt i j) (nat_eq i j) (nat_lt z w) e (le-ltb i j (omega (arith, same)))
    (λ one. le-ltb z w (omega (arith, less)))) h

never_first : (p : Place) (i z : ℕ) → comes_before (rank p i z) (rank p i z) ≡ false
never_first p i z =
    none_first (is_before p p) (is_before p p) (nat_lt i i) (nat_eq i i) (nat_lt z z)
    (is_no_earlier p p (let least : p.col ≤ p.col = omega arith in inr (refl, least))) (le-ltb i i (omega arith)) (λ e. le-ltb z z (omega arith))

split_ahead : (j w i z : ℕ) → IsAhead j w i (z + 1) → IsAhead j w i z ⊎ ((j ≡ i) × (w ≡ z))
split_ahead j w i z (inl lt) = inl (inl lt)
split_ahead j w i z (inr h) = by (nat_lt w z) refl
  where
    by : (b : Bool) → nat_lt w z ≡ b → IsAhead j w i z ⊎ ((j ≡ i) × (w ≡ z))
    by true e = inl (inr (h.0, ltb-true w z e))
    by false e =
        let le = ltb-false w z e in
        let lt = h.1 in
        let same : w ≡ z = omega (arith, le, lt) in
        inr (h.0, same)

ahead_more : (j w i z : ℕ) → IsAhead j w i z → IsAhead j w i (z + 1)
ahead_more j w i z (inl lt) = inl lt
ahead_more j w i z (inr h) = let lt = h.1 in let more : w < z + 1 = omega (arith, lt) in inr (h.0, more)

module _ (scenes : List Scene) (copies : List ModuleCopy) (i z : ℕ) (k : ModuleCopy) (s : Scene) (is : slice_get copies i ≡ Some k)
    (is_scene : slice_get scenes k.module_number ≡ Some s) where
  -- what is unclear there, by the module
  record IsUnclearIn (p : Place) : Type 0 where
    within : z < length (leafed_module s).leaves
    unclear : IsUnclear (leafed_module s) z
    place : p ≡ (leaf_at (leafed_module s).leaves z).place

  unclear_in : (p : Place) → IsUnclearAt scenes copies i z p → IsUnclearIn p
  unclear_in p u =
      let copy : u.copy ≡ k = same_Some u.copy k (sym u.is ∙ is) in
      let scene : u.scene ≡ s =
      same_Some u.scene s (sym u.is_scene ∙ ap (λ (q : ModuleCopy). slice_get scenes q.module_number) copy ∙ is_scene) in
      record {
        within = subst (λ (v : Scene). z < length (leafed_module v).leaves) scene u.within;
        unclear = subst (λ (v : Scene). IsUnclear (leafed_module v) z) scene u.unclear;
        place = u.place ∙ ap (λ (v : Scene). (leaf_at (leafed_module v).leaves z).place) scene;
      }

  unclear_site : (b : Site) → IsSite (leafed_module s) i z b → IsUnclearAt scenes copies b.copy b.leaf b.place
  unclear_site b h =
      subst (λ j. IsUnclearAt scenes copies j b.leaf b.place) (sym h.copy)
      (subst (λ w. IsUnclearAt scenes copies i w b.place) (sym h.leaf)
      (record { copy = k; is = is; scene = s; is_scene = is_scene; within = h.within; unclear = h.unclear; place = h.place }))

  same_rank : (b : Site) → IsSite (leafed_module s) i z b → rank b.place b.copy b.leaf ≡ rank b.place i z
  same_rank b h = ap₂ (rank b.place) h.copy h.leaf

  -- the one that was found stays
  stays : (a : Site) → IsFirstSite scenes copies i z a
      → ((p : Place) → IsUnclearAt scenes copies i z p → comes_before (rank p i z) (rank a.place a.copy a.leaf) ≡ false) → IsFirstSite scenes copies i (z + 1) a
  stays a h here = record {
    unclear = h.unclear;
    ahead = ahead_more a.copy a.leaf i z h.ahead;
    first = λ j w p ahead u.
        ⊎_elim (λ (q : IsAhead j w i z). h.first j w p q u)
        (λ (e : (j ≡ i) × (w ≡ z)).
        let there : IsUnclearAt scenes copies i z p =
        subst (λ v. IsUnclearAt scenes copies v z p) e.0 (subst (λ v. IsUnclearAt scenes copies j v p) e.1 u) in
        ap (λ (r : Rank). comes_before r (rank a.place a.copy a.leaf)) (ap₂ (rank p) e.0 e.1) ∙ here p there) (split_ahead j w i z ahead);
  }

  -- or this one is the first
  comes : (b : Site) → IsSite (leafed_module s) i z b
      → ((j w : ℕ) (p : Place) → IsAhead j w i z → IsUnclearAt scenes copies j w p → comes_before (rank p j w) (rank b.place i z) ≡ false)
      → IsFirstSite scenes copies i (z + 1) b
  comes b h before =
      let same = same_rank b h in
      let next : b.leaf < z + 1 = omega (arith, h.leaf) in
      record {
        unclear = unclear_site b h;
        ahead = inr (h.copy, next);
        first = λ j w p ahead u.
            ⊎_elim (λ (q : IsAhead j w i z). ap (comes_before (rank p j w)) same ∙ before j w p q u)
            (λ (e : (j ≡ i) × (w ≡ z)).
            let there : IsUnclearAt scenes copies i z p =
            subst (λ v. IsUnclearAt scenes copies v z p) e.0 (subst (λ v. IsUnclearAt scenes copies j v p) e.1 u) in
            let place : p ≡ b.place = (unclear_in p there).place ∙ sym h.place in
            ap₂ comes_before (ap₂ (rank p) e.0 e.1 ∙ ap (λ o. rank o i z) place) same ∙ never_first b.place i z) (split_ahead j w i z ahead);
      }

  pub both_later : (one other : Site) → is_before other.place one.place ≡ true → IsFirstSite scenes copies i z one → IsSite (leafed_module s) i z other
      → IsFirstSite scenes copies i (z + 1) other
  both_later one other e h k =
      comes other k
      (λ j w p ahead u.
      let behind = place_behind (is_before p one.place) (is_before one.place p) _ (h.first j w p ahead u) in
      behind_so (is_before p other.place) (is_before other.place p) _ (still_behind p one.place other.place e behind)
      (still_earlier p one.place other.place e behind))

  pub both_first : (one other : Site) → is_before other.place one.place ≡ false → IsFirstSite scenes copies i z one → IsSite (leafed_module s) i z other
      → IsFirstSite scenes copies i (z + 1) one
  both_first one other e h k =
      stays one h
      (λ p u.
      let place : p ≡ other.place = (unclear_in p u).place ∙ sym k.place in
      ahead_first p one.place i z one.copy one.leaf (ap (λ o. is_before o one.place) place ∙ e) h.ahead)

  pub none_here : (found : Option Site) → IsFirstAhead scenes copies i z found → IsSiteOf (leafed_module s) i z None
      → IsFirstAhead scenes copies i (z + 1) found
  none_here None h none = λ j w p ahead u.
      ⊎_elim (λ (q : IsAhead j w i z). h j w p q u)
      (λ (e : (j ≡ i) × (w ≡ z)).
      let there = unclear_in p (subst (λ v. IsUnclearAt scenes copies v z p) e.0 (subst (λ v. IsUnclearAt scenes copies j v p) e.1 u)) in
      none there.within there.unclear) (split_ahead j w i z ahead)
  none_here (Some a) h none = stays a h (λ p u. let there = unclear_in p u in absurd (none there.within there.unclear))

  pub none_found : (site : Option Site) → IsFirstAhead scenes copies i z None → IsSiteOf (leafed_module s) i z site
      → IsFirstAhead scenes copies i (z + 1) site
  none_found None h none = none_here None h none
  none_found (Some b) h k = comes b k (λ j w p ahead u. absurd (h j w p ahead u))
