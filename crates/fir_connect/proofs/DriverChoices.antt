-- What drives a leaf is worth what the statement gives that is live under the choice of the values, and where none is, what stood before.
-- So it is for all that is measured of terms, as their numbers and clocks, if the measure of a choice is that of the side that its condition picks.
use Rattle.std.proofs.Common.{◌≡◌, ℕ, ◌+◌, [], ◌∷◌, List, Bool, true, false, not, ◌&&◌, ◌||◌, Option, Some, None, option_map, refl, sym, ap, ◌∙◌, unwrap_or, subst, inl, inr, nat_eq, nat_lt, if◌then◌else◌}
use Rattle.std.proofs.lemmas.Bool.{eqb-true, or_parts}
use Rattle.fir_base.specs.Lists.{In}
use Rattle.fir_ast.specs.declared.place.Place.{Place}
use Rattle.fir_meaning.specs.Values.{is_high}
use Rattle.fir_meaning.specs.LeafTypes.{LeafType}
use Rattle.fir_meaning.specs.working.Terms.{Term, Picks, no_picks, pick}
use Rattle.fir_meaning.specs.working.TermReads.{is_among, reached}
use Rattle.fir_meaning.specs.working.TermValues.{Holds, is_true, leaf_of}
use Rattle.fir_meaning.specs.working.LeafBlocks.{LeafStatement, drive, when, instance, LeafBlock, done, then}
use Rattle.fir_meaning.specs.working.Choices.{Choice, Live, below, driving, last, last_all, later}
use Rattle.fir_meaning.specs.working.UndrivenChoices.{drives_any}
use Rattle.fir_leaf.proofs.LiveStatements.{live_all}
use Rattle.fir_leaf.proofs.PickedLeaves.{among_in, in_reached}
use Rattle.fir_leaf.specs.working.ValueChoices.{choice_of, choice_of_all, hits}
use Rattle.fir_leaf_types.specs.working.TypedBlocks.{AreTyped, IsTyped, MayGive}
use Rattle.fir_leaf_types.specs.working.TypedTerms.{AreAlike, HasType, one_bit}
use Rattle.fir_connect.specs.working.NetTerms.{NetTerm, choice}
use Rattle.fir_connect.specs.working.NetValues.{term_value}
use Rattle.fir_connect.specs.working.Lowered.{Candidate, candidates, conditions, lowered}
use Rattle.fir_connect.specs.working.LoweredLaws.{types_of}
use Rattle.fir_connect.specs.working.Drivers.{driver, driver_all, given, through}
use Rattle.fir_connect.proofs.DriverLives.{undriven_lives}
use Rattle.fir_connect.proofs.LoweredCandidates.{number_in}
use Rattle.fir_connect.proofs.LoweredValues.{worth}
use Rattle.fir_connect.proofs.MetCandidates.{any_met, met_where_picked}

-- what a live statement gives, over what stood before
abbrev pub over : {V : Type 0} → (Term → V) → Option Live → V → V
over gives (Some l) old = gives l.given
over gives None old = old

-- so it is stored over nothing
pub stored_over : {V : Type 0} → (gives : Term → V) (o : Option Live) (v : V) → over gives o v ≡ unwrap_or (option_map (λ l. gives l.given) o) v
stored_over gives (Some l) v = refl
stored_over gives None v = refl

over_later : {V : Type 0} → (gives : Term → V) (p q : Option Live) (v : V) → over gives (later p q) v ≡ over gives p (over gives q v)
over_later gives (Some l) q v = refl
over_later gives None q v = refl

over_below : {V : Type 0} → (gives : Term → V) (c : Term) (p q : Option Live) (t : Bool) (v : V)
    → (if t then over gives p v else over gives q v) ≡ over gives (option_map (below c) (if t then p else q)) v
over_below gives c (Some l) q true v = refl
over_below gives c None q true v = refl
over_below gives c p (Some l) false v = refl
over_below gives c p None false v = refl

none_live : (depth x : ℕ) (b : LeafBlock) (k : ℕ) (f : Choice) → drives_any x b ≡ false → last_all depth x b k f ≡ None
none_live depth x b k f d = by (last_all depth x b k f) refl
  where
    by : (o : Option Live) → last_all depth x b k f ≡ o → o ≡ None
    by None e = refl
    by (Some l) e = absurd (subst (λ ls. In ls l) (undriven_lives depth x b k d) (live_all depth x b k f l e))

hit_is : (o : Option ℕ) (x : ℕ) → hits o x ≡ true → o ≡ Some x
hit_is None x h = absurd cc
hit_is (Some y) x h = ap Some (eqb-true y x h)

module _ {V : Type 0} (held : ℕ → LeafType) (numbers : ℕ → ℕ) (x : ℕ) (Sound : NetTerm → Type 0) (measure : NetTerm → V) (gives : Term → V) where
  abbrev holds : Holds
  holds = types_of held

  -- the terms whose choices have the measure of the side that is picked; what is given is one, and has the measure that it gives
  pub record Measures : Type 0 where
    pub sound : (c a b : NetTerm) → Sound a → Sound b → Sound (choice holds c a b)
    pub side : (c a b : NetTerm) → Sound a → Sound b
        → measure (choice holds c a b) ≡ (if is_high (term_value holds numbers c ∷ []) then measure a else measure b)
    pub given_sound : (e : Term) → MayGive held e (held x) → Sound (given holds x e)
    pub given_measure : (e : Term) → MayGive held e (held x) → measure (given holds x e) ≡ gives e

  pub record IsWorth (l : Option Live) (old new : NetTerm) : Type 0 where
    pub sound : Sound new
    pub worth : measure new ≡ over gives l (measure old)

  module _ (rules : Measures) where
    worth_same : (old : NetTerm) → Sound old → IsWorth None old old
    worth_same old is = record { sound = is; worth = refl }

    worth_then : (p q : Option Live) (old mid new : NetTerm) → IsWorth p old mid → IsWorth q mid new → IsWorth (later q p) old new
    worth_then p q old mid new first second = record {
      sound = second.sound;
      worth = second.worth ∙ ap (over gives q) first.worth ∙ sym (over_later gives q p (measure old));
    }

    worth_choice : (c : Term) (p q : Option Live) (old first second : NetTerm) → HasType held c one_bit → IsWorth p old first → IsWorth q old second
        → IsWorth (option_map (below c) (if is_true holds numbers c then p else q)) old (choice holds (lowered holds c) first second)
    worth_choice c p q old first second h f g = record {
      sound = rules.sound (lowered holds c) first second f.sound g.sound;
      worth =
          rules.side (lowered holds c) first second f.sound g.sound
          ∙ rw (worth held numbers c _ h, f.worth, g.worth) (over_below gives c p q (is_true holds numbers c) (measure old));
    }

    -- through candidates what is given takes the place of what stood before where one of the leaf is met
    module _ (depth : ℕ) (e : NetTerm) where
      through_sound : (cs : List Candidate) (old : NetTerm) → ((c : Candidate) → In cs c → c.number ≡ x → Sound e) → Sound old
          → Sound (through holds depth x cs e old)
      through_sound [] old is_given is = is
      through_sound (c ∷ cs) old is_given is =
          through_sound cs (if nat_eq c.number x then choice holds c.condition e old else old) (λ d m. is_given d (inr m))
          (by (nat_eq c.number x) refl)
        where
          by : (b : Bool) → nat_eq c.number x ≡ b → Sound (if b then choice holds c.condition e old else old)
          by true q = rules.sound c.condition e old (is_given c (inl refl) (eqb-true c.number x q)) is
          by false q = is

      through_worth : (cs : List Candidate) (old : NetTerm) → ((c : Candidate) → In cs c → c.number ≡ x → Sound e) → Sound old
          → measure (through holds depth x cs e old) ≡ (if any_met holds numbers x cs then measure e else measure old)
      through_worth [] old is_given is = refl
      through_worth (c ∷ cs) old is_given is =
          by (nat_eq c.number x) refl (any_met holds numbers x cs)
          (λ old' is'. through_worth cs old' (λ d m. is_given d (inr m)) is')
        where
          met : Bool
          met = is_high (term_value holds numbers c.condition ∷ [])

          either : (m later_met : Bool) (v w : V) → (if later_met then v else if m then v else w) ≡ (if m || later_met then v else w)
          either true true v w = refl
          either true false v w = refl
          either false true v w = refl
          either false false v w = refl

          by : (b : Bool) → nat_eq c.number x ≡ b → (later_met : Bool)
              → ((old' : NetTerm) → Sound old' → measure (through holds depth x cs e old') ≡ (if later_met then measure e else measure old'))
              → measure (through holds depth x cs e (if b then choice holds c.condition e old else old))
              ≡ (if (b && met) || later_met then measure e else measure old)
          by true q later_met rest =
              let is_e = is_given c (inl refl) (eqb-true c.number x q) in
              rest (choice holds c.condition e old) (rules.sound c.condition e old is_e is)
              ∙ rw (rules.side c.condition e old is_e is) (either met later_met (measure e) (measure old))
          by false q later_met rest = rest old is

    worth_direct : (p : Place) (b : ℕ) (e : Term) (old : NetTerm) (hit : Bool) → MayGive held e (held b) → Sound old → (d : Bool) → nat_eq b x ≡ d
        → IsWorth (if (d || false) && (not false || hit) then Some (driving p no_picks e) else None) old (if d then given holds x e else old)
    worth_direct p b e old hit h is true q =
        let may = subst (λ z. MayGive held e (held z)) (eqb-true b x q) h in
        record { sound = rules.given_sound e may; worth = rules.given_measure e may }
    worth_direct p b e old hit h is false q = worth_same old is

    worth_picked : (depth : ℕ) (p : Place) (b : ℕ) (ps : Picks) (e : Term) (old : NetTerm) (cs : List Candidate) → MayGive held e (held b)
        → AreAlike held (reached b ps) (held b) → ((c : Candidate) → In cs c → In (reached b ps) c.number)
        → any_met holds numbers x cs ≡ hits (leaf_of holds numbers b ps) x → Sound old
        → IsWorth (if is_among (reached b ps) x && (not true || hits (leaf_of holds numbers b ps) x) then Some (driving p ps e) else None) old
        (through holds depth x cs (given holds x e) old)
    worth_picked depth p b ps e old cs h alike number met is = record {
      sound = through_sound depth (given holds x e) cs old is_given is;
      worth =
          through_worth depth (given holds x e) cs old is_given is
          ∙ rw met (by (hits (leaf_of holds numbers b ps) x) refl (is_among (reached b ps) x) refl);
    }
      where
        may : In (reached b ps) x → MayGive held e (held x)
        may m = subst (MayGive held e) (sym (alike x m)) h

        is_given : (c : Candidate) → In cs c → c.number ≡ x → Sound (given holds x e)
        is_given c m same = rules.given_sound e (may (subst (In (reached b ps)) same (number c m)))

        by : (hit : Bool) → hits (leaf_of holds numbers b ps) x ≡ hit → (among : Bool) → is_among (reached b ps) x ≡ among
            → (if hit then measure (given holds x e) else measure old)
            ≡ over gives (if among && (not true || hit) then Some (driving p ps e) else None) (measure old)
        by true q true r = rules.given_measure e (may (in_reached holds numbers b x ps (hit_is (leaf_of holds numbers b ps) x q)))
        by true q false r =
            let m = among_in (reached b ps) x (in_reached holds numbers b x ps (hit_is (leaf_of holds numbers b ps) x q)) in
            absurd cc
        by false q true r = refl
        by false q false r = refl

    worth_when : (early drives : Bool) (c : Term) (p q : Option Live) (old first second after : NetTerm) → HasType held c one_bit → Sound old
        → (drives ≡ false → (p ≡ None) × (q ≡ None)) → IsWorth p old first → IsWorth q old second → IsWorth q first after
        → IsWorth (if early then later q p else option_map (below c) (if is_true holds numbers c then p else q)) old
        (if early then after else if drives then choice holds (lowered holds c) first second else old)
    worth_when true drives c p q old first second after h is none f g then_after = worth_then p q old first after f then_after
    worth_when false true c p q old first second after h is none f g then_after = worth_choice c p q old first second h f g
    worth_when false false c p q old first second after h is none f g then_after =
        rw ((none refl).0, (none refl).1) (neither (is_true holds numbers c))
      where
        neither : (t : Bool) → IsWorth (option_map (below c) (if t then None else None)) old old
        neither true = worth_same old is
        neither false = worth_same old is

    module _ (depth : ℕ) where
      mutual
        is_worth : (s : LeafStatement) (k : ℕ) (old : NetTerm) → IsTyped held s → Sound old
            → IsWorth (last depth x s k (choice_of holds numbers x s)) old (driver holds depth x s k old)
        is_worth (drive p b no_picks e) k old h is = worth_direct p b e old (hits (leaf_of holds numbers b no_picks) x) h.0 is (nat_eq b x) refl
        is_worth (drive p b (pick ps q i n each) e) k old h is =
            let whole = pick ps q i n each in
            let cs = conditions holds whole in
            worth_picked depth p b whole e old (candidates (reached b whole) cs) h.0 h.1 (λ c m. number_in (reached b whole) cs c m)
            (met_where_picked held numbers b ps q i n each x h.2) is
        is_worth (when p c a b) k old h is =
            let first = is_worth_all a (k + 1) old h.1 is in
            worth_when (nat_lt k depth) (drives_any x a || drives_any x b) c
            (last_all depth x a (k + 1) (choice_of_all holds numbers x a)) (last_all depth x b (k + 1) (choice_of_all holds numbers x b))
            old (driver_all holds depth x a (k + 1) old) (driver_all holds depth x b (k + 1) old)
            (driver_all holds depth x b (k + 1) (driver_all holds depth x a (k + 1) old)) h.0 is
            (λ d.
            let parts = or_parts (drives_any x a) (drives_any x b) d in
            (none_live depth x a (k + 1) (choice_of_all holds numbers x a) parts.0, none_live depth x b (k + 1) (choice_of_all holds numbers x b) parts.1))
            first (is_worth_all b (k + 1) old h.2 is) (is_worth_all b (k + 1) (driver_all holds depth x a (k + 1) old) h.2 first.sound)
        is_worth (instance i) k old h is = worth_same old is

        pub is_worth_all : (b : LeafBlock) (k : ℕ) (old : NetTerm) → AreTyped held b → Sound old
            → IsWorth (last_all depth x b k (choice_of_all holds numbers x b)) old (driver_all holds depth x b k old)
        is_worth_all done k old h is = worth_same old is
        is_worth_all ((then) s b) k old h is =
            let first = is_worth s k old h.0 is in
            worth_then (last depth x s k (choice_of holds numbers x s)) (last_all depth x b k (choice_of_all holds numbers x b))
            old (driver holds depth x s k old) (driver_all holds depth x b k (driver holds depth x s k old))
            first (is_worth_all b k (driver holds depth x s k old) h.1 first.sound)
