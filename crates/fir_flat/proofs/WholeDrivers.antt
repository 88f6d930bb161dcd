-- What drives a leaf that holds a number is whole, and of the leaf's signedness: what it starts with is, each statement gives such a term, and so is a choice
-- between two of them.
use Rattle.std.proofs.Common.{◌≡◌, ℕ, ◌+◌, ◌<◌, [], ◌∷◌, List, length, Bool, true, false, ◌||◌, if◌then◌else◌, nat_eq, nat_lt, refl, sym, ap, ◌∙◌, subst, inl, inr}
use Rattle.std.proofs.lemmas.Bool.{eqb-true}
use Rattle.fir_base.specs.Lists.{In}
use Rattle.fir_bits.specs.declared.types.NumTy.{NumTy}
use Rattle.fir_meaning.specs.working.LeafBlocks.{LeafStatement, drive, when, instance, LeafBlock, done, then}
use Rattle.fir_meaning.specs.working.LeafModules.{LeafModule}
use Rattle.fir_meaning.specs.LeafTypes.{LeafType, number, number_type}
use Rattle.fir_meaning.specs.working.TermReads.{reached}
use Rattle.fir_meaning.specs.working.TermValues.{Holds}
use Rattle.fir_meaning.specs.working.Terms.{Term, no_picks, pick}
use Rattle.fir_meaning.specs.working.UndrivenChoices.{drives_any}
use Rattle.fir_leaf.specs.working.LeafNumbers.{BlockWithin, StatementWithin, TermWithin}
use Rattle.fir_leaf_types.specs.working.TypedBlocks.{AreTyped, IsTyped, MayGive}
use Rattle.fir_leaf_types.specs.working.TypedModules.{held_in}
use Rattle.fir_connect.specs.working.Drivers.{driver, driver_all, given, start, through}
use Rattle.fir_connect.specs.working.Lowered.{Candidate, candidates, conditions, lowered, zero_of}
use Rattle.fir_connect.specs.working.LoweredLaws.{types_of}
use Rattle.fir_connect.specs.working.NetTerms.{NetTerm, choice}
use Rattle.fir_connect.proofs.GivenTerms.{GivenNumber, given_number, of_given}
use Rattle.fir_connect.proofs.LoweredCandidates.{condition_in, number_in}
use Rattle.fir_connect.proofs.LoweredTypes.{lowered_type}
use Rattle.fir_flat.specs.working.WholeRoles.{MayDrive}
use Rattle.fir_flat.proofs.WholeConditions.{IsCondition, choice_whole}
use Rattle.fir_flat.proofs.WholeLowered.{condition_of, conditions_sound, lowered_whole}

module _ (m : LeafModule) where
  abbrev held : ℕ → LeafType
  held = held_in m

  abbrev holds : Holds
  holds = types_of (held_in m)

  abbrev count : ℕ
  count = length m.leaves

  -- a term of a type of the signedness
  pub lowered_may : (u : NumTy) (e : Term) → GivenNumber held u e → TermWithin count e → MayDrive m u (lowered holds e)
  lowered_may u e g within = record {
    whole = lowered_whole held count e g.data_type g.has within;
    kind = ap (λ (z : NumTy). z.signed) (lowered_type held e g.data_type g.has) ∙ g.kind;
  }

  module _ (x : ℕ) (u : NumTy) (is : held_in m x ≡ number u) where
    zero_may : MayDrive m u (zero_of (holds x))
    zero_may = record { whole = tt; kind = ap (λ h. (number_type h).signed) is }

    pub start_may : (is_register : Bool) → x < count → MayDrive m u (start holds is_register x)
    start_may true inside = record { whole = (inside, (u, is)); kind = ap (λ h. (number_type h).signed) is }
    start_may false inside = zero_may

    choice_may : (c a b : NetTerm) → IsCondition held count c → MayDrive m u a → MayDrive m u b → MayDrive m u (choice holds c a b)
    choice_may c a b tested first second = record {
      whole = choice_whole held count c a b tested first.whole second.whole (second.kind ∙ sym first.kind);
      kind = first.kind;
    }

    given_may : (e : Term) → MayGive held e (held x) → TermWithin count e → MayDrive m u (given holds x e)
    given_may e may within =
        of_given holds x (λ e. MayGive held e (held x) × TermWithin count e) (λ e t. MayDrive m u t) zero_may
        (λ e some both. lowered_may u e (given_number held e some u (rw is at both.0)) both.1) e (may, within)

    module _ (depth : ℕ) where
      through_may : (cs : List Candidate) (e old : NetTerm) → ((c : Candidate) → In cs c → IsCondition held count c.condition)
          → ((c : Candidate) → In cs c → c.number ≡ x → MayDrive m u e) → MayDrive m u old → MayDrive m u (through holds depth x cs e old)
      through_may [] e old tested may before = before
      through_may (c ∷ cs) e old tested may before =
          through_may cs e (if nat_eq c.number x then choice holds c.condition e old else old) (λ d n. tested d (inr n)) (λ d n. may d (inr n))
          (by (nat_eq c.number x) refl)
        where
          by : (b : Bool) → nat_eq c.number x ≡ b → MayDrive m u (if b then choice holds c.condition e old else old)
          by true q = choice_may c.condition e old (tested c (inl refl)) (may c (inl refl) (eqb-true c.number x q)) before
          by false q = before

      direct_may : (b : ℕ) (e : Term) (old : NetTerm) → MayGive held e (held b) → TermWithin count e → MayDrive m u old → (d : Bool) → nat_eq b x ≡ d
          → MayDrive m u (if d then given holds x e else old)
      direct_may b e old may within before true q = given_may e (subst (λ z. MayGive held e (held z)) (eqb-true b x q) may) within
      direct_may b e old may within before false q = before

      when_may : (early drives : Bool) (c first second after old : NetTerm) → IsCondition held count c → MayDrive m u first → MayDrive m u second
          → MayDrive m u after → MayDrive m u old → MayDrive m u (if early then after else if drives then choice holds c first second else old)
      when_may true drives c first second after old tested f g h before = h
      when_may false true c first second after old tested f g h before = choice_may c first second tested f g
      when_may false false c first second after old tested f g h before = before

      mutual
        driver_may : (s : LeafStatement) (k : ℕ) (old : NetTerm) → IsTyped held s → StatementWithin count s → MayDrive m u old
            → MayDrive m u (driver holds depth x s k old)
        driver_may (drive p b no_picks e) k old h within before = direct_may b e old h.0 within.1 before (nat_eq b x) refl
        driver_may (drive p b (pick ps q i n each) e) k old h within before =
            let whole = pick ps q i n each in
            let xs = reached b whole in
            let cs = conditions holds whole in
            through_may (candidates xs cs) (given holds x e) old
            (λ c n. conditions_sound held count whole h.2 within.0.1 _ (condition_in xs cs c n))
            (λ c n same.
            let among : In xs x = subst (In xs) same (number_in xs cs c n) in
            given_may e (subst (MayGive held e) (sym (h.1 x among)) h.0) within.1)
            before
        driver_may (when p c a b) k old h within before =
            let first = driver_all_may a (k + 1) old h.1 within.1 before in
            when_may (nat_lt k depth) (drives_any x a || drives_any x b) (lowered holds c) (driver_all holds depth x a (k + 1) old)
            (driver_all holds depth x b (k + 1) old) (driver_all holds depth x b (k + 1) (driver_all holds depth x a (k + 1) old)) old
            (condition_of held count c h.0 (lowered_whole held count c _ h.0 within.0)) first
            (driver_all_may b (k + 1) old h.2 within.2 before)
            (driver_all_may b (k + 1) (driver_all holds depth x a (k + 1) old) h.2 within.2 first) before
        driver_may (instance i) k old h within before = before

        pub driver_all_may : (b : LeafBlock) (k : ℕ) (old : NetTerm) → AreTyped held b → BlockWithin count b → MayDrive m u old
            → MayDrive m u (driver_all holds depth x b k old)
        driver_all_may done k old h within before = before
        driver_all_may ((then) s b) k old h within before =
            driver_all_may b k (driver holds depth x s k old) h.1 within.1 (driver_may s k old h.0 within.0 before)
