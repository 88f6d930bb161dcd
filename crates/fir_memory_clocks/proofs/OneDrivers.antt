-- What drives a leaf for which just one statement is live, under every choice: what that statement gives.
use Rattle.std.proofs.Common.{◌≡◌, ℕ, ◌+◌, List, [], ◌∷◌, ◌++◌, map, Bool, true, false, ◌&&◌, ◌||◌, nat_eq, nat_lt, if◌then◌else◌, Option, Some, None, refl, sym, subst, arith}
use Rattle.std.proofs.lemmas.Bool.{and_parts, false_from_ne_true}
use Rattle.fir_base.specs.Lists.{In}
use Rattle.fir_ast.specs.declared.place.Place.{Place}
use Rattle.fir_meaning.specs.LeafTypes.{LeafType}
use Rattle.fir_meaning.specs.working.Choices.{Live, below, covers, covers_all, driving, last_all, lives, lives_all, unless}
use Rattle.fir_meaning.specs.working.LeafBlocks.{LeafBlock, LeafStatement, done, drive, instance, then, when}
use Rattle.fir_meaning.specs.working.TermReads.{is_among, reached}
use Rattle.fir_meaning.specs.working.TermValues.{Holds}
use Rattle.fir_meaning.specs.working.Terms.{Term, no_picks, pick}
use Rattle.fir_meaning.specs.working.UndrivenChoices.{drives_any}
use Rattle.fir_leaf.specs.working.LeafNumbers.{BlockWithin, StatementWithin, TermWithin}
use Rattle.fir_leaf.proofs.LiveStatements.{covered_all, live_all}
use Rattle.fir_leaf_types.specs.working.TypedBlocks.{AreTyped, IsTyped, MayGive}
use Rattle.fir_connect.specs.working.Drivers.{driver, driver_all, given}
use Rattle.fir_connect.specs.working.Lowered.{lowered}
use Rattle.fir_connect.specs.working.NetTerms.{NetTerm, choice}
use Rattle.fir_connect.proofs.DriverLives.{SomeLive, some_in}
use Rattle.fir_design_faults.proofs.MovedDrivers.{quiet_driver}

-- one element in two lists
one_first : (ls ms : List Live) (l : Live) → ls ++ ms ≡ l ∷ [] → (ls ≡ [] → ⊥) → (ls ≡ l ∷ []) × (ms ≡ [])
one_first [] ms l e some = absurd (some refl)
one_first (m ∷ []) ms l e some = (cc, cc)
one_first (m ∷ n ∷ ls) ms l e some = absurd (cc)

-- two are more than one
never_one : (c : Term) (ls ms : List Live) (l : Live) → map (below c) (ls ++ ms) ≡ l ∷ [] → (ls ≡ [] → ⊥) → (ms ≡ [] → ⊥) → ⊥
never_one c [] ms l e first second = first refl
never_one c (m ∷ []) [] l e first second = second refl
never_one c (m ∷ []) (n ∷ ms) l e first second = absurd (cc)
never_one c (m ∷ n ∷ ls) ms l e first second = absurd (cc)

nothing_appended : (ls : List Live) → ls ≡ [] → ls ++ [] ≡ []
nothing_appended ls e = rw e refl

module _ (depth x : ℕ) where
  pub covered_some : (b : LeafBlock) (k : ℕ) → covers_all depth x b k ≡ true → lives_all depth x b k ≡ [] → ⊥
  covered_some b k c e = go (last_all depth x b k (λ way. true)) refl
    where
      go : (o : Option Live) → last_all depth x b k (λ way. true) ≡ o → ⊥
      go None h = covered_all depth x b k c (λ way. true) h
      go (Some l) h = subst (λ (ls : List Live). In ls l) e (live_all depth x b k (λ way. true) l h)

  covered_statement : (s : LeafStatement) (k : ℕ) → covers depth x s k ≡ true → lives depth x s k ≡ [] → ⊥
  covered_statement s k c e = covered_some ((then) s done) k c (nothing_appended (lives depth x s k) e)

  none_driven : (b : LeafBlock) (k : ℕ) → lives_all depth x b k ≡ [] → drives_any x b ≡ false
  none_driven b k e =
      false_from_ne_true _
      (λ d.
      let some : (drives_any x b || false) ≡ true = rw d refl in
      absurd (subst SomeLive (nothing_appended (lives_all depth x b k) e) (some_in depth x b done k some)).among)

  module _ (holds : Holds) (held : ℕ → LeafType) (count : ℕ) where
    -- the leaf is given what the statement gives, which may be given to it and reads such leaves
    pub record IsGiven (t : NetTerm) (l : Live) : Type 0 where
      pub is : t ≡ given holds x l.given
      pub may : MayGive held l.given (held x)
      pub within : TermWithin count l.given

    -- of two parts of which the second stands behind the first
    behind : (covered_first covered_second : Bool) (ls ms : List Live) (l : Live) (first second : NetTerm)
        → (covered_first ≡ true → ls ≡ [] → ⊥)
        → (covered_first ≡ true → ls ≡ l ∷ [] → IsGiven first l)
        → (covered_second ≡ true → ms ≡ l ∷ [] → IsGiven second l)
        → (ms ≡ [] → second ≡ first)
        → (covered_second || covered_first) ≡ true → (unless covered_second ls ++ ms) ≡ l ∷ [] → IsGiven second l
    behind covered_first true ls ms l first second some of_first of_second quiet c e = of_second refl e
    behind covered_first false ls ms l first second some of_first of_second quiet c e =
        let parts = one_first ls ms l e (some c) in
        subst (λ t. IsGiven t l) (sym (quiet parts.1)) (of_first c parts.0)

    -- of the two blocks of a when
    when_given : (early in_first in_second some : Bool) (t : Term) (ls ms : List Live) (l : Live) (first second after old : NetTerm)
        → (in_first ≡ true → ls ≡ [] → ⊥)
        → (in_second ≡ true → ms ≡ [] → ⊥)
        → (in_first ≡ true → ls ≡ l ∷ [] → IsGiven first l)
        → (in_second ≡ true → ms ≡ l ∷ [] → IsGiven after l)
        → (ms ≡ [] → after ≡ first)
        → (if early then in_second || in_first else in_first && in_second) ≡ true
        → (if early then unless in_second ls ++ ms else map (below t) (ls ++ ms)) ≡ l ∷ []
        → IsGiven (if early then after else if some then choice holds (lowered holds t) first second else old) l
    when_given true in_first in_second some t ls ms l first second after old some_first some_second of_first of_second quiet c one =
        behind in_first in_second ls ms l first after some_first of_first of_second quiet c one
    when_given false in_first in_second some t ls ms l first second after old some_first some_second of_first of_second quiet c one =
        let parts = and_parts in_first in_second c in
        absurd (never_one t ls ms l one (some_first parts.0) (some_second parts.1))

    driven_once : (p : Place) (b : ℕ) (e : Term) (old : NetTerm) (l : Live) (n : Bool) → nat_eq b x ≡ n → ((n || false) && true) ≡ true
        → (if n || false then driving p no_picks e ∷ [] else []) ≡ l ∷ [] → MayGive held e (held b) → TermWithin count e
        → IsGiven (if n then given holds x e else old) l
    driven_once p b e old l false is c one may within = absurd (cc)
    driven_once p b e old l true is c one may within =
        let here : b ≡ x = grind arith in
        let same : driving p no_picks e ≡ l = cc in
        subst (λ m. IsGiven (given holds x e) m) same (record { is = refl; may = subst (λ y. MayGive held e (held y)) here may; within = within })

    never_picked : (b : Bool) → (b && false) ≡ true → ⊥
    never_picked true e = absurd (cc)
    never_picked false e = absurd (cc)

    mutual
      one_driver : (s : LeafStatement) (k : ℕ) (old : NetTerm) (l : Live) → IsTyped held s → StatementWithin count s → covers depth x s k ≡ true
          → lives depth x s k ≡ l ∷ [] → IsGiven (driver holds depth x s k old) l
      one_driver (drive p b no_picks e) k old l typed within c one = driven_once p b e old l (nat_eq b x) refl c one typed.0 within.1
      one_driver (drive p b (pick ps q i n each) e) k old l typed within c one =
          absurd (never_picked (is_among (reached b (pick ps q i n each)) x) c)
      one_driver (when p t a b) k old l typed within c one =
          let first = driver_all holds depth x a (k + 1) old in
          when_given (nat_lt k depth) (covers_all depth x a (k + 1)) (covers_all depth x b (k + 1)) (drives_any x a || drives_any x b) t
          (lives_all depth x a (k + 1)) (lives_all depth x b (k + 1)) l first (driver_all holds depth x b (k + 1) old) (driver_all holds depth x b (k + 1) first) old
          (covered_some a (k + 1)) (covered_some b (k + 1))
          (all_driver a (k + 1) old l typed.1 within.1)
          (all_driver b (k + 1) first l typed.2 within.2)
          (λ e. quiet_driver holds depth x b (k + 1) first (none_driven b (k + 1) e))
          c one
      one_driver (instance i) k old l typed within c one = absurd (cc)

      pub all_driver : (b : LeafBlock) (k : ℕ) (old : NetTerm) (l : Live) → AreTyped held b → BlockWithin count b → covers_all depth x b k ≡ true
          → lives_all depth x b k ≡ l ∷ [] → IsGiven (driver_all holds depth x b k old) l
      all_driver done k old l typed within c one = absurd (cc)
      all_driver ((then) s b) k old l typed within c one =
          let mid = driver holds depth x s k old in
          behind (covers depth x s k) (covers_all depth x b k) (lives depth x s k) (lives_all depth x b k) l mid (driver_all holds depth x b k mid)
          (covered_statement s k)
          (one_driver s k old l typed.0 within.0)
          (all_driver b k mid l typed.1 within.1)
          (λ e. quiet_driver holds depth x b k mid (none_driven b k e))
          c one
