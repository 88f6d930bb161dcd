-- The terms of a module's net read leaves of the module; so each is renumbered alike by numberings that agree on these.
use Rattle.std.proofs.Common.{◌≡◌, ℕ, ◌+◌, ◌<◌, List, [], ◌∷◌, map, length, Bool, true, false, nat_eq, nat_lt, if◌then◌else◌, Option, Some, None, refl, ap, ap₂, subst, inl, inr, arith, ◌||◌}
use Rattle.fir_base.specs.Lists.{In}
use Rattle.fir_base.proofs.Members.{in_flat_map_from, in_map_from}
use Rattle.fir_bits.specs.declared.types.NumTy.{NumTy}
use Rattle.fir_ast.specs.declared.place.Place.{Place}
use Rattle.fir_meaning.specs.working.LeafBlocks.{LeafBlock, LeafStatement, done, drive, instance, then, when}
use Rattle.fir_meaning.specs.working.LeafModules.{LeafModule}
use Rattle.fir_meaning.specs.working.TermReads.{reached}
use Rattle.fir_meaning.specs.working.TermValues.{Holds}
use Rattle.fir_meaning.specs.working.Terms.{Term, zeros, absent, literal, read, operation, mux, validif, Picks, no_picks, pick, Terms, no_terms, term}
use Rattle.fir_meaning.specs.working.UndrivenChoices.{drives_any}
use Rattle.fir_leaf.specs.working.SoundDesigns.{IsRead}
use Rattle.fir_connect.specs.working.Drivers.{driven_by, driver, driver_all, driver_of, given, start, through}
use Rattle.fir_connect.specs.working.Lowered.{Candidate, both, candidates, conditions, first_met, is_number, lowered, lowered_each, numbers_from, unpicked, without, zero_of}
use Rattle.fir_connect.specs.working.MovedTerms.{renumbered, renumbered_each}
use Rattle.fir_connect.specs.working.NetTerms.{NetTerm, NetTerms}
use Rattle.fir_connect.specs.working.NetTerms as net
use Rattle.fir_design_faults.proofs.AllTerms.{AllPicksIn, AllTermIn, AllTermsIn}
use Rattle.fir_design_faults.proofs.MovedReads.{reached_between}
use Rattle.fir_design_faults.proofs.ReadStatements.{AreReading, IsReading}

module _ (m : LeafModule) where
  abbrev mutual
    pub NetIn : NetTerm → Type 0
    NetIn (net.value v) = Unit {0}
    NetIn (net.leaf x) = x < length m.leaves
    NetIn (net.operation op ts ks t) = NetsIn ts
    NetIn (net.mux c a b t) = NetIn c × NetIn a × NetIn b

    pub NetsIn : NetTerms → Type 0
    NetsIn net.no_terms = Unit {0}
    NetsIn (net.term t ts) = NetIn t × NetsIn ts

  module _ (f g : ℕ → ℕ) (same : (x : ℕ) → x < length m.leaves → f x ≡ g x) where
    mutual
      pub renumbered_alike : (t : NetTerm) → NetIn t → renumbered f t ≡ renumbered g t
      renumbered_alike (net.value v) h = refl
      renumbered_alike (net.leaf x) h = ap net.leaf (same x h)
      renumbered_alike (net.operation op ts ks t) h = ap (λ us. net.operation op us ks t) (each_alike ts h)
      renumbered_alike (net.mux c a b t) h = rw (renumbered_alike c h.0, renumbered_alike a h.1, renumbered_alike b h.2) refl

      each_alike : (ts : NetTerms) → NetsIn ts → renumbered_each f ts ≡ renumbered_each g ts
      each_alike net.no_terms h = refl
      each_alike (net.term t ts) h = ap₂ (λ u us. net.term u us) (renumbered_alike t h.0) (each_alike ts h.1)

  reached_in : (b : ℕ) (ps : Picks) → IsRead m b ps → (x : ℕ) → In (reached b ps) x → x < length m.leaves
  reached_in b ps h x among = omega (arith, (reached_between b ps x among).1, h.within)

  module _ (holds : Holds) where
    -- conditions, and leaves with their conditions
    abbrev MayIn : Option NetTerm → Type 0
    MayIn None = Unit {0}
    MayIn (Some c) = NetIn c

    abbrev CandidateIn : Candidate → Type 0
    CandidateIn c = (c.number < length m.leaves) × NetIn c.condition

    both_in : (e : Option NetTerm) (c : NetTerm) → MayIn e → NetIn c → NetIn (both e c)
    both_in None c h k = k
    both_in (Some d) c h k = (h, (k, tt))

    candidates_in : (xs : List ℕ) (cs : List (Option NetTerm)) → ((x : ℕ) → In xs x → x < length m.leaves) → ((o : Option NetTerm) → In cs o → MayIn o)
        → (c : Candidate) → In (candidates xs cs) c → CandidateIn c
    candidates_in [] cs h k c i = absurd i
    candidates_in (x ∷ xs) [] h k c i = absurd i
    candidates_in (x ∷ xs) (None ∷ cs) h k c i = absurd i
    candidates_in (x ∷ xs) (Some d ∷ cs) h k c (inl e) = subst CandidateIn e (h x (inl refl), k (Some d) (inl refl))
    candidates_in (x ∷ xs) (Some d ∷ cs) h k c (inr i) = candidates_in xs cs (λ y j. h y (inr j)) (λ o j. k o (inr j)) c i

    first_in : (t : NumTy) (other : NetTerm) (cs : List Candidate) → NetIn other → ((c : Candidate) → In cs c → CandidateIn c)
        → NetIn (first_met holds t other cs)
    first_in t other [] h k = h
    first_in t other (c ∷ cs) h k =
        let here = k c (inl refl) in (here.1, here.0, first_in t other cs h (λ d j. k d (inr j)))

    without_in : (cs : List Candidate) (none some : NetTerm) → NetIn none → NetIn some → NetIn (without holds cs none some)
    without_in [] none some h k = h
    without_in (c ∷ cs) none some h k = k

    -- the test of each number of an index
    one_more_in : (ps : Picks) (p : Place) (i : Term) (n each : ℕ) → NetIn (lowered holds i) → ((o : Option NetTerm) → In (conditions holds ps) o → MayIn o)
        → (o : Option NetTerm) → In (conditions holds (pick ps p i n each)) o → MayIn o
    one_more_in ps p i n each h k o among =
        let from = in_flat_map_from (λ e. map (λ j. Some (both e (is_number (lowered holds i) j))) (numbers_from 0 n)) (conditions holds ps) o among in
        let number = in_map_from (λ j. Some (both from.0 (is_number (lowered holds i) j))) (numbers_from 0 n) o from.2 in
        subst MayIn number.2 (both_in from.0 (is_number (lowered holds i) number.0) (k from.0 from.1) (h, (tt, tt)))

    mutual
      pub lowered_in : (t : Term) → AllTermIn m t → NetIn (lowered holds t)
      lowered_in zeros h = tt
      lowered_in (absent t ps) h = unpicked_in ps h (zero_of t) tt
      lowered_in (literal l) h = tt
      lowered_in (read b no_picks) h = h.0.within
      lowered_in (read b (pick ps p i n each)) h =
          let whole = pick ps p i n each in
          let found = candidates (reached b whole) (conditions holds whole) in
          first_in (holds b) (without holds found (unpicked holds whole (zero_of (holds b))) (zero_of (holds b))) found
          (without_in found (unpicked holds whole (zero_of (holds b))) (zero_of (holds b))
          ((lowered_in i h.1.1, tt), unpicked_in ps h.1.0 (zero_of (holds b)) tt, tt) tt)
          (candidates_in (reached b whole) (conditions holds whole) (reached_in b whole h.0)
          (one_more_in ps p i n each (lowered_in i h.1.1) (conditions_in ps h.1.0)))
      lowered_in (operation op ts ks) h = each_in ts h
      lowered_in (mux c a b) h = (lowered_in c h.0, lowered_in a h.1, lowered_in b h.2)
      lowered_in (validif c a) h = (lowered_in c h.0, lowered_in a h.1, tt)

      each_in : (ts : Terms) → AllTermsIn m ts → NetsIn (lowered_each holds ts)
      each_in no_terms h = tt
      each_in (term t ts) h = (lowered_in t h.0, each_in ts h.1)

      pub conditions_in : (ps : Picks) → AllPicksIn m ps → (o : Option NetTerm) → In (conditions holds ps) o → MayIn o
      conditions_in no_picks h o (inl e) = subst MayIn e tt
      conditions_in no_picks h o (inr i) = absurd i
      conditions_in (pick ps p i n each) h o among = one_more_in ps p i n each (lowered_in i h.1) (conditions_in ps h.0) o among

      unpicked_in : (ps : Picks) → AllPicksIn m ps → (z : NetTerm) → NetIn z → NetIn (unpicked holds ps z)
      unpicked_in no_picks h z k = k
      unpicked_in (pick ps p i n each) h z k = ((lowered_in i h.1, tt), unpicked_in ps h.0 z k, k)

    module _ (depth x : ℕ) where
      given_in : (t : Term) → AllTermIn m t → NetIn (given holds x t)
      given_in zeros h = tt
      given_in (absent t ps) h = lowered_in (absent t ps) h
      given_in (literal l) h = tt
      given_in (read b ps) h = lowered_in (read b ps) h
      given_in (operation op ts ks) h = lowered_in (operation op ts ks) h
      given_in (mux c a b) h = lowered_in (mux c a b) h
      given_in (validif c a) h = lowered_in (validif c a) h

      either_in : (b : Bool) (s t : NetTerm) → NetIn s → NetIn t → NetIn (if b then s else t)
      either_in true s t h k = h
      either_in false s t h k = k

      through_in : (cs : List Candidate) (e old : NetTerm) → ((c : Candidate) → In cs c → CandidateIn c) → NetIn e → NetIn old
          → NetIn (through holds depth x cs e old)
      through_in [] e old h k r = r
      through_in (c ∷ cs) e old h k r =
          through_in cs e (if nat_eq c.number x then _ else old) (λ d j. h d (inr j)) k
          (either_in (nat_eq c.number x) _ old ((h c (inl refl)).1, k, r) r)

      driven_in : (b : ℕ) (ps : Picks) (e old : NetTerm) → IsRead m b ps → AllPicksIn m ps → NetIn e → NetIn old
          → NetIn (driven_by holds depth x b ps e old)
      driven_in b no_picks e old h a k r = either_in (nat_eq b x) e old k r
      driven_in b (pick ps p i n each) e old h a k r =
          let whole = pick ps p i n each in
          through_in (candidates (reached b whole) (conditions holds whole)) e old
          (candidates_in (reached b whole) (conditions holds whole) (reached_in b whole h) (conditions_in whole a)) k r

      mutual
        statement_in : (s : LeafStatement) (k : ℕ) (old : NetTerm) → IsReading m s → NetIn old → NetIn (driver holds depth x s k old)
        statement_in (drive p b ps t) k old h r = driven_in b ps (given holds x t) old h.0 h.1 (given_in t h.2) r
        statement_in (when p c a b) k old h r =
            let first = block_in a (k + 1) old h.1 r in
            either_in (nat_lt k depth) (driver_all holds depth x b (k + 1) (driver_all holds depth x a (k + 1) old)) _
            (block_in b (k + 1) (driver_all holds depth x a (k + 1) old) h.2 first)
            (either_in (drives_any x a || drives_any x b) _ old (lowered_in c h.0, first, block_in b (k + 1) old h.2 r) r)
        statement_in (instance i) k old h r = r

        pub block_in : (b : LeafBlock) (k : ℕ) (old : NetTerm) → AreReading m b → NetIn old → NetIn (driver_all holds depth x b k old)
        block_in done k old h r = r
        block_in ((then) s b) k old h r = block_in b k (driver holds depth x s k old) h.1 (statement_in s k old h.0 r)

    -- what drives a leaf of the module
    pub driver_in : (depth x : ℕ) (b : LeafBlock) (is_register : Bool) → AreReading m b → x < length m.leaves → NetIn (driver_of holds depth is_register b x)
    driver_in depth x b is_register h lt = block_in depth x b 0 (start holds is_register x) h (starts is_register)
      where
        starts : (r : Bool) → NetIn (start holds r x)
        starts true = lt
        starts false = tt
