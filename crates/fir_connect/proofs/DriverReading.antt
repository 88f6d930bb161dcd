-- What drives a leaf that is no register reads what the statements read that are live for it, and nothing else.
use Rattle.std.proofs.Common.{◌≡◌, ℕ, ◌+◌, [], ◌∷◌, List, ◌++◌, map, Bool, true, false, ◌&&◌, ◌||◌, Option, Some, refl, inl, inr, ◌⊎◌, ⊎_elim, subst, nat_eq, nat_lt, if◌then◌else◌}
use Rattle.fir_base.specs.Lists.{In}
use Rattle.fir_base.proofs.Members.{in_either, in_left, in_right}
use Rattle.fir_ast.specs.declared.place.Place.{Place}
use Rattle.fir_meaning.specs.working.Terms.{Term, Picks, no_picks, pick}
use Rattle.fir_meaning.specs.working.TermReads.{is_among, picks_read, reached, reads}
use Rattle.fir_meaning.specs.working.TermValues.{Holds}
use Rattle.fir_meaning.specs.working.LeafBlocks.{LeafStatement, drive, when, instance, LeafBlock, done, then}
use Rattle.fir_meaning.specs.working.Choices.{Live, LiveReads, below, covers, covers_all, driving, live_reads, lives, lives_all, unless}
use Rattle.fir_meaning.specs.working.UndrivenChoices.{drives_any}
use Rattle.fir_leaf.proofs.LiveStatements.{lives_are_live}
use Rattle.fir_connect.specs.working.NetTerms.{NetTerm, choice}
use Rattle.fir_connect.specs.working.NetReads.{net_reads}
use Rattle.fir_connect.specs.working.Lowered.{Candidate, candidates, conditions, lowered}
use Rattle.fir_connect.specs.working.Drivers.{driver, driver_all, driver_of, given, start, through}
use Rattle.fir_connect.specs.working.DriverLaws.{DriverReads}
use Rattle.fir_connect.proofs.LoweredCandidates.{as_many, candidate_of, condition_in, conditions_are_some, number_in}
use Rattle.fir_connect.proofs.LoweredReads.{conditions_read}
use Rattle.fir_connect.proofs.DriverLives.{SomeLive, none_in, some_in}
use Rattle.fir_connect.proofs.AmongReached.{in_among, not_among}
use Rattle.fir_connect.proofs.DriverFollows.{Follows, Reading, follows_after, follows_choice, follows_none, nothing_reads, only_reads}
use Rattle.fir_connect.proofs.DriverThrough.{given_reads, through_candidate, through_from, through_old}

module _ (holds : Holds) (depth x y : ℕ) where
  -- a statement without indices takes the place of what stood before
  follows_direct : (p : Place) (t : Term) (old : NetTerm) (drives : Bool)
      → Follows (if drives || false then driving p no_picks t ∷ [] else []) ((drives || false) && true) old (if drives then given holds x t else old) y
  follows_direct p t old true = record {
    to = λ m. inl (record { live = driving p no_picks t; among = inl refl; is_read = (given_reads holds x t y).0 m });
    live = λ r. (given_reads holds x t y).1 (only_reads (driving p no_picks t) y r);
    kept = λ c m. absurd cc;
  }
  follows_direct p t old false = follows_none old y

  -- one through indices reads them, and what stood before
  follows_through : (p : Place) (b : ℕ) (ps : Picks) (q : Place) (i : Term) (n each : ℕ) (t : Term) (old : NetTerm) (among : Bool)
      → is_among (reached b (pick ps q i n each)) x ≡ among
      → Follows (if among then driving p (pick ps q i n each) t ∷ [] else []) (among && false) old
      (through holds depth x (candidates (reached b (pick ps q i n each)) (conditions holds (pick ps q i n each))) (given holds x t) old) y
  follows_through p b ps q i n each t old among is = by among is
    where
      whole : Picks
      whole = pick ps q i n each

      xs : List ℕ
      xs = reached b whole

      cs : List (Option NetTerm)
      cs = conditions holds whole

      found : List Candidate
      found = candidates xs cs

      l : Live
      l = driving p whole t

      e : NetTerm
      e = given holds x t

      new : NetTerm
      new = through holds depth x found e old

      is_read : (c : Candidate) → In found c → In (net_reads c.condition) y ⊎ In (net_reads e) y → In (live_reads l) y
      is_read c m r =
          ⊎_elim
          (λ (o : In (net_reads c.condition) y).
          in_left (picks_read whole) (reads t) y ((conditions_read holds whole (Some c.condition) (condition_in xs cs c m) y).0 o))
          (λ (o : In (net_reads e) y). in_right (picks_read whole) (reads t) y ((given_reads holds x t y).0 o))
          r

      is_there : In xs x → In (live_reads l) y → In (net_reads new) y
      is_there m r =
          let of = candidate_of xs cs x (as_many holds b whole) (conditions_are_some holds ps q i n each) m in
          through_candidate holds depth x e y found old of.candidate of.is_found of.of_leaf
          (⊎_elim
          (λ (o : In (picks_read whole) y).
          inl ((conditions_read holds whole (Some of.candidate.condition) (condition_in xs cs of.candidate of.is_found) y).1 o))
          (λ (o : In (reads t) y). inr ((given_reads holds x t y).1 o))
          (in_either (picks_read whole) (reads t) y r))

      by : (among : Bool) → is_among xs x ≡ among → Follows (if among then l ∷ [] else []) (among && false) old new y
      by true is = record {
        to = λ m. through_from holds depth x e y found old (Reading (l ∷ []) y ⊎ (((true && false) ≡ false) × In (net_reads old) y)) (λ o. inr (refl, o))
            (λ c k same r. inl (record { live = l; among = inl refl; is_read = is_read c k r }))
            m;
        live = λ r. is_there (in_among xs x is) (only_reads l y r);
        kept = λ c m. through_old holds depth x e y found old m;
      }
      by false is = record {
        to = λ m. through_from holds depth x e y found old (Reading [] y ⊎ (((false && false) ≡ false) × In (net_reads old) y)) (λ o. inr (refl, o))
            (λ c k same r. absurd (not_among xs x is (subst (In xs) same (number_in xs cs c k))))
            m;
        live = λ r. absurd (nothing_reads y r);
        kept = λ c m. through_old holds depth x e y found old m;
      }

  when_follows : (early drives covered_first covered_second : Bool) (c : Term) (ls ms : List Live) (old first second after : NetTerm)
      → (drives ≡ true → SomeLive (ls ++ ms))
      → (drives ≡ false → (ls ≡ []) × (ms ≡ []) × (covered_first ≡ false))
      → Follows ls covered_first old first y → Follows ms covered_second old second y → Follows ms covered_second first after y
      → Follows (if early then unless covered_second ls ++ ms else map (below c) (ls ++ ms))
      (if early then covered_second || covered_first else covered_first && covered_second) old
      (if early then after else if drives then choice holds (lowered holds c) first second else old) y
  when_follows true drives covered_first covered_second c ls ms old first second after some none f g h =
      follows_after covered_first covered_second ls ms old first after y f h
  when_follows false true covered_first covered_second c ls ms old first second after some none f g h =
      follows_choice holds c covered_first covered_second ls ms old first second y (some refl) f g
  when_follows false false covered_first covered_second c ls ms old first second after some none f g h =
      let empty = none refl in
      rw (empty.0, empty.1, empty.2) (follows_none old y)

  mutual
    follows : (s : LeafStatement) (k : ℕ) (old : NetTerm) → Follows (lives depth x s k) (covers depth x s k) old (driver holds depth x s k old) y
    follows (drive p b no_picks t) k old = follows_direct p t old (nat_eq b x)
    follows (drive p b (pick ps q i n each) t) k old = follows_through p b ps q i n each t old (is_among (reached b (pick ps q i n each)) x) refl
    follows (when p c a b) k old =
        when_follows (nat_lt k depth) (drives_any x a || drives_any x b) (covers_all depth x a (k + 1)) (covers_all depth x b (k + 1)) c
        (lives_all depth x a (k + 1)) (lives_all depth x b (k + 1)) old (driver_all holds depth x a (k + 1) old) (driver_all holds depth x b (k + 1) old)
        (driver_all holds depth x b (k + 1) (driver_all holds depth x a (k + 1) old))
        (some_in depth x a b (k + 1)) (none_in depth x a b (k + 1))
        (follows_all a (k + 1) old) (follows_all b (k + 1) old) (follows_all b (k + 1) (driver_all holds depth x a (k + 1) old))
    follows (instance i) k old = follows_none old y

    follows_all : (b : LeafBlock) (k : ℕ) (old : NetTerm) → Follows (lives_all depth x b k) (covers_all depth x b k) old (driver_all holds depth x b k old) y
    follows_all done k old = follows_none old y
    follows_all ((then) s b) k old =
        follows_after (covers depth x s k) (covers_all depth x b k) (lives depth x s k) (lives_all depth x b k) old (driver holds depth x s k old)
        (driver_all holds depth x b k (driver holds depth x s k old)) y (follows s k old) (follows_all b k (driver holds depth x s k old))

-- a sink starts with a number, which reads nothing
pub driver_reads : DriverReads
driver_reads holds depth b x y = (to, from)
  where
    f : Follows (lives_all (depth x) x b 0) (covers_all (depth x) x b 0) (start holds false x) (driver_of holds (depth x) false b x) y
    f = follows_all holds (depth x) x y b 0 (start holds false x)

    to : In (net_reads (driver_of holds (depth x) false b x)) y → LiveReads (depth x) x b y
    to m =
        ⊎_elim
        (λ (r : Reading (lives_all (depth x) x b 0) y). record { live = r.live; is_live = (lives_are_live (depth x) x b r.live).0 r.among; read = r.is_read })
        (λ (k : (covers_all (depth x) x b 0 ≡ false) × In (net_reads (start holds false x)) y). absurd k.1)
        (f.to m)

    from : LiveReads (depth x) x b y → In (net_reads (driver_of holds (depth x) false b x)) y
    from l = f.live (record { live = l.live; among = (lives_are_live (depth x) x b l.live).1 l.is_live; is_read = l.read })
