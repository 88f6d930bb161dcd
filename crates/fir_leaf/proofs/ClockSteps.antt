-- Where no E25 stands, one term gives the clock of a clock leaf.
use Rattle.std.proofs.Common.{◌≡◌, ℕ, List, [], ◌∷◌, ◌++◌, flat_map, true, Option, Some, None, refl, sym, ap, ◌∙◌, subst, inl, inr}
use Rattle.fir_base.specs.Lists.{In}
use Rattle.fir_ast.specs.declared.place.Place.{Place}
use Rattle.fir_ast.specs.Faults.{Fault}
use Rattle.fir_meaning.specs.working.Terms.{Term, absent, literal, mux, no_picks, operation, pick, read, validif, zeros}
use Rattle.fir_meaning.specs.working.Choices.{Live, last_all}
use Rattle.fir_meaning.specs.working.LeafModules.{Role, computed, leaf_at, pipe, reading, register, sink, source}
use Rattle.fir_meaning.specs.LeafTypes.{a_clock}
use Rattle.fir_meaning.specs.working.LeafCircuits.{LeafCircuit, depth_of, role_of}
use Rattle.fir_leaf.specs.working.ClockRoots.{GivesClock, IsClockLeaf, lives_of}
use Rattle.fir_leaf.specs.working.ClockFaults.{ShowsClockFault, clock_places, index_places, live_places, picking_places}
use Rattle.fir_leaf.specs.working.FaultLaws.{FaultlessHasStep, HasStep, IsClockTerm, IsGiven, IsPlainClock}
use Rattle.fir_leaf.proofs.FirstPlaces.{has_first}
use Rattle.fir_leaf.proofs.LiveStatements.{live_all}
use Rattle.fir_leaf.proofs.RootClocks.{gives_once}

-- a list with an element behind has one
ends_in : (ps : List Place) (p : Place) → ps ++ p ∷ [] ≡ [] → ⊥
ends_in [] p e = absurd cc
ends_in (q ∷ ps) p e = absurd cc

no_end : (ps qs : List Place) → ps ++ qs ≡ [] → qs ≡ []
no_end [] qs e = e
no_end (p ∷ ps) qs e = absurd cc

no_start : (ps qs : List Place) → ps ++ qs ≡ [] → ps ≡ []
no_start [] qs e = refl
no_start (p ∷ ps) qs e = absurd cc

-- a term for a clock without indices
plain : (t : Term) → IsClockTerm t → picking_places t ≡ [] → IsPlainClock t
plain zeros k e = tt
plain (read y no_picks) k e = tt
plain (read y (pick ps p i n each)) k e = ends_in (index_places ps) p e
plain (absent t no_picks) k e = absurd cc
plain (absent t (pick ps p i n each)) k e = ends_in (index_places ps) p e
plain (literal l) k e = k
plain (operation op ts ks) k e = k
plain (mux c a b) k e = k
plain (validif c a) k e = k

module _ (c : LeafCircuit) (x : ℕ) (faultless : (f : Fault) → ShowsClockFault c f → ⊥) (is : IsClockLeaf c x) where
  -- no index picks the leaf's clock
  none_pick : clock_places c x (leaf_at c.leaves x).holds (role_of c x) ≡ []
  none_pick = go (clock_places c x (leaf_at c.leaves x).holds (role_of c x)) refl
    where
      go : (ps : List Place) → clock_places c x (leaf_at c.leaves x).holds (role_of c x) ≡ ps
          → clock_places c x (leaf_at c.leaves x).holds (role_of c x) ≡ []
      go [] e = e
      go (p ∷ ps) e =
          let r = has_first p ps in
          absurd (faultless _ (record {
            leaf = x;
            within = is.within;
            shows = inl (record { index = r.place; first = rw e r.is_first; is = refl });
          }))

  none_by_role : (r : Role) → role_of c x ≡ r → clock_places c x a_clock r ≡ []
  none_by_role r e = rw (← e, ← is.is_clock) none_pick

  step : (t : Term) → GivesClock c x (role_of c x) t → IsPlainClock t → HasStep c x
  step t gives is_plain = record { given = t; gives = gives; only = λ other h. gives_once c x (role_of c x) other t h gives; plain = is_plain }

  -- of a sink, by the list of live statements
  of_lives : role_of c x ≡ sink → IsGiven c x sink → (ls : List Live) → lives_of c x ≡ ls → HasStep c x
  of_lives is_sink given [] e = go (last_all (depth_of c x) x c.body 0 (λ way. true)) refl
    where
      go : (o : Option Live) → last_all (depth_of c x) x c.body 0 (λ way. true) ≡ o → HasStep c x
      go None h = absurd (given.0 (λ way. true) h)
      go (Some l) h =
          let m : In [] l = subst (λ (ls : List Live). In ls l) e (live_all (depth_of c x) x c.body 0 (λ way. true) l h) in
          absurd m
  of_lives is_sink given (l ∷ []) e =
      let here : In (lives_of c x) l = subst (λ (ls : List Live). In ls l) (sym e) (inl refl) in
      let none : live_places l ++ [] ≡ [] = sym (ap (flat_map live_places) e) ∙ none_by_role sink is_sink in
      let given_none : picking_places l.given ≡ [] = no_end (index_places l.through) (picking_places l.given) (no_start (live_places l) [] none) in
      let gives : GivesClock c x (role_of c x) l.given = rw is_sink (record { live = l; only = e; gives = refl }) in
      step l.given gives (plain l.given (given.1 l here) given_none)
  of_lives is_sink given (l ∷ m ∷ rest) e =
      absurd (faultless _ (record {
        leaf = x;
        within = is.within;
        shows = inr (record {
          is_clock = is.is_clock;
          is_sink = is_sink;
          none_picks = none_by_role sink is_sink;
          first = l;
          second = m;
          rest = rest;
          lives = e;
          is = refl;
        });
      }))

  by_role : (r : Role) → role_of c x ≡ r → IsGiven c x r → HasStep c x
  by_role sink e given = of_lives e given (lives_of c x) refl
  by_role (computed t) e given =
      let gives : GivesClock c x (role_of c x) t = rw e refl in
      step t gives (plain t given (none_by_role (computed t) e))
  by_role source e given = absurd given
  by_role (register k s) e given = absurd given
  by_role (reading s) e given = absurd given
  by_role (pipe s k u) e given = absurd given

pub faultless_has_step : FaultlessHasStep
faultless_has_step c x faultless is given = by_role c x faultless is (role_of c x) refl given
