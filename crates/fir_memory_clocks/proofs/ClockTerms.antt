-- In a clear module what gives a clock leaf its clock is a leaf in the net exactly where it is that leaf in the module.
use Rattle.std.proofs.Common.{◌≡◌, ℕ, ◌<◌, List, [], ◌∷◌, ◌++◌, length, Bool, true, false, refl, sym, ap, ◌∙◌, subst, inl, inr}
use Rattle.std.specs.Prelude.{flat_map}
use Rattle.fir_base.proofs.Empty.{empty_left, empty_right}
use Rattle.fir_ast.specs.declared.place.Place.{Place}
use Rattle.fir_bits.specs.declared.types.NumTy.{NumTy}
use Rattle.fir_meaning.specs.LeafTypes.{LeafType, a_clock}
use Rattle.fir_meaning.specs.working.Choices.{Live, covers_all}
use Rattle.fir_meaning.specs.working.LeafModules.{LeafModule, Role, depth_at, is_sink, role_at, sink}
use Rattle.fir_meaning.specs.working.TermValues.{Holds}
use Rattle.fir_meaning.specs.working.Terms.{Term, absent, literal, mux, no_picks, operation, pick, read, validif, zeros}
use Rattle.fir_leaf.specs.working.ClockFaults.{clock_places, index_places, live_places, picking_places}
use Rattle.fir_leaf.specs.working.ClockRoots.{lives_of}
use Rattle.fir_leaf.specs.working.ModuleCircuits.{module_circuit}
use Rattle.fir_leaf.proofs.FirstPlaces.{has_first}
use Rattle.fir_leaf_types.specs.working.TypedBlocks.{MayGive}
use Rattle.fir_leaf_types.specs.working.TypedModules.{held_in}
use Rattle.fir_leaf_types.specs.working.TypedTerms.{HasType}
use Rattle.fir_connect.specs.working.Drivers.{driver_of, given, start}
use Rattle.fir_connect.specs.working.Lowered.{lowered, zero_of}
use Rattle.fir_connect.specs.working.NetRoles.{net_types}
use Rattle.fir_connect.specs.working.NetTerms.{NetTerm, leaf}
use Rattle.fir_connect.proofs.GivenTerms.{given_clock, of_given}
use Rattle.fir_design_faults.proofs.MarkedPieces.{missed_all}
use Rattle.fir_memory_clocks.specs.working.ModuleMemories.{IsClearModule}
use Rattle.fir_memory_clocks.proofs.OneDrivers.{all_driver, covered_some}

-- a list with an element behind has one
ends_in : (ps : List Place) (p : Place) → ps ++ p ∷ [] ≡ [] → ⊥
ends_in ps p e = let none : p ∷ [] ≡ [] = empty_right ps (p ∷ []) e in absurd (cc)

-- a term, and what it is in the net
pub record IsClockTerm (held : ℕ → LeafType) (t : Term) (n : NetTerm) : Type 0 where
  pub forth : (y : ℕ) → n ≡ leaf y → (t ≡ read y no_picks) × (held y ≡ a_clock)
  pub back : (y : ℕ) → t ≡ read y no_picks → n ≡ leaf y

module _ (held : ℕ → LeafType) (holds : Holds) where
  zeros_term : (u : NumTy) → IsClockTerm held zeros (zero_of u)
  zeros_term u = record { forth = λ y e. absurd (cc); back = λ y e. absurd (cc) }

  -- a term for a clock, without indices
  pub clock_term : (t : Term) → HasType held t a_clock → picking_places t ≡ [] → IsClockTerm held t (lowered holds t)
  clock_term zeros h e = absurd h
  clock_term (absent u no_picks) h e = record { forth = λ y f. absurd (cc); back = λ y f. absurd (cc) }
  clock_term (absent u (pick ps p i n each)) h e = absurd (ends_in (index_places ps) p e)
  clock_term (literal l) h e = let other = h.0 in absurd (cc)
  clock_term (read b no_picks) h e = record {
    forth = λ y f. let same : b ≡ y = cc in (ap (λ z. read z no_picks) same, subst (λ z. held z ≡ a_clock) same h.0);
    back = λ y f. let same : b ≡ y = cc in ap leaf same;
  }
  clock_term (read b (pick ps p i n each)) h e = absurd (ends_in (index_places ps) p e)
  clock_term (operation op ts ks) h e = let other = h.4 in absurd (cc)
  clock_term (mux k a b) h e = let other = h.6 in absurd (cc)
  clock_term (validif k a) h e = let other = h.3 in absurd (cc)

  -- what a statement may give to a clock leaf
  record MayClock (t : Term) : Type 0 where
    may : MayGive held t a_clock
    none : picking_places t ≡ []

  given_term : (x : ℕ) (t : Term) → MayClock t → IsClockTerm held t (given holds x t)
  given_term x =
      of_given holds x MayClock (λ e t. IsClockTerm held e t) (zeros_term (holds x))
      (λ e some may. clock_term e (given_clock held e some may.may) may.none)

module _ (m : LeafModule) (k : IsClearModule m) where
  -- no index picks a clock for a leaf
  none_pick : (x : ℕ) → x < length m.leaves → clock_places (module_circuit m) x (held_in m x) (role_at m x) ≡ []
  none_pick x lt = go (clock_places (module_circuit m) x (held_in m x) (role_at m x)) refl
    where
      go : (ps : List Place) → clock_places (module_circuit m) x (held_in m x) (role_at m x) ≡ ps
          → clock_places (module_circuit m) x (held_in m x) (role_at m x) ≡ []
      go [] e = e
      go (p ∷ ps) e =
          let r = has_first p ps in
          absurd (k.clear x _ lt (inl (record { index = r.place; first = rw e r.is_first; is = refl })))

  pub none_by : (x : ℕ) → x < length m.leaves → (h : LeafType) (r : Role) → held_in m x ≡ h → role_at m x ≡ r
      → clock_places (module_circuit m) x h r ≡ []
  none_by x lt h r is role = rw (← role, ← is) (none_pick x lt)

  covers : (x : ℕ) → x < length m.leaves → role_at m x ≡ sink → covers_all (depth_at m x) x m.body 0 ≡ true
  covers x lt is = go (covers_all (depth_at m x) x m.body 0) refl
    where
      go : (b : Bool) → covers_all (depth_at m x) x m.body 0 ≡ b → b ≡ true
      go true e = refl
      go false e =
          let missed = missed_all (depth_at m x) x m.body 0 e in
          absurd (k.driven x lt (ap is_sink is) missed.0 missed.1)

  -- just one statement is live for a clock leaf that statements drive
  pub record HasOne (x : ℕ) : Type 0 where
    pub live : Live
    pub only : lives_of (module_circuit m) x ≡ live ∷ []
    pub term : IsClockTerm (held_in m) live.given (driver_of (net_types m) (depth_at m x) false m.body x)

  of_lives : (x : ℕ) → x < length m.leaves → held_in m x ≡ a_clock → role_at m x ≡ sink → (ls : List Live) → lives_of (module_circuit m) x ≡ ls → HasOne x
  of_lives x lt is role [] e = absurd (covered_some (depth_at m x) x m.body 0 (covers x lt role) e)
  of_lives x lt is role (l ∷ []) e =
      let holds = net_types m in
      let none : live_places l ++ [] ≡ [] = sym (ap (flat_map live_places) e) ∙ none_by x lt a_clock sink is role in
      let given_none : picking_places l.given ≡ [] = empty_right (index_places l.through) (picking_places l.given) (empty_left (live_places l) [] none) in
      let one = all_driver (depth_at m x) x holds (held_in m) (length m.leaves) m.body 0 (start holds false x) l k.typed.body k.within (covers x lt role) e in
      record {
        live = l;
        only = e;
        term =
            subst (IsClockTerm (held_in m) l.given) (sym one.is)
            (given_term (held_in m) holds x l.given (record { may = subst (MayGive (held_in m) l.given) is one.may; none = given_none }));
      }
  of_lives x lt is role (l ∷ n ∷ rest) e =
      absurd (k.clear x _ lt (inr (record {
        is_clock = is;
        is_sink = role;
        none_picks = none_by x lt a_clock sink is role;
        first = l;
        second = n;
        rest = rest;
        lives = e;
        is = refl;
      })))

  pub has_one : (x : ℕ) → x < length m.leaves → held_in m x ≡ a_clock → role_at m x ≡ sink → HasOne x
  has_one x lt is role = of_lives x lt is role (lives_of (module_circuit m) x) refl
