-- Where no clock of a circuit is unclear, what gives a clock leaf its clock is one leaf, or no clock; and the clock of a register is a leaf.
use Rattle.std.proofs.Common.{◌≡◌, ℕ, ◌<◌, List, [], ◌∷◌, ◌++◌, length, Bool, true, false, Some, None, refl, sym, ap, ◌∙◌, subst, inl, inr}
use Rattle.std.specs.Prelude.{flat_map}
use Rattle.fir_base.proofs.Empty.{empty_left, empty_right}
use Rattle.fir_ast.specs.declared.place.Place.{Place}
use Rattle.fir_ast.specs.Faults.{Fault}
use Rattle.fir_bits.specs.declared.types.NumTy.{NumTy}
use Rattle.fir_meaning.specs.LeafTypes.{LeafType, a_clock, number}
use Rattle.fir_meaning.specs.Values.{number_of}
use Rattle.fir_meaning.specs.working.Choices.{Live, covers_all}
use Rattle.fir_meaning.specs.working.LeafCircuits.{LeafCircuit, role_of}
use Rattle.fir_meaning.specs.working.LeafModules.{Role, computed, depth_at, is_sink, leaf_at, pipe, reading, register, role_at, sink, source}
use Rattle.fir_meaning.specs.working.Terms.{Term, absent, literal, mux, no_picks, operation, pick, read, validif, zeros}
use Rattle.fir_meaning.specs.working.UndrivenLeaves.{AreDriven}
use Rattle.fir_leaf.specs.working.ClockFaults.{ShowsClockFault, clock_places, index_places, live_places, picking_places}
use Rattle.fir_leaf.specs.working.ClockRoots.{lives_of}
use Rattle.fir_leaf.specs.working.LeafNumbers.{TermWithin}
use Rattle.fir_leaf.proofs.FirstPlaces.{has_first}
use Rattle.fir_leaf_types.specs.working.TypedBlocks.{MayGive}
use Rattle.fir_leaf_types.specs.working.TypedModules.{IsModuleTyped, IsRoleTyped, held_in}
use Rattle.fir_leaf_types.specs.working.TypedTerms.{HasType}
use Rattle.fir_connect.specs.working.CircuitModules.{as_module}
use Rattle.fir_connect.specs.working.Drivers.{driver_of, given, start}
use Rattle.fir_connect.specs.working.Lowered.{lowered, zero_of}
use Rattle.fir_connect.specs.working.NetRoles.{net_role, net_role_at, net_types}
use Rattle.fir_connect.specs.working.NetTerms.{leaf}
use Rattle.fir_connect.proofs.GivenTerms.{given_clock, of_given}
use Rattle.fir_design_faults.proofs.MarkedPieces.{missed_all}
use Rattle.fir_flat.specs.working.WholeRoles.{IsModuleWithin, IsRoleWithin}
use Rattle.fir_flatten.specs.working.FlatDesigns.{IsClear, IsClockLeaf, IsClockTerm}
use Rattle.fir_flatten.proofs.OneDrivers.{all_driver, covered_some}
use Rattle.fir_flatten.specs.working.ClearClocks.{HasClockBehind, StandsBehind}

-- a list with an element behind has one
ends_in : (ps : List Place) (p : Place) → ps ++ p ∷ [] ≡ [] → ⊥
ends_in ps p e = let none : p ∷ [] ≡ [] = empty_right ps (p ∷ []) e in absurd (cc)

module _ (c : LeafCircuit) where
  zero_clock : (u : NumTy) → IsClockTerm c (zero_of u)
  zero_clock u = (None, (number_of u 0, refl), tt)

  -- a term for a clock, without indices
  clock_term : (t : Term) → HasType (held_in (as_module c)) t a_clock → TermWithin (length c.leaves) t → picking_places t ≡ []
      → IsClockTerm c (lowered (net_types (as_module c)) t)
  clock_term zeros h w e = absurd h
  clock_term (absent u no_picks) h w e = zero_clock u
  clock_term (absent u (pick ps p i n each)) h w e = absurd (ends_in (index_places ps) p e)
  clock_term (literal l) h w e = let other = h.0 in absurd (cc)
  clock_term (read b no_picks) h w e = (Some b, refl, (w.0, h.0))
  clock_term (read b (pick ps p i n each)) h w e = absurd (ends_in (index_places ps) p e)
  clock_term (operation op ts ks) h w e = let other = h.4 in absurd (cc)
  clock_term (mux k a b) h w e = let other = h.6 in absurd (cc)
  clock_term (validif k a) h w e = let other = h.3 in absurd (cc)

  -- where it stands behind an index if it is not there, it is a leaf
  clock_leaf : (t : Term) → HasType (held_in (as_module c)) t a_clock → TermWithin (length c.leaves) t → picking_places t ≡ [] → StandsBehind t
      → (y : ℕ) × (lowered (net_types (as_module c)) t ≡ leaf y) × IsClockLeaf c (Some y)
  clock_leaf zeros h w e behind = absurd h
  clock_leaf (absent u no_picks) h w e behind = absurd (cc)
  clock_leaf (absent u (pick ps p i n each)) h w e behind = absurd (ends_in (index_places ps) p e)
  clock_leaf (literal l) h w e behind = let other = h.0 in absurd (cc)
  clock_leaf (read b no_picks) h w e behind = (b, refl, (w.0, h.0))
  clock_leaf (read b (pick ps p i n each)) h w e behind = absurd (ends_in (index_places ps) p e)
  clock_leaf (operation op ts ks) h w e behind = let other = h.4 in absurd (cc)
  clock_leaf (mux k a b) h w e behind = let other = h.6 in absurd (cc)
  clock_leaf (validif k a) h w e behind = let other = h.3 in absurd (cc)

  -- what a statement may give to a clock leaf
  record MayClock (t : Term) : Type 0 where
    may : MayGive (held_in (as_module c)) t a_clock
    within : TermWithin (length c.leaves) t
    none : picking_places t ≡ []

  given_term : (x : ℕ) (t : Term) → MayClock t → IsClockTerm c (given (net_types (as_module c)) x t)
  given_term x =
      of_given (net_types (as_module c)) x MayClock (λ e t. IsClockTerm c t) (zero_clock (net_types (as_module c) x))
      (λ e some may. clock_term e (given_clock (held_in (as_module c)) e some may.may) may.within may.none)

  module _ (faultless : (f : Fault) → ShowsClockFault c f → ⊥) (typed : IsModuleTyped (as_module c)) (within : IsModuleWithin (as_module c))
      (driven : AreDriven (as_module c)) (behind : (x : ℕ) → x < length c.leaves → HasClockBehind (role_of c x)) where
    -- no index picks a clock for a leaf
    none_pick : (x : ℕ) → x < length c.leaves → clock_places c x (leaf_at c.leaves x).holds (role_of c x) ≡ []
    none_pick x lt = go (clock_places c x (leaf_at c.leaves x).holds (role_of c x)) refl
      where
        go : (ps : List Place) → clock_places c x (leaf_at c.leaves x).holds (role_of c x) ≡ ps
            → clock_places c x (leaf_at c.leaves x).holds (role_of c x) ≡ []
        go [] e = e
        go (p ∷ ps) e =
            let r = has_first p ps in
            absurd (faultless _ (record {
              leaf = x;
              within = lt;
              shows = inl (record { index = r.place; first = rw e r.is_first; is = refl });
            }))

    none_by : (x : ℕ) → x < length c.leaves → (h : LeafType) (r : Role) → held_in (as_module c) x ≡ h → role_at (as_module c) x ≡ r
        → clock_places c x h r ≡ []
    none_by x lt h r is role = rw (← role, ← is) (none_pick x lt)

    covers : (x : ℕ) → x < length c.leaves → role_at (as_module c) x ≡ sink → covers_all (depth_at (as_module c) x) x c.body 0 ≡ true
    covers x lt is = go (covers_all (depth_at (as_module c) x) x c.body 0) refl
      where
        go : (b : Bool) → covers_all (depth_at (as_module c) x) x c.body 0 ≡ b → b ≡ true
        go true e = refl
        go false e =
            let missed = missed_all (depth_at (as_module c) x) x c.body 0 e in
            absurd (driven x lt (ap is_sink is) missed.0 missed.1)

    -- of a sink, by the list of live statements
    of_lives : (x : ℕ) → x < length c.leaves → held_in (as_module c) x ≡ a_clock → role_at (as_module c) x ≡ sink → (ls : List Live) → lives_of c x ≡ ls
        → IsClockTerm c (driver_of (net_types (as_module c)) (depth_at (as_module c) x) false c.body x)
    of_lives x lt is role [] e = absurd (covered_some (depth_at (as_module c) x) x c.body 0 (covers x lt role) e)
    of_lives x lt is role (l ∷ []) e =
        let holds = net_types (as_module c) in
        let none : live_places l ++ [] ≡ [] = sym (ap (flat_map live_places) e) ∙ none_by x lt a_clock sink is role in
        let given_none : picking_places l.given ≡ [] = empty_right (index_places l.through) (picking_places l.given) (empty_left (live_places l) [] none) in
        let one = all_driver (depth_at (as_module c) x) x holds (held_in (as_module c)) (length c.leaves) c.body 0 (start holds false x) l typed.body within.body
        (covers x lt role) e in
        subst (IsClockTerm c) (sym one.is)
        (given_term x l.given (record { may = subst (MayGive (held_in (as_module c)) l.given) is one.may; within = one.within; none = given_none }))
    of_lives x lt is role (l ∷ n ∷ rest) e =
        absurd (faultless _ (record {
          leaf = x;
          within = lt;
          shows = inr (record {
            is_clock = is;
            is_sink = role;
            none_picks = none_by x lt a_clock sink is role;
            first = l;
            second = n;
            rest = rest;
            lives = e;
            is = refl;
          });
        }))

    by_role : (x : ℕ) → x < length c.leaves → (h : LeafType) (r : Role) → held_in (as_module c) x ≡ h → role_at (as_module c) x ≡ r
        → IsRoleTyped (held_in (as_module c)) h r → IsRoleWithin (length c.leaves) r → HasClockBehind r
        → IsClear c h (net_role (net_types (as_module c)) (depth_at (as_module c) x) c.body x r)
    by_role x lt a_clock source is role t w b = tt
    by_role x lt a_clock sink is role t w b = of_lives x lt is role (lives_of c x) refl
    by_role x lt a_clock (computed e) is role t w b = clock_term e t w (none_by x lt a_clock (computed e) is role)
    by_role x lt a_clock (register k r) is role t w b = tt
    by_role x lt a_clock (reading r) is role t w b = tt
    by_role x lt a_clock (pipe r k u) is role t w b = tt
    by_role x lt (number v) source is role t w b = tt
    by_role x lt (number v) sink is role t w b = tt
    by_role x lt (number v) (computed e) is role t w b = tt
    by_role x lt (number v) (register k r) is role t w b = clock_leaf k t.1 w.0 (none_by x lt (number v) (register k r) is role) b
    by_role x lt (number v) (reading r) is role t w b = tt
    by_role x lt (number v) (pipe r k u) is role t w b = tt

    pub leaves_clear : (x : ℕ) → x < length c.leaves → IsClear c (held_in (as_module c) x) (net_role_at (as_module c) x)
    leaves_clear x lt =
        by_role x lt (held_in (as_module c) x) (role_at (as_module c) x) refl refl (typed.roles x lt) (within.roles x lt) (behind x lt)
