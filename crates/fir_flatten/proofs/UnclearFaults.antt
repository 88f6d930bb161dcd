-- A leaf is unclear where E25 stands at it, and nowhere else.
use Rattle.std.proofs.Common.{◌≡◌, ℕ, ◌<◌, ◌≤◌, List, [], ◌∷◌, ◌++◌, flat_map, length, Bool, true, false, refl, sym, ap, subst, inl, inr, ⊎_elim, arith}
use Rattle.fir_base.specs.Lists.{In}
use Rattle.fir_base.proofs.Members.{in_either}
use Rattle.fir_ast.specs.declared.place.Place.{Place}
use Rattle.fir_ast.specs.Faults.{Fault}
use Rattle.fir_meaning.specs.LeafTypes.{LeafType, a_clock, number}
use Rattle.fir_meaning.specs.working.Choices.{Live, covers_all, lives_all}
use Rattle.fir_meaning.specs.working.LeafCircuits.{LeafCircuit}
use Rattle.fir_meaning.specs.working.LeafModules.{LeafModule, Role, computed, depth_at, is_sink, pipe, reading, register, role_at, sink, source}
use Rattle.fir_meaning.specs.working.UndrivenLeaves.{AreDriven}
use Rattle.fir_driven.proofs.FirstChoices.{missed_is_first}
use Rattle.fir_leaf.specs.working.ClockFaults.{ShowsPickedClock, ShowsTwoLive, clock_places, index_places, live_places, picking_places}
use Rattle.fir_leaf.specs.working.ModuleCircuits.{module_circuit}
use Rattle.fir_leaf.proofs.FirstPlaces.{has_first}
use Rattle.fir_leaf_types.specs.working.TypedBlocks.{MayGive}
use Rattle.fir_leaf_types.specs.working.TypedModules.{IsRoleTyped, held_in}
use Rattle.fir_connect.specs.working.Drivers.{driver_all, driver_of}
use Rattle.fir_connect.specs.working.Lowered.{zero_of}
use Rattle.fir_connect.specs.working.NetRoles.{net_role, net_types}
use Rattle.fir_connect.specs.working.NetTerms.{NetTerm}
use Rattle.fir_flatten.specs.working.ClearClocks.{FaultIsUnclear, HasClockBehind, IsChosen, IsUnclearAs, UnclearShows}
use Rattle.fir_flatten.specs.working.ClockEvidence.{ShowsClockFaultAt}
use Rattle.fir_flatten.proofs.ClearTerms.{given_chosen, given_clear, lowered_chosen, lowered_clear, lowered_leaf, lowered_no_leaf}
use Rattle.fir_flatten.proofs.DriverShapes.{Shape, one_given, several, shape_all, untouched}

module _ (m : LeafModule) (x : ℕ) where
  abbrev c : LeafCircuit
  c = module_circuit m

  abbrev IsShown : Type 0
  IsShown = (f : Fault) × ShowsClockFaultAt c x f

  abbrev zero_there : NetTerm
  zero_there = zero_of (net_types m x)

  abbrev the_lives : List Live
  the_lives = lives_all (depth_at m x) x m.body 0

  abbrev the_shape : Type 0
  the_shape = Shape (held_in m) x the_lives (covers_all (depth_at m x) x m.body 0) (driver_all (net_types m) (depth_at m x) x m.body 0)

  -- an index that picks the clock is told
  places_shown : (ps : List Place) → clock_places c x (held_in m x) (role_at m x) ≡ ps → (ps ≡ [] → ⊥) → IsShown
  places_shown [] e some = absurd (some refl)
  places_shown (p ∷ ps) e some =
      let r = has_first p ps in
      (_, inl (record { index = r.place; first = rw e r.is_first; is = refl }))

  two_shown : held_in m x ≡ a_clock → role_at m x ≡ sink → flat_map live_places the_lives ≡ [] → (ls : List Live) → the_lives ≡ ls → 2 ≤ length ls → IsShown
  two_shown clock is_sink none [] e two = absurd (omega arith)
  two_shown clock is_sink none (l ∷ []) e two = absurd (omega arith)
  two_shown clock is_sink none (l ∷ n ∷ ls) e two =
      (_, inr (record { is_clock = clock; is_sink = is_sink; none_picks = none; first = l; second = n; rest = ls; lives = e; is = refl }))

  lives_shown : held_in m x ≡ a_clock → role_at m x ≡ sink → 2 ≤ length the_lives → (ps : List Place) → flat_map live_places the_lives ≡ ps → IsShown
  lives_shown clock is_sink two [] e = two_shown clock is_sink e the_lives refl two
  lives_shown clock is_sink two (p ∷ ps) e = places_shown (p ∷ ps) (rw (clock, is_sink) e) (λ none. absurd cc)

  covered : AreDriven m → x < length m.leaves → role_at m x ≡ sink → covers_all (depth_at m x) x m.body 0 ≡ true
  covered driven within is = by (covers_all (depth_at m x) x m.body 0) refl
    where
      by : (b : Bool) → covers_all (depth_at m x) x m.body 0 ≡ b → covers_all (depth_at m x) x m.body 0 ≡ true
      by true e = e
      by false e =
          let first = missed_is_first (depth_at m x) x m.body e in
          absurd (driven x within (ap is_sink is) first.choice first.undriven)

  places_behind : (ps qs : List Place) → ps ++ qs ++ [] ≡ [] → qs ≡ []
  places_behind [] [] e = refl
  places_behind [] (q ∷ qs) e = absurd cc
  places_behind (p ∷ ps) qs e = absurd cc

  sink_shown : AreDriven m → x < length m.leaves → held_in m x ≡ a_clock → role_at m x ≡ sink → the_shape
      → IsChosen (driver_of (net_types m) (depth_at m x) false m.body x) → IsShown
  sink_shown driven within clock is_sink (untouched u) is = absurd (subst IsChosen (u.same zero_there) is)
  sink_shown driven within clock is_sink (one_given u) is =
      let only = u.only in
      places_shown (flat_map live_places the_lives) (rw (clock, is_sink) refl)
      (λ none.
      let none_picked = rw only at none in
      given_clear (held_in m) x u.live.given (subst (MayGive (held_in m) u.live.given) clock u.may)
      (places_behind (index_places u.live.through) (picking_places u.live.given) none_picked) (subst IsChosen (u.gives zero_there) is))
  sink_shown driven within clock is_sink (several u) is =
      lives_shown clock is_sink (u.two (covered driven within is_sink)) (flat_map live_places the_lives) refl

  -- by what the leaf holds and its role
  shown_by : AreDriven m → x < length m.leaves → the_shape → (h : LeafType) (r : Role) → held_in m x ≡ h → role_at m x ≡ r → IsRoleTyped (held_in m) h r
      → HasClockBehind r → IsUnclearAs h (net_role (net_types m) (depth_at m x) m.body x r) → IsShown
  shown_by driven within shape a_clock sink e f typed k is = sink_shown driven within e f shape is
  shown_by driven within shape a_clock (computed t) e f typed k is =
      places_shown (picking_places t) (rw (e, f) refl) (λ none. lowered_clear (held_in m) t typed none is)
  shown_by driven within shape (number u) (register t reset) e f typed k is =
      places_shown (picking_places t) (rw (e, f) refl) (λ none. lowered_leaf (held_in m) t typed.1 k none is)
  shown_by driven within shape a_clock source e f typed k is = absurd is
  shown_by driven within shape a_clock (register t reset) e f typed k is = absurd is
  shown_by driven within shape a_clock (reading r) e f typed k is = absurd is
  shown_by driven within shape a_clock (pipe r t under) e f typed k is = absurd is
  shown_by driven within shape (number u) source e f typed k is = absurd is
  shown_by driven within shape (number u) sink e f typed k is = absurd is
  shown_by driven within shape (number u) (computed t) e f typed k is = absurd is
  shown_by driven within shape (number u) (reading r) e f typed k is = absurd is
  shown_by driven within shape (number u) (pipe r t under) e f typed k is = absurd is

  one_place : (l : Live) (q : Place) → index_places l.through ≡ [] → In (live_places l ++ []) q → In (picking_places l.given) q
  one_place l q none n =
      ⊎_elim
      (λ (o : In (live_places l) q).
      ⊎_elim
      (λ (i : In (index_places l.through) q). let i' : In [] q = subst (λ (ps : List Place). In ps q) none i in absurd i')
      (λ (i : In (picking_places l.given) q). i)
      (in_either (index_places l.through) (picking_places l.given) q o))
      (λ (o : In [] q). absurd o)
      (in_either (live_places l) [] q n)

  -- a live statement behind an index is a choice
  picked_chosen : the_shape → (q : Place) → In (flat_map live_places the_lives) q → IsChosen (driver_of (net_types m) (depth_at m x) false m.body x)
  picked_chosen (untouched u) q n =
      let n' : In [] q = subst (λ (ls : List Live). In (flat_map live_places ls) q) u.none n in
      absurd n'
  picked_chosen (one_given u) q n =
      let here : In (live_places u.live ++ []) q = subst (λ (ls : List Live). In (flat_map live_places ls) q) u.only n in
      subst IsChosen (sym (u.gives zero_there))
      (given_chosen (net_types m) x u.live.given q (one_place u.live q (ap index_places u.direct) here))
  picked_chosen (several u) q n = u.chooses zero_there

  -- and so are two
  two_chosen : the_shape → (l n : Live) (ls : List Live) → the_lives ≡ l ∷ n ∷ ls → IsChosen (driver_of (net_types m) (depth_at m x) false m.body x)
  two_chosen (untouched u) l n ls e = let none = u.none in absurd cc
  two_chosen (one_given u) l n ls e = let only = u.only in absurd cc
  two_chosen (several u) l n ls e = u.chooses zero_there

  picked_unclear : the_shape → (h : LeafType) (r : Role) → IsRoleTyped (held_in m) h r → (q : Place) → In (clock_places c x h r) q
      → IsUnclearAs h (net_role (net_types m) (depth_at m x) m.body x r)
  picked_unclear shape a_clock sink typed q n = picked_chosen shape q n
  picked_unclear shape a_clock (computed t) typed q n = lowered_chosen (net_types m) t q n
  picked_unclear shape (number u) (register t reset) typed q n = lowered_no_leaf (net_types m) t q n
  picked_unclear shape a_clock (register t reset) typed q n = let never : a_clock ≡ number typed.0.0 = typed.0.1 in absurd cc
  picked_unclear shape a_clock source typed q n = absurd n
  picked_unclear shape a_clock (reading r) typed q n = absurd n
  picked_unclear shape a_clock (pipe r t under) typed q n = absurd n
  picked_unclear shape (number u) source typed q n = absurd n
  picked_unclear shape (number u) sink typed q n = absurd n
  picked_unclear shape (number u) (computed t) typed q n = absurd n
  picked_unclear shape (number u) (reading r) typed q n = absurd n
  picked_unclear shape (number u) (pipe r t under) typed q n = absurd n

  two_unclear : the_shape → (h : LeafType) (r : Role) → h ≡ a_clock → r ≡ sink → (l n : Live) (ls : List Live) → the_lives ≡ l ∷ n ∷ ls
      → IsUnclearAs h (net_role (net_types m) (depth_at m x) m.body x r)
  two_unclear shape h r e f l n ls is = rw (e, f) (two_chosen shape l n ls is)

pub unclear_shows : UnclearShows
unclear_shows m x typed driven within term is =
    shown_by m x driven within (shape_all (held_in m) x (depth_at m x) m.body 0 typed.body) (held_in m x) (role_at m x) refl refl (typed.roles x within) term is

pub fault_is_unclear : FaultIsUnclear
fault_is_unclear m x f typed within shows =
    let shape = shape_all (held_in m) x (depth_at m x) m.body 0 typed.body in
    ⊎_elim
    (λ (h : ShowsPickedClock (module_circuit m) x f).
    picked_unclear m x shape (held_in m x) (role_at m x) (typed.roles x within) h.index h.first.among)
    (λ (h : ShowsTwoLive (module_circuit m) x f).
    two_unclear m x shape (held_in m x) (role_at m x) h.is_clock h.is_sink h.first h.second h.rest h.lives)
    shows
