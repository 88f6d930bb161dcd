-- What drives a clock leaf of a module, by its net: where that is one leaf, its one live statement or its node names this leaf.
use Rattle.std.proofs.Common.{◌≡◌, ℕ, suc, zero, ◌<◌, List, [], ◌∷◌, false, length, refl, sym, ap, ◌∙◌, subst, inl, arith}
use Rattle.fir_base.proofs.Members.{in_right}
use Rattle.fir_meaning.specs.LeafTypes.{LeafType, a_clock, number}
use Rattle.fir_meaning.specs.Values.{number_of}
use Rattle.fir_meaning.specs.working.Choices.{covers_all, lives_all}
use Rattle.fir_meaning.specs.working.LeafModules.{LeafDeclared, LeafModule, Role, computed, depth_at, leaf_at, pipe, reading, register, role_at, sink, source}
use Rattle.fir_meaning.specs.working.Terms.{Term, absent, literal, mux, no_picks, operation, pick, read, validif, zeros}
use Rattle.fir_leaf.specs.working.ClockFaults.{index_places}
use Rattle.fir_leaf.specs.working.ClockRoots.{GivesClock, HasOneLive, IsClockLeaf}
use Rattle.fir_leaf.specs.working.ModuleCircuits.{module_circuit}
use Rattle.fir_leaf_types.specs.working.TypedBlocks.{MayGive}
use Rattle.fir_leaf_types.specs.working.TypedModules.{IsModuleTyped, IsRoleTyped, held_in}
use Rattle.fir_leaf_types.specs.working.TypedTerms.{HasType}
use Rattle.fir_connect.specs.working.Drivers.{driver_all, driver_of, given}
use Rattle.fir_connect.specs.working.Lowered.{lowered, zero_of}
use Rattle.fir_connect.specs.working.LoweredLaws.{types_of}
use Rattle.fir_connect.specs.working.NetRoles as net
use Rattle.fir_connect.specs.working.NetRoles.{NetRole, driven, net_role, net_role_at, net_types}
use Rattle.fir_connect.specs.working.NetTerms.{leaf, value}
use Rattle.fir_connect.proofs.GivenTerms.{given_clock}
use Rattle.fir_flatten.specs.working.ClearClocks.{IsChosen}
use Rattle.fir_flatten.proofs.ClearTerms.{lowered_chosen}
use Rattle.fir_flatten.proofs.DriverShapes.{Shape, one_given, several, shape_all, untouched}

-- what holds a clock is one of the leaves
clock_within : (ls : List LeafDeclared) (x : ℕ) → (leaf_at ls x).holds ≡ a_clock → x < length ls
clock_within [] x e = absurd cc
clock_within (l ∷ ls) zero e = omega arith
clock_within (l ∷ ls) (suc x) e = let rest = clock_within ls x e in omega (arith, rest)

module _ (held : ℕ → LeafType) where
  -- a term for a clock that is lowered to a leaf reads it
  lowered_read : (t : Term) → HasType held t a_clock → (y : ℕ) → lowered (types_of held) t ≡ leaf y → t ≡ read y no_picks
  lowered_read zeros h y e = absurd h
  lowered_read (absent u no_picks) h y e = absurd cc
  lowered_read (absent u (pick ps p i n each)) h y e =
      absurd (subst IsChosen e (lowered_chosen (types_of held) (absent u (pick ps p i n each)) p (in_right (index_places ps) (p ∷ []) p (inl refl))))
  lowered_read (literal l) h y e = let other : a_clock ≡ number _ = h.0 in absurd cc
  lowered_read (read b no_picks) h y e = let same : b ≡ y = cc in ap (λ z. read z no_picks) same
  lowered_read (read b (pick ps p i n each)) h y e =
      absurd (subst IsChosen e (lowered_chosen (types_of held) (read b (pick ps p i n each)) p (in_right (index_places ps) (p ∷ []) p (inl refl))))
  lowered_read (operation op ts ks) h y e = let other : a_clock ≡ number h.1 = h.4 in absurd cc
  lowered_read (mux c a b) h y e = let other : a_clock ≡ number _ = h.6 in absurd cc
  lowered_read (validif c a) h y e = let other : a_clock ≡ number h.1 = h.3 in absurd cc

  given_read : (x : ℕ) (t : Term) → MayGive held t a_clock → (y : ℕ) → given (types_of held) x t ≡ leaf y → t ≡ read y no_picks
  given_read x zeros may y e = absurd cc
  given_read x (absent u ps) may y e = lowered_read (absent u ps) (given_clock held (absent u ps) (λ z. absurd cc) may) y e
  given_read x (literal l) may y e = lowered_read (literal l) (given_clock held (literal l) (λ z. absurd cc) may) y e
  given_read x (read b ps) may y e = lowered_read (read b ps) (given_clock held (read b ps) (λ z. absurd cc) may) y e
  given_read x (operation op ts ks) may y e = lowered_read (operation op ts ks) (given_clock held (operation op ts ks) (λ z. absurd cc) may) y e
  given_read x (mux c a b) may y e = lowered_read (mux c a b) (given_clock held (mux c a b) (λ z. absurd cc) may) y e
  given_read x (validif c a) may y e = lowered_read (validif c a) (given_clock held (validif c a) (λ z. absurd cc) may) y e

-- a clock leaf is given the clock of another
pub record IsGivenClock (m : LeafModule) (x y : ℕ) : Type 0 where
  pub gives : GivesClock (module_circuit m) x (role_at m x) (read y no_picks)
  pub is_clock : IsClockLeaf (module_circuit m) y

module _ (m : LeafModule) (typed : IsModuleTyped m) (x : ℕ) (clock : held_in m x ≡ a_clock) where
  clock_read : (y : ℕ) → HasType (held_in m) (read y no_picks) a_clock → IsClockLeaf (module_circuit m) y
  clock_read y h = record { within = clock_within m.leaves y h.0; is_clock = h.0 }

  -- a sink, by its one live statement
  record IsSinkGiven (y : ℕ) : Type 0 where
    live : HasOneLive (module_circuit m) x (read y no_picks)
    is_clock : IsClockLeaf (module_circuit m) y

  sink_given : (y : ℕ) → Shape (held_in m) x (lives_all (depth_at m x) x m.body 0) (covers_all (depth_at m x) x m.body 0)
      (driver_all (net_types m) (depth_at m x) x m.body 0)
      → driver_of (net_types m) (depth_at m x) false m.body x ≡ leaf y → IsSinkGiven y
  sink_given y (untouched u) e =
      let same : driver_of (net_types m) (depth_at m x) false m.body x ≡ value (number_of (net_types m x) 0) = u.same (zero_of (net_types m x)) in
      absurd cc
  sink_given y (one_given u) e =
      let gives : given (net_types m) x u.live.given ≡ leaf y = sym (u.gives (zero_of (net_types m x))) ∙ e in
      let may : MayGive (held_in m) u.live.given a_clock = subst (MayGive (held_in m) u.live.given) clock u.may in
      let is : u.live.given ≡ read y no_picks = given_read (held_in m) x u.live.given may y gives in
      record {
        live = record { live = u.live; only = u.only; gives = is };
        is_clock = clock_read y (given_clock (held_in m) (read y no_picks) (λ z. absurd cc) (subst (λ t. MayGive (held_in m) t a_clock) is may));
      }
  sink_given y (several u) e = absurd (subst IsChosen e (u.chooses (zero_of (net_types m x))))

  -- by the role that it has in the net
  given_driven : (y : ℕ) (r : Role) → role_at m x ≡ r → net_role (net_types m) (depth_at m x) m.body x r ≡ driven (leaf y) → IsGivenClock m x y
  given_driven y sink is e =
      let by_driver : driver_of (net_types m) (depth_at m x) false m.body x ≡ leaf y = cc in
      let g = sink_given y (shape_all (held_in m) x (depth_at m x) m.body 0 typed.body) by_driver in
      record { gives = subst (λ q. GivesClock (module_circuit m) x q (read y no_picks)) (sym is) g.live; is_clock = g.is_clock }
  given_driven y source is e = absurd cc
  given_driven y (computed t) is e = absurd cc
  given_driven y (register k r) is e = absurd cc
  given_driven y (reading r) is e = absurd cc
  given_driven y (pipe r k u) is e = absurd cc

  given_computed : (y : ℕ) (r : Role) → role_at m x ≡ r → IsRoleTyped (held_in m) a_clock r
      → net_role (net_types m) (depth_at m x) m.body x r ≡ net.computed (leaf y) → IsGivenClock m x y
  given_computed y (computed t) is has e =
      let by_node : lowered (net_types m) t ≡ leaf y = cc in
      let reads : t ≡ read y no_picks = lowered_read (held_in m) t has y by_node in
      record {
        gives = subst (λ q. GivesClock (module_circuit m) x q (read y no_picks)) (sym is) reads;
        is_clock = clock_read y (subst (λ u. HasType (held_in m) u a_clock) reads has);
      }
  given_computed y sink is has e = absurd cc
  given_computed y source is has e = absurd cc
  given_computed y (register k r) is has e = absurd cc
  given_computed y (reading r) is has e = absurd cc
  given_computed y (pipe r k u) is has e = absurd cc

  pub driven_clock : (y : ℕ) → net_role_at m x ≡ driven (leaf y) → IsGivenClock m x y
  driven_clock y e = given_driven y (role_at m x) refl e

  pub computed_clock : (y : ℕ) → net_role_at m x ≡ net.computed (leaf y) → IsGivenClock m x y
  computed_clock y e =
      given_computed y (role_at m x) refl (subst (λ h. IsRoleTyped (held_in m) h (role_at m x)) clock (typed.roles x (clock_within m.leaves x clock))) e
