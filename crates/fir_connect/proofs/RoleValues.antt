-- Each leaf gets in the net what it gets in the module: a node what its expression gives, a leaf that statements must drive what they store, and a register
-- what they store or else what it shows.
use Rattle.std.proofs.Common.{◌≡◌, ◌⊎◌, ℕ, ◌^◌, ◌<◌, [], ◌∷◌, length, Bool, true, false, Option, Some, None, option_map, unwrap_or, inl, inr, refl, sym, ap, ◌∙◌}
use Rattle.fir_bits.specs.declared.types.NumTy.{NumTy}
use Rattle.fir_bits.specs.declared.values.Num.{Num}
use Rattle.fir_meaning.specs.Values.{is_high, number_of, fit}
use Rattle.fir_meaning.specs.working.LeafBlocks.{exec_all, nothing_stored}
use Rattle.fir_meaning.specs.working.LeafModules.{LeafModule, LeafReset, Role, computed, depth_at, is_sink, pipe, reading, register, role_at, sink, source}
use Rattle.fir_meaning.specs.LeafTypes.{LeafType, a_clock, number, number_type}
use Rattle.fir_meaning.specs.working.TermValues.{clock_of}
use Rattle.fir_meaning.specs.working.Terms.{Term, zeros}
use Rattle.fir_meaning.specs.working.UndrivenLeaves.{AreDriven}
use Rattle.fir_leaf.proofs.LiveStores.{nothing_where_undriven}
use Rattle.fir_leaf.specs.working.ChoiceLaws.{fitted_at}
use Rattle.fir_leaf.specs.working.ValueChoices.{choice_of_all}
use Rattle.fir_leaf_types.specs.working.TypedBlocks.{IsSameKind, MayGive}
use Rattle.fir_leaf_types.specs.working.TypedModules.{IsModuleTyped, IsResetTyped, IsRoleTyped, held_in}
use Rattle.fir_leaf_types.specs.working.TypedTerms.{HasType}
use Rattle.fir_connect.specs.working.Drivers.{driver_of, start}
use Rattle.fir_connect.specs.working.Lowered.{lowered, one_bit}
use Rattle.fir_connect.specs.working.NetRoles.{net_reset, net_role, net_types}
use Rattle.fir_connect.specs.working.NetValues.{term_clock, term_value}
use Rattle.fir_connect.specs.working.RoleLaws.{Gives, ResetGives, RolesAreWorth, clock_stored, net_fitted, number_stored}
use Rattle.fir_connect.proofs.DriverClocking.{driver_clocks}
use Rattle.fir_connect.proofs.DriverValues.{driver_is_worth}
use Rattle.fir_connect.proofs.FittedTwice.{fitted_own}
use Rattle.fir_connect.proofs.LoweredClocks.{lowered_clocks}
use Rattle.fir_connect.proofs.LoweredValues.{lowered_is_worth}

-- what stands there is what is taken in place of nothing
some_taken : {V : Type 0} (o : Option V) (v w : V) → (o ≡ None → ⊥) → w ≡ unwrap_or o v → o ≡ Some w
some_taken None v w some e = absurd (some refl)
some_taken (Some a) v w some e = ap Some (sym e)

module _ (m : LeafModule) (numbers : ℕ → ℕ) (clocks : ℕ → Option ℕ) (typed : IsModuleTyped m) (driven : AreDriven m)
    (within : (x : ℕ) → numbers x < 2 ^ (net_types m x).width) where
  -- something is stored at each leaf that statements must drive
  is_stored : {V : Type 0} (given : ℕ → Term → V) (x : ℕ) → x < length m.leaves → role_at m x ≡ sink
      → exec_all (net_types m) (depth_at m) numbers given m.body [] nothing_stored x ≡ None → ⊥
  is_stored given x inside is none =
      driven x inside (ap is_sink is) (choice_of_all (net_types m) numbers x m.body)
      ((nothing_where_undriven _ (net_types m) (depth_at m) numbers given x m.body).0 none)

  clock_gives : (t : Term) → HasType (held_in m) t a_clock
      → clock_of (net_types m) (record { numbers = numbers; clocks = clocks }) t ≡ term_clock (net_types m) numbers clocks (lowered (net_types m) t)
  clock_gives t has = sym (lowered_clocks (held_in m) numbers clocks t has)

  -- what a register takes at its reset
  init_gives : (x : ℕ) (e : Term) (u : NumTy) → MayGive (held_in m) e (number u)
      → fitted_at (net_types m) numbers x e ≡ net_fitted m numbers clocks (lowered (net_types m) e) x
  init_gives x e u may = by may.data_type may.has may.kind
    where
      by : (t : LeafType) → (e ≡ zeros) ⊎ HasType (held_in m) e t → IsSameKind t (number u)
          → fitted_at (net_types m) numbers x e ≡ net_fitted m numbers clocks (lowered (net_types m) e) x
      by a_clock has kind = absurd kind
      by (number t) (inl z) kind = rw z refl
      by (number t) (inr has) kind = ap (λ (v : Num). fit v (net_types m x)) (sym (lowered_is_worth (held_in m) numbers e t has))

  reset_gives : (x : ℕ) (u : NumTy) (reset : Option LeafReset) → IsResetTyped (held_in m) (number u) reset
      → ResetGives m numbers clocks x reset (option_map (net_reset (net_types m)) reset)
  reset_gives x u None has = tt
  reset_gives x u (Some r) has = (
    refl,
    ap (λ (v : Num). is_high (v ∷ [])) (sym (lowered_is_worth (held_in m) numbers r.condition one_bit has.0)),
    init_gives x r.init u has.1,
  )

  module _ (x : ℕ) (u : NumTy) (is : held_in m x ≡ number u) where
    fits_leaf : (v : Num) → fit v (net_types m x) ≡ fit v u
    fits_leaf v = ap (λ (t : NumTy). fit v t) (ap number_type is)

    -- what drives a leaf gives what the statements store, or else what it starts with
    gives_stored : (is_register : Bool)
        → net_fitted m numbers clocks (driver_of (net_types m) (depth_at m x) is_register m.body x) x
        ≡ unwrap_or (number_stored m numbers clocks x) (fit (term_value (net_types m) numbers (start (net_types m) is_register x)) u)
    gives_stored is_register =
        fits_leaf (term_value (net_types m) numbers (driver_of (net_types m) (depth_at m x) is_register m.body x))
        ∙ driver_is_worth (held_in m) (depth_at m) numbers m.body x u is_register typed.body is within

    -- what a register shows, at its own width, is itself
    shows : fit (number_of (net_types m x) (numbers x)) u ≡ numbers x
    shows = sym (fits_leaf (number_of (net_types m x) (numbers x))) ∙ fitted_own (net_types m x).signed (net_types m x).width (numbers x)

  gives : (x : ℕ) → x < length m.leaves → (h : LeafType) → held_in m x ≡ h → (r : Role) → role_at m x ≡ r → IsRoleTyped (held_in m) h r
      → Gives m numbers clocks x h r (net_role (net_types m) (depth_at m x) m.body x r)
  gives x inside (number u) is source role has = tt
  gives x inside a_clock is source role has = tt
  gives x inside (number u) is sink role has =
      some_taken (number_stored m numbers clocks x) _ _ (is_stored (fitted_at (net_types m) numbers) x inside role) (gives_stored x u is false)
  gives x inside a_clock is sink role has =
      some_taken (clock_stored m numbers clocks x) _ _
      (is_stored (λ y t. clock_of (net_types m) (record { numbers = numbers; clocks = clocks }) t) x inside role)
      (driver_clocks (held_in m) (depth_at m) numbers clocks m.body x false typed.body is)
  gives x inside (number u) is (computed e) role has = sym (lowered_is_worth (held_in m) numbers e u has)
  gives x inside a_clock is (computed e) role has = clock_gives e has
  gives x inside (number u) is (register clock reset) role has = (
    clock_gives clock has.1,
    reset_gives x u reset has.2,
    sym (gives_stored x u is true ∙ ap (unwrap_or (number_stored m numbers clocks x)) (shows x u is)),
  )
  gives x inside a_clock is (register clock reset) role has = absurd cc
  gives x inside (number u) is (reading e) role has = refl
  gives x inside a_clock is (reading e) role has = refl
  gives x inside (number u) is (pipe e clock under) role has = (refl, refl, refl)
  gives x inside a_clock is (pipe e clock under) role has = (refl, refl, refl)

pub roles_are_worth : RolesAreWorth
roles_are_worth m numbers clocks typed driven within x inside =
    gives m numbers clocks typed driven within x inside (held_in m x) refl (role_at m x) refl (typed.roles x inside)
