-- What each clock leaf of a circuit shows is the clock of its leaf in the flat net, by their roles.
use Rattle.std.proofs.Common.{◌≡◌, ℕ, ◌+◌, List, Option, Some, None, slice_get, inl, inr, refl, sym, ap, ◌∙◌, subst, arith}
use Rattle.fir_meaning.specs.LeafTypes.{LeafType, a_clock, number}
use Rattle.fir_meaning.specs.working.LeafModules.{leaf_at}
use Rattle.fir_meaning.specs.working.LeafModules as leafed
use Rattle.fir_meaning.specs.working.TermValues.{Env}
use Rattle.fir_meaning.specs.working.LeafCircuits.{LeafCircuit, depth_of, role_of, type_of_leaf}
use Rattle.fir_meaning.specs.working.LeafSettled.{clock_shown}
use Rattle.fir_meaning.specs.working.LeafStates.{place_in}
use Rattle.fir_net.specs.declared.leaf.Leaf.{Leaf}
use Rattle.fir_net.specs.declared.leaf.Role.{Role}
use Rattle.fir_net.specs.declared.leaf.Role.TheVariants as role
use Rattle.fir_net.specs.declared.net.FlatNet.{FlatNet}
use Rattle.fir_net.specs.working.IsNet.{CanBeClock, IsRole}
use Rattle.fir_net.specs.working.Settled.{clock_number, clocks, driven_clock}
use Rattle.fir_net.proofs.ClockEquations.{clock_equation, role_clock}
use Rattle.fir_net.proofs.ClockEquations as ticking
use Rattle.fir_net.proofs.LeafEquations.{driven_at}
use Rattle.fir_net.proofs.NumberedLeaves.{among, clocks_own}
use Rattle.fir_net.proofs.Places.{place_of}
use Rattle.fir_connect.specs.working.CircuitModules.{as_module}
use Rattle.fir_connect.specs.working.NetRoles.{net_role, net_types}
use Rattle.fir_connect.specs.working.NetTerms.{NetTerm}
use Rattle.fir_connect.specs.working.NetValues.{term_clock}
use Rattle.fir_connect.specs.working.RoleLaws.{Gives}
use Rattle.fir_flat.specs.working.FlatCircuits.{IsClockedBy, IsRoleOf, NamesClock}
use Rattle.fir_flat.specs.working.FlatLaws.{IsFaithful}
use Rattle.fir_flat.proofs.KeptValues.{AreBeside}
use Rattle.fir_flat.proofs.LeafPlaces.{place_is_in}
use Rattle.fir_flat.proofs.ShownValues.{gives}

module _ (c : LeafCircuit) (net : FlatNet) (faithful : IsFaithful c net) (env : Env) (e : ℕ → ℕ) (f : ℕ → Option ℕ)
    (beside : AreBeside c net env e f) where
  abbrev given : NetTerm → Option ℕ
  given t = term_clock (type_of_leaf c) env.numbers env.clocks t

  -- a clock leaf that a term names gives its clock
  named_gives : (d : NetTerm) (o : Option ℕ) → NamesClock d o → CanBeClock net.leaves o → given d ≡ driven_clock f o
  named_gives d None is can = ap given is.1
  named_gives d (Some y) is can = ap given is ∙ sym (beside.clocks y can.0 can.1 can.2)

  module _ (x : ℕ) (l : Leaf) (at : slice_get net.leaves x ≡ Some l) (y : Role) (can : IsRole net.leaves net.nodes l.signed l.width y) where
    clocked_gives : (d : NetTerm) (o : Option ℕ) → IsClockedBy y o → NamesClock d o → given d ≡ role_clock net f x y
    clocked_gives d o (inl is) names =
        named_gives d o names (subst (IsRole net.leaves net.nodes l.signed l.width) is can).1 ∙ sym (ap (role_clock net f x) is)
    clocked_gives d o (inr is) names =
        named_gives d o names (subst (IsRole net.leaves net.nodes l.signed l.width) is can).1 ∙ sym (ap (role_clock net f x) is)

    -- a clock input shows its number
    input_shown : l.role ≡ y → y ≡ role.Clock → place_in c.clock_inputs 0 x ≡ role_clock net f x y
    input_shown own is =
        let found = among clock_number clocks_own net.leaves x l at (ap (λ (r : Role). clock_number r l.width x) (own ∙ is)) in
        let place : 0 + place_of x (clocks net) ≡ place_of x (clocks net) = omega arith in
        ap (λ (ks : List ℕ). place_in ks 0 x) (sym faithful.flat.clock_inputs)
        ∙ place_is_in (clocks net) 0 x found.0 found.1 ∙ ap Some place ∙ sym (ap (role_clock net f x) is)

    shown_by_role : l.role ≡ y → (h : LeafType) → h ≡ a_clock → (r : leafed.Role)
        → Gives (as_module c) env.numbers env.clocks x h r (net_role (net_types (as_module c)) (depth_of c x) c.body x r)
        → IsRoleOf net.nodes (net_types (as_module c)) x y h (net_role (net_types (as_module c)) (depth_of c x) c.body x r)
        → clock_shown c env x r ≡ Some (role_clock net f x y)
    shown_by_role own (number t) clock r worths is = cc
    shown_by_role own a_clock clock leafed.source worths is = ap Some (input_shown own is)
    shown_by_role own a_clock clock leafed.sink worths is = worths ∙ ap Some (clocked_gives _ is.0 is.1 is.2)
    shown_by_role own a_clock clock (leafed.computed t) worths is = ap Some (worths ∙ clocked_gives _ is.0 (inr is.1) is.2)
    shown_by_role own a_clock clock (leafed.register k reset) worths is = absurd is
    shown_by_role own a_clock clock (leafed.reading r) worths is = absurd is
    shown_by_role own a_clock clock (leafed.pipe r k under) worths is = absurd is

  pub clock_shown_is : (x : ℕ) (l : Leaf) → slice_get net.leaves x ≡ Some l → (leaf_at c.leaves x).holds ≡ a_clock
      → clock_shown c env x (role_of c x) ≡ Some (clock_equation net f x)
  clock_shown_is x l at is =
      shown_by_role x l at l.role (driven_at net faithful.whole x l l.role at refl) refl (leaf_at c.leaves x).holds is (role_of c x)
      (gives c net faithful env e beside.numbers x l at) (faithful.flat.roles x l at)
      ∙ ap Some (sym (ticking.clock_at net f x l l.role at refl))
