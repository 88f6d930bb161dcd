-- Settled values of a circuit are settled in its flat net, and those of the net are settled in the circuit.
use Rattle.std.proofs.Common.{◌≡◌, ℕ, ◌^◌, ◌<◌, ◌≤◌, List, length, true, false, Option, Some, slice_get, refl, sym, ap, ◌∙◌, ⊎_elim, subst}
use Rattle.std.proofs.lemmas.Bool.{cases_lt}
use Rattle.std.proofs.lemmas.Nat.{pow_pos}
use Rattle.std.proofs.lemmas.Option.{same_Some}
use Rattle.fir_base.specs.Ticks.{HasShape, Shape, Tick}
use Rattle.fir_bits.specs.working.Laws.{HasItsType}
use Rattle.fir_meaning.specs.LeafTypes.{LeafType, a_clock, number, number_type}
use Rattle.fir_meaning.specs.working.LeafModules.{leaf_at}
use Rattle.fir_meaning.specs.working.TermValues.{Env}
use Rattle.fir_meaning.specs.working.LeafCircuits.{LeafCircuit, type_of_leaf}
use Rattle.fir_meaning.specs.working.LeafSettled.{Settled, Shows}
use Rattle.fir_net.specs.declared.leaf.Leaf.{Leaf}
use Rattle.fir_net.specs.declared.net.FlatNet.{FlatNet}
use Rattle.fir_net.specs.working.Settled.{is_clock, shape}
use Rattle.fir_net.specs.working.Settled as net_settled
use Rattle.fir_net.proofs.ClockEquations.{IsTicking, clock_equation}
use Rattle.fir_net.proofs.LeafEquations.{value_equation}
use Rattle.fir_net.proofs.SettledEquations as equations
use Rattle.fir_net.proofs.ValuesAlong.{IsPlain}
use Rattle.fir_flat.specs.working.FlatLaws.{IsFaithful}
use Rattle.fir_flat.proofs.BesideValues.{leaves_fit}
use Rattle.fir_flat.proofs.FlatLeaves.{clock_at, holds_clock, kind_at, leaf_inside, leaf_there, number_at, shape_is}
use Rattle.fir_flat.proofs.KeptValues.{AreBeside, clock_behind, clock_has_no_number, kept, kept_beside, number_behind, number_has_no_clock}
use Rattle.fir_flat.proofs.ShownClocks.{clock_shown_is}
use Rattle.fir_flat.proofs.ShownValues.{number_shown_is}

module _ (c : LeafCircuit) (net : FlatNet) (faithful : IsFaithful c net) where
  module _ (law : HasItsType) (state : List ℕ) (tick : Tick) where
    -- from the circuit
    module _ (env : Env) (s : Settled c state tick env) where
      own_fits : (x : ℕ) → x < length c.leaves → (h : LeafType) → (leaf_at c.leaves x).holds ≡ h → Shows c state tick.inputs env x h
          → env.numbers x < 2 ^ (number_type h).width
      own_fits x inside (number t) is shows = shows.1
      own_fits x inside a_clock is shows = rw shows.1 (pow_pos 0)

      pub own_beside : AreBeside c net env env.numbers env.clocks
      own_beside = record {
        numbers = record {
          within = λ x.
              ⊎_elim
              (λ (inside : x < length c.leaves). own_fits x inside (leaf_at c.leaves x).holds refl (s.each x inside))
              (λ (behind : length c.leaves ≤ x). rw (s.no_more_numbers x behind) (pow_pos (type_of_leaf c x).width))
              (cases_lt x (length c.leaves));
          values = λ x l at plain. refl;
        };
        clocks = λ x l at ticking. refl;
      }

      shaped_net : HasShape (shape net) state tick
      shaped_net = subst (λ (z : Shape). HasShape z state tick) (shape_is c net faithful.flat faithful.whole) s.shaped

      shows_at : (x : ℕ) (l : Leaf) → slice_get net.leaves x ≡ Some l → (h : LeafType) → (leaf_at c.leaves x).holds ≡ h → Shows c state tick.inputs env x h
      shows_at x l at h is = subst (Shows c state tick.inputs env x) is (s.each x (leaf_inside c net faithful.flat x l at))

      value_met : (x : ℕ) → IsPlain net x → env.numbers x ≡ value_equation net state tick env.numbers x
      value_met x p =
          let t = number_at c net faithful.flat x p.leaf p.at p.plain in
          same_Some _ _ (sym (shows_at x p.leaf p.at (number t.0) t.1).0
          ∙ number_shown_is c net faithful env env.numbers own_beside.numbers x p.leaf p.at state tick shaped_net p.plain)

      clock_met : (x : ℕ) → IsTicking net x → env.clocks x ≡ clock_equation net env.clocks x
      clock_met x p =
          let is = clock_at c net faithful.flat x p.leaf p.at p.ticking in
          same_Some _ _ (sym (shows_at x p.leaf p.at a_clock is).0 ∙ clock_shown_is c net faithful env env.numbers env.clocks own_beside x p.leaf p.at is)

      pub settled_in_net : net_settled.Settled net state tick env.numbers env.clocks
      settled_in_net = equations.settled law net faithful.whole state tick shaped_net env.numbers env.clocks
          (leaves_fit c net faithful env env.numbers own_beside.numbers) value_met clock_met

    -- from the net
    module _ (e : ℕ → ℕ) (f : ℕ → Option ℕ) (s : net_settled.Settled net state tick e f) where
      abbrev env : Env
      env = kept c e f

      pub beside : AreBeside c net env e f
      beside = kept_beside c e f net faithful.flat (record { each = s.fits })

      shows : (x : ℕ) → x < length c.leaves → (h : LeafType) → (leaf_at c.leaves x).holds ≡ h → Shows c state tick.inputs env x h
      shows x inside (number t) is =
          let found = leaf_there c net faithful.flat x inside in
          let plain : is_clock found.0.role ≡ false = kind_at c net faithful.flat x found.0 found.1 ∙ ap holds_clock is in
          let met = equations.values_met law net faithful.whole state tick e f s x (record { leaf = found.0; at = found.1; plain = plain }) in (
            number_shown_is c net faithful env e beside.numbers x found.0 found.1 state tick s.shaped plain
                ∙ ap Some (sym met ∙ beside.numbers.values x found.0 found.1 plain),
            subst (λ (h : LeafType). env.numbers x < 2 ^ (number_type h).width) is (beside.numbers.within x),
            number_has_no_clock c e f x inside t is,
          )
      shows x inside a_clock is =
          let found = leaf_there c net faithful.flat x inside in
          let ticks : is_clock found.0.role ≡ true = kind_at c net faithful.flat x found.0 found.1 ∙ ap holds_clock is in
          let met = equations.clocks_met law net faithful.whole state tick e f s x (record { leaf = found.0; at = found.1; ticking = ticks }) in (
            clock_shown_is c net faithful env e f beside x found.0 found.1 is ∙ ap Some (sym met ∙ beside.clocks x found.0 found.1 ticks),
            clock_has_no_number c e f x inside is,
          )

      pub settled_in_circuit : Settled c state tick env
      settled_in_circuit = record {
        shaped = subst (λ (z : Shape). HasShape z state tick) (sym (shape_is c net faithful.flat faithful.whole)) s.shaped;
        each = λ x inside. shows x inside (leaf_at c.leaves x).holds refl;
        no_more_numbers = number_behind c e f;
        no_more_clocks = clock_behind c e f;
      }
