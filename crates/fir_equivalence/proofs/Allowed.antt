-- Of two nets that have one choice of values, the one that is the other written anew allows the same at every tick, and its clock leaves have clocks where that one's have.
use Rattle.std.proofs.Common.{◌↔◌, ℕ, List, sym, ◌∙◌, subst}
use Rattle.std.specs.Prelude.{Option, IsSome}
use Rattle.fir_base.specs.Ticks.{HasShape, Shape, Tick}
use Rattle.fir_net.specs.declared.net.FlatNet.{FlatNet}
use Rattle.fir_net.specs.working.Allows.{Allows}
use Rattle.fir_net.specs.working.IsNet.{IsClock, IsNet}
use Rattle.fir_net.specs.working.One.{One}
use Rattle.fir_net.specs.working.Settled.{Settled}
use Rattle.fir_equivalence.specs.working.IsEquivalent.{HasClock}
use Rattle.fir_equivalence.specs.working.Rewrites.{Rewrites, renumbered}
use Rattle.fir_equivalence.proofs.AgreeingNext.{next_agrees}
use Rattle.fir_equivalence.proofs.AgreeingValues.{Agree, clock_outputs_agree, outputs_agree}
use Rattle.fir_equivalence.proofs.NextBeside.{next_there}
use Rattle.fir_equivalence.proofs.SettledBeside.{clock_outputs_there, outputs_there, settled_there}
use Rattle.fir_equivalence.proofs.Shapes.{shapes}

module _ (net other : FlatNet) (number : ℕ → ℕ) (R : Rewrites net other number) (whole : IsNet net) (own : One net) (its : One other) where
  -- settled values of the net beside those of the other one
  record Found (state : List ℕ) (tick : Tick) (e : ℕ → ℕ) (c : ℕ → Option ℕ) : Type 0 where
    env : ℕ → ℕ
    clock : ℕ → Option ℕ
    settled : Settled net state tick env clock
    agree : Agree other (renumbered number env) e (renumbered number clock) c

  found : (state : List ℕ) (tick : Tick) (e : ℕ → ℕ) (c : ℕ → Option ℕ) → Settled other state tick e c → Found state tick e c
  found state tick e c t =
      let one = own state tick (subst (λ (x : Shape). HasShape x state tick) (shapes net other number R whole) t.shaped) in
      let up = settled_there net other number R whole state tick one.env one.clock one.settled in
      let only = its state tick t.shaped in
      record {
        env = one.env;
        clock = one.clock;
        settled = one.settled;
        agree = record {
          values = only.same (renumbered number one.env) e (renumbered number one.clock) c up t;
          clocks = only.same_clocks (renumbered number one.env) e (renumbered number one.clock) c up t;
        };
      }

  pub allows_same : (state : List ℕ) (tick : Tick) (shown : List ℕ) (clocks : List (Option ℕ)) (after : List ℕ) → Allows other state tick shown clocks after ↔ Allows net state tick shown clocks after
  allows_same state tick shown clocks after = (
    λ h.
        let x = found state tick h.0 h.1 h.2 in (
          x.env,
          x.clock,
          x.settled,
          sym (outputs_there net other number R whole state tick x.env x.clock x.settled)
              ∙ outputs_agree other R.whole (renumbered number x.env) h.0 (renumbered number x.clock) h.1 x.agree ∙ h.3,
          sym (clock_outputs_there net other number R whole state tick x.env x.clock x.settled)
              ∙ clock_outputs_agree other R.whole (renumbered number x.env) h.0 (renumbered number x.clock) h.1 x.agree ∙ h.4,
          sym (next_there net other number R whole state tick x.env x.clock x.settled)
              ∙ next_agrees other R.whole (renumbered number x.env) h.0 (renumbered number x.clock) h.1 x.agree state tick ∙ h.5,
        ),
    λ h. (
      renumbered number h.0,
      renumbered number h.1,
      settled_there net other number R whole state tick h.0 h.1 h.2,
      outputs_there net other number R whole state tick h.0 h.1 h.2 ∙ h.3,
      clock_outputs_there net other number R whole state tick h.0 h.1 h.2 ∙ h.4,
      next_there net other number R whole state tick h.0 h.1 h.2 ∙ h.5,
    ),
  )

  pub has_clock : (j : ℕ) → IsClock other.leaves j → HasClock other j ↔ HasClock net (number j)
  has_clock j is = (
    λ h state tick env clock s. h state tick (renumbered number env) (renumbered number clock) (settled_there net other number R whole state tick env clock s),
    λ h state tick e c t.
        let x = found state tick e c t in
        subst (λ (o : Option ℕ). IsSome o) (x.agree.clocks j is.0 is.1 is.2) (h state tick x.env x.clock x.settled),
  )
