-- A flat net allows what its circuit allows, and has one choice of values where the circuit has.
use Rattle.std.proofs.Common.{◌≡◌, ℕ, ◌<◌, ◌≤◌, List, length, Option, true, false, map, refl, sym, ap, ◌∙◌, ⊎_elim, subst}
use Rattle.std.proofs.lemmas.Bool.{cases_lt}
use Rattle.fir_base.specs.Ticks.{HasShape, Shape, Tick}
use Rattle.fir_bits.specs.working.Laws.{HasItsType}
use Rattle.fir_meaning.specs.LeafTypes.{LeafType, a_clock, number}
use Rattle.fir_meaning.specs.working.LeafModules.{leaf_at}
use Rattle.fir_meaning.specs.working.TermValues.{Env}
use Rattle.fir_meaning.specs.working.LeafAllows as leafed
use Rattle.fir_meaning.specs.working.LeafCircuits.{LeafCircuit}
use Rattle.fir_meaning.specs.working.LeafSettled.{Settled, Shows}
use Rattle.fir_net.specs.declared.net.FlatNet.{FlatNet}
use Rattle.fir_net.specs.working.Allows.{Allows}
use Rattle.fir_net.specs.working.One.{HasOne}
use Rattle.fir_net.specs.working.Settled.{clock_outputs, is_clock, outputs}
use Rattle.fir_flat.specs.working.FlatLaws.{AllowsTheSame, HasOneWhere, IsFaithful}
use Rattle.fir_flat.proofs.FlatLeaves.{clock_outputs_tick, holds_clock, kind_at, leaf_there, outputs_plain, same_list, shape_is}
use Rattle.fir_flat.proofs.KeptValues.{kept}
use Rattle.fir_flat.proofs.NextStates.{next_same}
use Rattle.fir_flat.proofs.SettledValues.{beside, own_beside, settled_in_circuit, settled_in_net}

module _ (law : HasItsType) (c : LeafCircuit) (net : FlatNet) (faithful : IsFaithful c net) (state : List ℕ) (tick : Tick) where
  allowed_in_net : (shown : List ℕ) (clocks : List (Option ℕ)) (after : List ℕ) → leafed.Allows c state tick shown clocks after
      → Allows net state tick shown clocks after
  allowed_in_net shown clocks after h = (
    h.0.numbers,
    h.0.clocks,
    settled_in_net c net faithful law state tick h.0 h.1,
    ap (map h.0.numbers) faithful.flat.outputs ∙ h.2,
    ap (map h.0.clocks) faithful.flat.clock_outputs ∙ h.3,
    sym (next_same law c net faithful h.0 h.0.numbers h.0.clocks (own_beside c net faithful law state tick h.0 h.1) state tick h.1) ∙ h.4,
  )

  allowed_in_circuit : (shown : List ℕ) (clocks : List (Option ℕ)) (after : List ℕ) → Allows net state tick shown clocks after
      → leafed.Allows c state tick shown clocks after
  allowed_in_circuit shown clocks after h =
      let env = kept c h.0 h.1 in
      let near = beside c net faithful law state tick h.0 h.1 h.2 in
      let settled = settled_in_circuit c net faithful law state tick h.0 h.1 h.2 in (
        env,
        settled,
        ap (map env.numbers) (sym faithful.flat.outputs)
            ∙ same_list net.leaves false (outputs net) (outputs_plain net) env.numbers h.0 (λ x l at plain. sym (near.numbers.values x l at plain)) ∙ h.3,
        ap (map env.clocks) (sym faithful.flat.clock_outputs)
            ∙ same_list net.leaves true (clock_outputs net) (clock_outputs_tick net) env.clocks h.1 (λ x l at ticking. sym (near.clocks x l at ticking))
            ∙ h.4,
        next_same law c net faithful env h.0 h.1 near state tick settled ∙ h.5,
      )

  -- any two choices that are settled in the circuit are the same at a leaf, where the net has one
  same_shown : (net_has : HasOne net state tick) (a b : Env) → Settled c state tick a → Settled c state tick b → (x : ℕ) → x < length c.leaves
      → (h : LeafType) → (leaf_at c.leaves x).holds ≡ h → (a.numbers x ≡ b.numbers x) × (a.clocks x ≡ b.clocks x)
  same_shown net_has a b s t x inside h is =
      by h is (subst (Shows c state tick.inputs a x) is (s.each x inside)) (subst (Shows c state tick.inputs b x) is (t.each x inside))
    where
      by : (h : LeafType) → (leaf_at c.leaves x).holds ≡ h → Shows c state tick.inputs a x h → Shows c state tick.inputs b x h
          → (a.numbers x ≡ b.numbers x) × (a.clocks x ≡ b.clocks x)
      by (number u) is first second =
          let found = leaf_there c net faithful.flat x inside in
          let plain : is_clock found.0.role ≡ false = kind_at c net faithful.flat x found.0 found.1 ∙ ap holds_clock is in (
            net_has.same a.numbers b.numbers a.clocks b.clocks (settled_in_net c net faithful law state tick a s)
                (settled_in_net c net faithful law state tick b t) x found.0 found.1 plain,
            first.2 ∙ sym second.2,
          )
      by a_clock is first second =
          let found = leaf_there c net faithful.flat x inside in
          let ticks : is_clock found.0.role ≡ true = kind_at c net faithful.flat x found.0 found.1 ∙ ap holds_clock is in (
            first.1 ∙ sym second.1,
            net_has.same_clocks a.numbers b.numbers a.clocks b.clocks (settled_in_net c net faithful law state tick a s)
                (settled_in_net c net faithful law state tick b t) x found.0 found.1 ticks,
          )

  one_in_circuit : HasOne net state tick → leafed.HasOne c state tick
  one_in_circuit o = record {
    env = kept c o.env o.clock;
    settled = settled_in_circuit c net faithful law state tick o.env o.clock o.settled;
    same = λ a b s t x.
        ⊎_elim
        (λ (inside : x < length c.leaves). (same_shown o a b s t x inside (leaf_at c.leaves x).holds refl).0)
        (λ (behind : length c.leaves ≤ x). s.no_more_numbers x behind ∙ sym (t.no_more_numbers x behind))
        (cases_lt x (length c.leaves));
    same_clocks = λ a b s t x.
        ⊎_elim
        (λ (inside : x < length c.leaves). (same_shown o a b s t x inside (leaf_at c.leaves x).holds refl).1)
        (λ (behind : length c.leaves ≤ x). s.no_more_clocks x behind ∙ sym (t.no_more_clocks x behind))
        (cases_lt x (length c.leaves));
  }

  one_in_net : leafed.HasOne c state tick → HasOne net state tick
  one_in_net o = record {
    env = o.env.numbers;
    clock = o.env.clocks;
    settled = settled_in_net c net faithful law state tick o.env o.settled;
    same = λ e f u v s t x l at plain.
        (beside c net faithful law state tick e u s).numbers.values x l at plain
        ∙ o.same (kept c e u) (kept c f v) (settled_in_circuit c net faithful law state tick e u s) (settled_in_circuit c net faithful law state tick f v t) x
        ∙ sym ((beside c net faithful law state tick f v t).numbers.values x l at plain);
    same_clocks = λ e f u v s t x l at ticking.
        (beside c net faithful law state tick e u s).clocks x l at ticking
        ∙ o.same_clocks (kept c e u) (kept c f v) (settled_in_circuit c net faithful law state tick e u s)
        (settled_in_circuit c net faithful law state tick f v t) x
        ∙ sym ((beside c net faithful law state tick f v t).clocks x l at ticking);
  }

pub allows_the_same : HasItsType → AllowsTheSame
allows_the_same law c net faithful state tick shown clocks after =
    (allowed_in_net law c net faithful state tick shown clocks after, allowed_in_circuit law c net faithful state tick shown clocks after)

pub has_one_where : HasItsType → HasOneWhere
has_one_where law c net faithful = (
  λ one state tick shaped.
      one_in_net law c net faithful state tick (one state tick (subst (λ (z : Shape). HasShape z state tick) (sym (shape_is c net faithful.flat faithful.whole)) shaped)),
  λ one state tick shaped.
      one_in_circuit law c net faithful state tick (one state tick (subst (λ (z : Shape). HasShape z state tick) (shape_is c net faithful.flat faithful.whole) shaped)),
)
