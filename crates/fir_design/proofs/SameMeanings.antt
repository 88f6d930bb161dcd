-- A circuit and a tree that go in step have one shape, and allow the same.
use Rattle.std.proofs.Common.{◌≡◌, ◌↔◌, ℕ, List, map, Option, None, sym, ap, ◌∙◌, subst}
use Rattle.std.proofs.lemmas.Simd.{map-map}
use Rattle.fir_base.specs.Ticks.{Tick}
use Rattle.fir_meaning.specs.working.LeafAllows as over
use Rattle.fir_meaning.specs.working.LeafCircuits.{LeafCircuit}
use Rattle.fir_meaning.specs.working.LeafNext.{next}
use Rattle.fir_meaning.specs.working.LeafSettled as over_settled
use Rattle.fir_leaf.specs.working.SoundDesigns.{circuit_path}
use Rattle.fir_meaning.specs.working.TermValues.{Env}
use Rattle.fir_meaning.specs.SourceAllows.{Allows}
use Rattle.fir_meaning.specs.SourceCircuits.{clock_outputs, outputs}
use Rattle.fir_meaning.specs.SourceDesigns.{SourceDesign}
use Rattle.fir_meaning.specs.SourceValues.{PathEnv}
use Rattle.fir_design.proofs.EnvsByPath.{by_path, nothing_elsewhere, there_and_back}
use Rattle.fir_design.proofs.InStep.{InStep}
use Rattle.fir_design.proofs.NextStates.{next_same}
use Rattle.fir_design.proofs.SettledInStep.{settled_by_number, settled_by_path}
use Rattle.fir_design.proofs.ValuesInStep.{by_number}
pub use Rattle.fir_design.proofs.ShapesInStep.{shape_is_same}

module _ (c : LeafCircuit) (t : SourceDesign) (s : InStep c t) (state : List ℕ) (tick : Tick) (shown : List ℕ) (clocks_shown : List (Option ℕ))
    (after : List ℕ) where
  -- these values show that it is allowed
  record ByValues (env : Env) : Type 0 where
    settled : over_settled.Settled c state tick env
    outputs : map env.numbers c.outputs ≡ shown
    clocks : map env.clocks c.clock_outputs ≡ clocks_shown
    next : next c state tick env ≡ after

  outputs_same : (env : PathEnv) → map (by_number c env).numbers c.outputs ≡ map env.numbers (outputs t)
  outputs_same env = sym (map-map env.numbers (circuit_path c) c.outputs) ∙ ap (map env.numbers) s.outputs_are

  clocks_same : (env : PathEnv) → map (by_number c env).clocks c.clock_outputs ≡ map env.clocks (clock_outputs t)
  clocks_same env = sym (map-map env.clocks (circuit_path c) c.clock_outputs) ∙ ap (map env.clocks) s.clock_outputs_are

  from_tree : Allows t state tick shown clocks_shown after → over.Allows c state tick shown clocks_shown after
  from_tree h = (
    by_number c h.0,
    settled_by_number c t s state tick h.0 h.1,
    outputs_same h.0 ∙ h.2,
    clocks_same h.0 ∙ h.3,
    next_same c t s state tick h.0 ∙ h.4,
  )

  to_tree : over.Allows c state tick shown clocks_shown after → Allows t state tick shown clocks_shown after
  to_tree h =
      let env = by_path c h.0 in
      let back = there_and_back c t s h.0 h.1.no_more_numbers h.1.no_more_clocks in
      let whole : ByValues h.0 = record { settled = h.1; outputs = h.2; clocks = h.3; next = h.4 } in
      let values : ByValues (by_number c env) = subst ByValues (sym back) whole in (
        env,
        settled_by_path c t s state tick env (nothing_elsewhere c 0 h.0.numbers t s) (nothing_elsewhere c None h.0.clocks t s) values.settled,
        sym (outputs_same env) ∙ values.outputs,
        sym (clocks_same env) ∙ values.clocks,
        sym (next_same c t s state tick env) ∙ values.next,
      )

pub allows_is_same : (c : LeafCircuit) (t : SourceDesign) (state : List ℕ) (tick : Tick) (shown : List ℕ) (clocks_shown : List (Option ℕ))
    (after : List ℕ) → InStep c t → Allows t state tick shown clocks_shown after ↔ over.Allows c state tick shown clocks_shown after
allows_is_same c t state tick shown clocks_shown after s =
    (from_tree c t s state tick shown clocks_shown after, to_tree c t s state tick shown clocks_shown after)
