-- The chain of three assigns against the order of the text settles after three turns and no fewer: as many as it has processes.
use Rattle.std.proofs.Common.{◌≡◌, ℕ, zero, suc, ◌<◌, ◌≤◌, List, [], ◌∷◌, refl, inl, arith}
use Rattle.std.specs.Prelude.{codes, IsSome, ◌^◌}
use Rattle.fir_base.specs.Lists.{In}
use Rattle.fir_base.specs.Ticks.{Env, Tick}
use Rattle.fir_base.proofs.Each.{all_at}
use Rattle.ver_ast.specs.declared.tree.Rhs.TheVariants as rhs
use Rattle.ver_ast.specs.Atoms.{net}
use Rattle.ver_ast.specs.Nets.{SizedNet, nets, variables}
use Rattle.ver_ast.specs.Stores.{Store, store_of}
use Rattle.ver_ast.specs.Processes.{Process, assigning, processes, target, wanted, given}
use Rattle.ver_ast.specs.Settled.{SourcesShown, VSettled}
use Rattle.ver_order.specs.Steps.{steps}
use Rattle.ver_order.specs.Rounds.{repeated_steps, process_count, SettlesFirstAfter}
use Rattle.ver_order.proofs.StepRows.{chain, four}

abbrev no_words : Store
no_words = store_of (variables chain) []

abbrev tick : Tick
tick = record { inputs = 9 ∷ []; clocks = [] }

abbrev text_order : List ℕ
text_order = 0 ∷ 1 ∷ 2 ∷ []

abbrev after_turns : ℕ → Env
after_turns count = repeated_steps chain no_words text_order count (four 9 1 2 3)

-- d shows c
abbrev first_process : Process
first_process = assigning (record { target = codes "d"; rhs = rhs.Atom (net (codes "c")) })

sources_shown : SourcesShown chain [] tick (after_turns 3)
unfolding repeated_steps steps
sources_shown = record {
  shaped = record { inputs_fit = (omega arith, tt); clocks_rise = tt; state_fits = tt };
  input_values = refl;
  clock_values = λ k n e. absurd (cc);
  state_values = λ r m. absurd m;
}

all_fit : (n : List ℕ) (w : ℕ) → In (nets chain) (n, w) → after_turns 3 n < 2 ^ w
unfolding repeated_steps steps
all_fit n w m = all_at (λ (s : SizedNet). after_turns 3 s.0 < 2 ^ s.1) (nets chain) (omega arith, (omega arith, (omega arith, (omega arith, tt)))) (n, w) m

all_shown : (p : Process) → In (processes chain) p → after_turns 3 (target p) ≡ given chain no_words (after_turns 3) p
unfolding repeated_steps steps
all_shown p m = all_at (λ (q : Process). after_turns 3 (target q) ≡ given chain no_words (after_turns 3) q) (processes chain) (refl, (refl, (refl, tt))) p m

all_have_values : (p : Process) → In (processes chain) p → IsSome (wanted chain no_words (after_turns 3) p)
unfolding repeated_steps steps
all_have_values p m = all_at (λ (q : Process). IsSome (wanted chain no_words (after_turns 3) q)) (processes chain) (refl, (refl, (refl, tt))) p m

not_after_one : VSettled chain [] tick (after_turns 1) → ⊥
unfolding repeated_steps steps
not_after_one h = let same : 2 ≡ 1 = h.rest.shows first_process (inl refl) in omega (arith, same)

not_after_two : VSettled chain [] tick (after_turns 2) → ⊥
unfolding repeated_steps steps
not_after_two h = let same : 1 ≡ 9 = h.rest.shows first_process (inl refl) in omega (arith, same)

not_sooner : (fewer : ℕ) → 1 ≤ fewer → fewer < 3 → VSettled chain [] tick (after_turns fewer) → ⊥
not_sooner zero h k = absurd (omega (arith, h))
not_sooner (suc zero) h k = not_after_one
not_sooner (suc (suc zero)) h k = not_after_two
not_sooner (suc (suc (suc fewer))) h k = absurd (omega (arith, k))

settles_first_after_three : SettlesFirstAfter chain [] tick text_order (four 9 1 2 3) (process_count chain)
settles_first_after_three = record {
  some = omega arith;
  settled = record { rest = record { begins = sources_shown; fits = all_fit; shows = all_shown }; values = all_have_values };
  least = not_sooner;
}
