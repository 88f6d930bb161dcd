-- Before the first tick there are values, and where no tick is said there are no lines.
use Rattle.std.proofs.Common.{◌≡◌, ℕ, List, [], Bool, true, false, Option, Some, None, refl, sym, ap, ◌∙◌, ⊎_elim, subst}
use Rattle.std.specs.Prelude.{if◌then◌else◌, slice_get}
use Rattle.fir_base.specs.Lists.{In}
use Rattle.fir_base.specs.Words.{is_among}
use Rattle.fir_base.specs.Ticks.{Env, Tick}
use Rattle.fir_base.proofs.Elements.{get_in}
use Rattle.fir_base.proofs.Members.{in_map, in_map_from}
use Rattle.fir_base.proofs.Twins.{apart, distinct_left}
use Rattle.trace_text.specs.RunLines.{run_text}
use Rattle.trace_text.specs.Shapes.{TraceShape}
use Rattle.trace_lines.specs.Saying.{Saying}
use Rattle.ver_ast.specs.declared.tree.Verilog.{Verilog}
use Rattle.ver_ast.specs.Nets.{SizedNet, clocks, names_of, nets, plain_regs, variables}
use Rattle.ver_ast.specs.Stores.{Store, store_of, stored}
use Rattle.ver_ast.specs.Valid.{Valid}
use Rattle.ver_ast.proofs.Chosen.{in_or_not, is_named}
use Rattle.ver_ast.proofs.Processes.{read_once}
use Rattle.ver_sim.specs.Start.{HasStart}
use Rattle.ver_sim.specs.working.Valued.{place_among}
use Rattle.ver_sim.proofs.PlacedNames.{place_is}
use Rattle.ver_runner.specs.VerilogLines.{PrintsLines, VRan, counted_lines}
use Rattle.ver_runner.proofs.SameValues.{plain_is_net}

module _ (v : Verilog) (valid : Valid v) (store : Store) where
  abbrev pub clock_place : List ℕ → ℕ
  clock_place n = if is_among (clocks v) n then place_among (clocks v) n else 0

  abbrev pub start : Env
  start n = if is_among (names_of (plain_regs v)) n then stored store n else clock_place n

  no_clock : (n : List ℕ) → In (names_of (nets v)) n → is_among (clocks v) n ≡ false
  no_clock n i =
      ⊎_elim (λ (c : In (clocks v) n). absurd (apart (clocks v) (names_of (nets v)) (read_once v valid) n c i)) (λ out. out) (in_or_not (clocks v) n)

  no_word : (n : List ℕ) → (In (names_of (plain_regs v)) n → ⊥) → is_among (names_of (plain_regs v)) n ≡ false
  no_word n out = ⊎_elim (λ (i : In (names_of (plain_regs v)) n). absurd (out i)) (λ h. h) (in_or_not (names_of (plain_regs v)) n)

  plain_named : (n : List ℕ) → In (names_of (plain_regs v)) n → In (names_of (nets v)) n
  plain_named n i =
      let t = in_map_from (λ (s : SizedNet). s.0) (plain_regs v) n i in
      subst (In (names_of (nets v))) t.2 (in_map (λ (s : SizedNet). s.0) (nets v) t.0 (plain_is_net v t.0 t.1))

  pub has_start : HasStart v store start
  has_start = record {
    zeros = λ n i out. rw (no_word n out, no_clock n i) refl;
    words_shown = λ r i. rw (is_named (names_of (plain_regs v)) r.0 (in_map (λ (s : SizedNet). s.0) (plain_regs v) r i)) refl;
    clocks_shown = λ k n e.
        let here : In (clocks v) n = get_in (clocks v) k n e in
        let word : is_among (names_of (plain_regs v)) n ≡ false =
        no_word n (λ i. apart (clocks v) (names_of (nets v)) (read_once v valid) n here (plain_named n i)) in
        rw (word, is_named (clocks v) n here) (place_is (clocks v) (distinct_left (clocks v) (names_of (nets v)) (read_once v valid)) k n e);
  }

-- no ticks print no lines
pub none_ran : (v : Verilog) → Valid v → (order : Option ℕ) (with_state : Bool) (s : TraceShape) (init : List ℕ) (says : Saying) → says s init []
    → VRan v order with_state s says []
unfolding run_text counted_lines
none_ran v valid order with_state s init says said =
    record { init = init; ticks = []; said = said; shown = []; run = tt; lines = by order }
  where
    by : (o : Option ℕ) → PrintsLines v o with_state init [] [] []
    by None = refl
    by (Some number) = (
      [],
      record {
        start = start v valid (store_of (variables v) init);
        has_start = has_start v valid (store_of (variables v) init);
        last = start v valid (store_of (variables v) init);
        counts_each = λ name. refl;
      },
      refl,
    )
