-- What is printed of the first ticks of a trace begins what the whole trace prints, by whatever order of the processes.
use Rattle.std.proofs.Common.{◌≡◌, ◌≢◌, ℕ, List, [], ◌∷◌, ◌++◌, Bool, Option, Some, None, inl, inr, refl, sym, ap, ◌∙◌, ◌⊎◌, ⊎_elim, subst}
use Rattle.fir_base.specs.Ticks.{Tick, TickResult}
use Rattle.trace_text.specs.RunLines.{run_text}
use Rattle.trace_text.specs.Shapes.{TraceShape}
use Rattle.trace_text.specs.TraceSpells.{TraceSpells}
use Rattle.trace_text.specs.working.Fronts.{IsFirstOf, Says}
use Rattle.trace_text.specs.working.Laws.{TraceIsSpelledOrBad}
use Rattle.trace_text.proofs.RunFronts.{run_text-append}
use Rattle.trace_text.proofs.TraceFronts.{front_spells_first}
use Rattle.trace_lines.specs.Runs.{last_state}
use Rattle.trace_lines.specs.Saying.{SaysBadly, SaysFront, lack_line}
use Rattle.trace_lines.specs.declared.simulation.Lack.{Lack}
use Rattle.ver_ast.specs.declared.tree.Verilog.{Verilog}
use Rattle.ver_ast.specs.Allows.{VAllows, VRun}
use Rattle.ver_ast.specs.Nets.{shape, variables}
use Rattle.ver_ast.specs.Stores.{store_of}
use Rattle.ver_ast.specs.Valid.{Valid}
use Rattle.ver_ast.proofs.OneTick.{one_run}
use Rattle.ver_order.specs.Rounds.{process_count}
use Rattle.ver_runner.specs.Orders.{round_for}
use Rattle.ver_runner.specs.VerilogLines.{PrintsLines, VLacked, VRan, counted_lines, output_widths}
use Rattle.ver_runner.specs.working.Laws.{LackedDoesNotRun, Lacks, VFrontsBegin}
use Rattle.ver_runner.proofs.LackedTicks.{lacks_allow_nothing}
use Rattle.ver_runner.proofs.SameCounts.{counted_front, start_same}

-- of two fronts of a list one goes no further than the other, or past its last element
no_further_or_past : {A : Type 0} → (xs ys : List A) (y : A) (bs cs : List A) → xs ++ bs ≡ (ys ++ y ∷ []) ++ cs
    → ((more : List A) × (ys ≡ xs ++ more)) ⊎ ((more : List A) × (xs ≡ (ys ++ y ∷ []) ++ more))
no_further_or_past [] ys y bs cs e = inl (ys, refl)
no_further_or_past (x ∷ xs) [] y bs cs e = let head : x ≡ y = cc in inr (xs, ap (λ z. z ∷ xs) head)
no_further_or_past {A} (x ∷ xs) (z ∷ ys) y bs cs e =
    let head : x ≡ z = cc in
    let tail : xs ++ bs ≡ (ys ++ y ∷ []) ++ cs = cc in
    ⊎_elim
    (λ (h : (more : List A) × (ys ≡ xs ++ more)). inl (h.0, ap (λ w. w ∷ ys) (sym head) ∙ ap (λ l. x ∷ l) h.1))
    (λ (h : (more : List A) × (xs ≡ (ys ++ y ∷ []) ++ more)). inr (h.0, ap (λ w. w ∷ xs) head ∙ ap (λ l. z ∷ l) h.1))
    (no_further_or_past xs ys y bs cs tail)

not_empty : (ticks : List Tick) (tick : Tick) → ticks ++ tick ∷ [] ≢ []
not_empty [] tick = λ e. cc
not_empty (t ∷ ticks) tick = λ e. cc

module _ (v : Verilog) where
  -- a run through first ticks, and what shows behind them
  record Parts (init : List ℕ) (ticks : List Tick) (all : List TickResult) : Type 0 where
    front : List TickResult
    rest : List TickResult
    parts : all ≡ front ++ rest
    run : VRun v init ticks front

  in_parts : (init : List ℕ) (ticks more : List Tick) (all : List TickResult) → VRun v init (ticks ++ more) all → Parts init ticks all
  in_parts init [] more all run = record { front = []; rest = all; parts = refl; run = tt }
  in_parts init (t ∷ ticks) more [] run = absurd run
  in_parts init (t ∷ ticks) more (s ∷ all) run =
      let p = in_parts s.state ticks more all run.1 in
      record { front = s ∷ p.front; rest = p.rest; parts = ap (λ l. s ∷ l) p.parts; run = (run.0, p.run) }

  -- a run through ticks, and what is allowed at one more
  record OneMore (init : List ℕ) (ticks : List Tick) (tick : Tick) : Type 0 where
    shown : List TickResult
    last : TickResult
    run : VRun v init ticks shown
    allowed : VAllows v (last_state init shown) tick last.outputs last.clocks last.state

  one_more : (init : List ℕ) (ticks : List Tick) (tick : Tick) (all : List TickResult) → VRun v init (ticks ++ tick ∷ []) all → OneMore init ticks tick
  unfolding last_state
  one_more init [] tick [] run = absurd run
  one_more init [] tick (s ∷ all) run = record { shown = []; last = s; run = tt; allowed = run.0 }
  one_more init (t ∷ ticks) tick [] run = absurd run
  one_more init (t ∷ ticks) tick (s ∷ all) run =
      let m = one_more s.state ticks tick all run.1 in
      record { shown = s ∷ m.shown; last = m.last; run = (run.0, m.run); allowed = m.allowed }

module _ (v : Verilog) (valid : Valid v) (order : Option ℕ) (with_state : Bool) where
  -- no run goes on past a tick at which an item lacks a value
  module _ (s : TraceShape) (trace : List ℕ) (lack : Lack) (printed : List ℕ) (q : VLacked v order with_state s trace lack printed) where
    stops_there : (more : List Tick) (all : List TickResult) → VRun v q.init ((q.ticks ++ q.tick ∷ []) ++ more) all → ⊥
    stops_there more all run =
        let p = in_parts v q.init (q.ticks ++ q.tick ∷ []) more all run in
        let m = one_more v q.init q.ticks q.tick p.front p.run in
        let same : m.shown ≡ q.shown = one_run v valid q.init q.ticks m.shown q.shown m.run q.run in
        lacks_allow_nothing v valid (last_state q.init q.shown) q.tick q.env q.rest q.item q.lacks m.last.outputs m.last.clocks m.last.state
        (subst (λ shown. VAllows v (last_state q.init shown) q.tick m.last.outputs m.last.clocks m.last.state) same m.allowed)

    first_of : (init : List ℕ) (ticks : List Tick) → Says trace s init ticks → IsFirstOf q.init (q.ticks ++ q.tick ∷ []) init ticks
    first_of init ticks says = front_spells_first trace s q.said.0 q.init init (q.ticks ++ q.tick ∷ []) ticks q.said.1 q.said.2 says

    pub does_not_run : (init : List ℕ) (ticks : List Tick) (shown : List TickResult) → Says trace s init ticks → VRun v init ticks shown → ⊥
    does_not_run init ticks shown says run =
        let f = first_of init ticks says in
        stops_there f.front.back shown
        (subst (λ i. VRun v i ((q.ticks ++ q.tick ∷ []) ++ f.front.back) shown) (sym (f.same_init (not_empty q.ticks q.tick)))
        (subst (λ ts. VRun v init ts shown) f.front.parts run))

  -- the lines of a run through first ticks begin those of the whole run
  lines_begin : (o : Option ℕ) (init : List ℕ) (ticks more : List Tick) (shown rest : List TickResult) (printed all : List ℕ)
      → PrintsLines v o with_state init ticks shown printed → PrintsLines v o with_state init (ticks ++ more) (shown ++ rest) all
      → (later : List ℕ) × (all ≡ printed ++ later)
  lines_begin None init ticks more shown rest printed all p q = (
    run_text (output_widths v) (shape v).state with_state rest,
    q ∙ run_text-append (output_widths v) (shape v).state with_state shown rest
        ∙ ap (λ l. l ++ run_text (output_widths v) (shape v).state with_state rest) (sym p),
  )
  lines_begin (Some number) init ticks more shown rest printed all p q =
      let counts = p.1 in
      let all_counts = q.1 in
      let front =
      counted_front v valid (round_for (process_count v) number) (output_widths v) (shape v).state with_state init ticks more shown rest p.0 q.0 counts.start
      all_counts.start counts.last all_counts.last (start_same v (store_of (variables v) init) counts.start all_counts.start counts.has_start all_counts.has_start)
      counts.counts_each all_counts.counts_each in
      (front.0, q.2 ∙ front.1 ∙ ap (λ l. l ++ front.0) (sym p.2))

  -- no ticks have no lines
  no_lines : (o : Option ℕ) (init : List ℕ) (shown : List TickResult) (printed : List ℕ) → VRun v init [] shown → PrintsLines v o with_state init [] shown printed
      → printed ≡ []
  unfolding run_text counted_lines
  no_lines None init [] printed run p = p
  no_lines None init (s ∷ shown) printed run p = absurd run
  no_lines (Some number) init [] printed run p = p.2
  no_lines (Some number) init (s ∷ shown) printed run p = absurd run

  front_begins : (init whole_init : List ℕ) (ticks whole : List Tick) (shown all_shown : List TickResult) (printed all : List ℕ) → IsFirstOf init ticks whole_init whole
      → VRun v init ticks shown → PrintsLines v order with_state init ticks shown printed → VRun v whole_init whole all_shown
      → PrintsLines v order with_state whole_init whole all_shown all → (later : List ℕ) × (all ≡ printed ++ later)
  front_begins init whole_init [] whole shown all_shown printed all f run p all_run q = (all, ap (λ l. l ++ all) (sym (no_lines order init shown printed run p)))
  front_begins init whole_init (t ∷ ticks) whole shown all_shown printed all f run p all_run q =
      let filled : t ∷ ticks ≢ [] = λ (e : t ∷ ticks ≡ []). cc in
      let same : whole_init ≡ init = sym (f.same_init filled) in
      let on_parts : VRun v init ((t ∷ ticks) ++ f.front.back) all_shown =
      subst (λ ts. VRun v init ts all_shown) f.front.parts (subst (λ i. VRun v i whole all_shown) same all_run) in
      let r = in_parts v init (t ∷ ticks) f.front.back all_shown on_parts in
      let first : r.front ≡ shown = one_run v valid init (t ∷ ticks) r.front shown r.run run in
      let shown_are : all_shown ≡ shown ++ r.rest = r.parts ∙ ap (λ l. l ++ r.rest) first in
      let lines : PrintsLines v order with_state init ((t ∷ ticks) ++ f.front.back) (shown ++ r.rest) all =
      subst (λ rs. PrintsLines v order with_state init ((t ∷ ticks) ++ f.front.back) rs all) shown_are
      (subst (λ ts. PrintsLines v order with_state init ts all_shown all) f.front.parts
      (subst (λ i. PrintsLines v order with_state i whole all_shown all) same q)) in
      lines_begin order init (t ∷ ticks) f.front.back shown r.rest printed all p lines

  module _ (spelled_or_bad : TraceIsSpelledOrBad) (s : TraceShape) (trace printed : List ℕ) (p : VRan v order with_state s (SaysFront trace) printed) where
    of_front : (init : List ℕ) (ticks : List Tick) → Says trace s init ticks → IsFirstOf p.init p.ticks init ticks
    of_front init ticks says = front_spells_first trace s p.said.0 p.init init p.ticks ticks p.said.1 p.said.2 says

    some_whole : (init : List ℕ) × (ticks : List Tick) × Says trace s init ticks
    some_whole =
        ⊎_elim
        (λ h. (h.0, h.1, inl h.2))
        (λ h. (h.0, h.1, inr (h.2, h.3)))
        (spelled_or_bad trace s)

    begins_lacked : (lack : Lack) (all : List ℕ) → VLacked v order with_state s trace lack all → (later : List ℕ) × (all ≡ printed ++ later)
    begins_lacked lack all q =
        let w = some_whole in
        let mine = of_front w.0 w.1 w.2 in
        let other = first_of s trace lack all q w.0 w.1 w.2 in
        let init_is : q.init ≡ w.0 = other.same_init (not_empty q.ticks q.tick) in
        ⊎_elim
        (λ (h : (more : List Tick) × (q.ticks ≡ p.ticks ++ more)).
        front_begins p.init q.init p.ticks q.ticks p.shown q.shown printed all
        (record { front = record { back = h.0; parts = h.1 }; same_init = λ filled. mine.same_init filled ∙ sym init_is }) p.run p.lines q.run q.lines)
        (λ (h : (more : List Tick) × (p.ticks ≡ (q.ticks ++ q.tick ∷ []) ++ more)).
        absurd (stops_there s trace lack all q h.0 p.shown (subst (λ ts. VRun v q.init ts p.shown) h.1 (from_there w.0 init_is mine h.0 h.1))))
        (no_further_or_past p.ticks q.ticks q.tick mine.front.back other.front.back (sym mine.front.parts ∙ other.front.parts))
      where
        past_filled : (ts more : List Tick) (tick : Tick) → (ts ++ tick ∷ []) ++ more ≢ []
        past_filled [] more tick = λ e. cc
        past_filled (t ∷ ts) more tick = λ e. cc

        from_there : (whole_init : List ℕ) → q.init ≡ whole_init → IsFirstOf p.init p.ticks whole_init (some_whole).1 → (more : List Tick)
            → p.ticks ≡ (q.ticks ++ q.tick ∷ []) ++ more → VRun v q.init p.ticks p.shown
        from_there whole_init init_is mine more e =
            subst (λ i. VRun v i p.ticks p.shown) (mine.same_init (λ n. past_filled q.ticks more q.tick (sym e ∙ n)) ∙ sym init_is) p.run

    pub begins_all : (all : List ℕ)
        → VRan v order with_state s (TraceSpells trace) all ⊎ (((line : List ℕ) × VRan v order with_state s (SaysBadly trace line) all) ⊎ ((line : List ℕ) × Lacks v order with_state s trace line all))
        → (later : List ℕ) × (all ≡ printed ++ later)
    begins_all all (inl q) =
        front_begins p.init q.init p.ticks q.ticks p.shown q.shown printed all (of_front q.init q.ticks (inl q.said)) p.run p.lines q.run q.lines
    begins_all all (inr (inl (line, q))) =
        front_begins p.init q.init p.ticks q.ticks p.shown q.shown printed all (of_front q.init q.ticks (inr (q.said.0, q.said.1))) p.run p.lines q.run q.lines
    begins_all all (inr (inr (line, h))) = begins_lacked h.0 all h.1

pub fronts_begin : TraceIsSpelledOrBad → VFrontsBegin
fronts_begin spelled_or_bad v valid order with_state s trace printed p all h = begins_all v valid order with_state spelled_or_bad s trace printed p all h

pub lacked_does_not_run : LackedDoesNotRun
lacked_does_not_run v valid order with_state s trace lack printed q init ticks shown says run = does_not_run v valid order with_state s trace lack printed q init ticks shown says run
