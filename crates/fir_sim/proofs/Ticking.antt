-- What the passes of a tick leave, one behind the other: the values that a net allows, and what the simulator keeps.
use Rattle.std.proofs.Common.{◌≡◌, ℕ, ◌+◌, ◌<◌, ◌≤◌, List, [], ◌∷◌, ◌++◌, length, map, take, drop, slice_index, Bool, true, false, Option, refl, sym, ap, ap₂, ◌∙◌, subst, arith, length-append}
use Rattle.std.specs.List.{AllByRecursion}
use Rattle.std.proofs.Math.Seq.{drop-append_seam}
use Rattle.std.proofs.lemmas.List.{length-map, length-drop, map-append, drop-map, get_or-drop}
use Rattle.fir_base.specs.Ticks.{Tick, FitEach}
use Rattle.fir_base.specs.Lists.{Distinct}
use Rattle.fir_bits.specs.Values.{BitVector, IsBitVector}
use Rattle.fir_bits.specs.working.Laws.{HasItsType}
use Rattle.fir_net.specs.declared.net.FlatNet.{FlatNet}
use Rattle.fir_net.specs.working.Arrays.{array_widths, begin_from}
use Rattle.fir_net.specs.working.Next.{next, arrays_next}
use Rattle.fir_net.specs.working.Values.{leaf_width}
use Rattle.fir_net.specs.working.IsNet.{IsNet}
use Rattle.fir_net.specs.working.Laws.{NodesHaveTheirTypes, NodesHaveTheirValues}
use Rattle.fir_net.specs.working.Settled.{clock_outputs, input_number, inputs, registers, shape}
use Rattle.fir_net.specs.working.Allows.{Allows}
use Rattle.fir_net.proofs.ArrayWords.{front_fits}
use Rattle.fir_net.proofs.NumberedLeaves.{inputs_own, distinct_numbers}
use Rattle.fir_work.specs.working.Numbers.{number_at}
use Rattle.fir_tick.specs.declared.plan.Plan.{Plan}
use Rattle.fir_tick.specs.declared.steps.Step.{Step}
use Rattle.fir_tick.specs.declared.values.Values.{Values}
use Rattle.fir_work.specs.working.Held.{IsHeld}
use Rattle.fir_tick.specs.working.Views.{numbers, widths, output_widths, IsTickOf}
use Rattle.fir_tick.specs.working.Plans.{IsPlan}
use Rattle.fir_tick.specs.working.Roots.{root_at}
use Rattle.fir_tick.specs.working.ArrayWrites.{after_edges, written}
use Rattle.fir_tick.specs.working.Passes.{placed, with_inputs, with_state, output_width, register_width, output_value, register_value}
use Rattle.fir_tick.specs.working.PipeReads.{piped}
use Rattle.fir_tick.specs.working.Settling.{IsSettled}
use Rattle.fir_sim.specs.working.Running.{IsRunning}
use Rattle.fir_tick.proofs.Fits.{fit_count}
use Rattle.fir_tick.proofs.Lists.{map_both}
use Rattle.fir_sim.proofs.ArraysTaken.{arrays_put}
use Rattle.fir_sim.proofs.Placings.{placed_front, placed_held, placed_here, placed_elsewhere, inputs_placed, state_placed, whole_fit}
use Rattle.fir_sim.proofs.PlanFacts.{input_leaves, input_leaves_there, register_leaves, register_leaves_there, shown_widths, register_widths, registers_apart}
use Rattle.fir_sim.proofs.PipesCan.{pipes_keep}
use Rattle.fir_sim.proofs.PipesTaken.{all_taken, piped_numbers, piped_widths}
use Rattle.fir_sim.proofs.PipeWords.{new_pipes_take, old_pipes_take}
use Rattle.fir_sim.proofs.SettledValues.{settles}
use Rattle.fir_sim.proofs.Stages.{last_words, no_pipes, old_pipes, stage}
use Rattle.fir_sim.proofs.Words.{outputs_shown, words_taken}
use Rattle.fir_sim.proofs.WritesCan.{writes_keep}
use Rattle.fir_sim.proofs.Written.{put_all, written_numbers, written_widths}

all_below : (n m : ℕ) (ks : List ℕ) → n ≤ m → AllByRecursion (λ k. k < n) ks → AllByRecursion (λ k. k < m) ks
all_below n m [] le h = tt
all_below n m (k ∷ ks) le h = let first = h.0 in (omega arith, all_below n m ks le h.1)

-- numbers that were put at some leaves
put_here : (net : FlatNet) (ns : List ℕ) → IsHeld net ns → (ks vs : List ℕ) → AllByRecursion (λ k. k < length net.leaves) ks → FitEach (map (leaf_width net.leaves) ks) vs → Distinct ks → map (number_at (placed ks vs ns)) ks ≡ vs
put_here net ns held ks vs within fit once =
    let room = held.room in
    placed_here ks vs ns once (all_below (length net.leaves) (length ns) ks (omega (arith, room)) within) (sym (fit_count (leaf_width net.leaves) ks vs fit))

module _ (net : FlatNet) (whole : IsNet net) (p : Plan) (plan : IsPlan net p) (ns : List ℕ) (held : IsHeld net ns) where
  module _ (vs : List ℕ) (fit : FitEach (shape net).inputs vs) where
    is_placed : with_inputs p.inputs.items vs ns ≡ placed (inputs net) vs ns
    is_placed = inputs_placed p.inputs.items vs ns ∙ ap (λ (ks : List ℕ). placed ks vs ns) (input_leaves net whole p plan)

    pub inputs_held : IsHeld net (with_inputs p.inputs.items vs ns)
    inputs_held = subst (IsHeld net) (sym is_placed) (placed_held net (inputs net) vs ns (input_leaves_there net whole p plan) fit held)

    pub inputs_given : map (number_at (with_inputs p.inputs.items vs ns)) (inputs net) ≡ vs
    inputs_given = ap (λ (h : List ℕ). map (number_at h) (inputs net)) is_placed ∙ put_here net ns held (inputs net) vs (input_leaves_there net whole p plan) fit (distinct_numbers input_number inputs_own net.leaves 0)

    pub state_kept : map (number_at (with_inputs p.inputs.items vs ns)) (registers net) ≡ map (number_at ns) (registers net)
    state_kept = ap (λ (h : List ℕ). map (number_at h) (registers net)) is_placed ∙ placed_elsewhere (inputs net) vs ns (registers net) (registers_apart net whole p plan)

  module _ (words : List BitVector) (fit : FitEach (shape net).state (numbers words)) where
    -- the words of registers and pipes
    abbrev front : List ℕ
    front = take (length (registers net)) (numbers words)

    front_fit : FitEach (map (leaf_width net.leaves) (registers net)) front
    front_fit = front_fits (leaf_width net.leaves) (registers net) (array_widths net) (numbers words) fit

    words_placed : with_state p.registers.items words ns ≡ placed (registers net) front ns
    words_placed = state_placed p.registers.items words ns ∙ ap (λ (ks : List ℕ). placed ks (numbers words) ns) (register_leaves net whole p plan) ∙ placed_front (registers net) (numbers words) ns

    pub words_held : IsHeld net (with_state p.registers.items words ns)
    words_held = subst (IsHeld net) (sym words_placed) (placed_held net (registers net) front ns (register_leaves_there net whole p plan) front_fit held)

    pub words_given : map (number_at (with_state p.registers.items words ns)) (registers net) ≡ front
    words_given = ap (λ (h : List ℕ). map (number_at h) (registers net)) words_placed ∙ put_here net ns held (registers net) front (register_leaves_there net whole p plan) front_fit whole.state.once

pub numbers_of : {P : Type 0} → (f : P → BitVector) (ps : List P) → numbers (map f ps) ≡ map (λ q. (f q).number) ps
numbers_of f ps = map_both f (λ v. v.number) ps

pub widths_of : {P : Type 0} → (f : P → BitVector) (ps : List P) → widths (map f ps) ≡ map (λ q. (f q).width) ps
widths_of f ps = map_both f (λ v. v.width) ps

-- a tick: the words of registers and pipes and the inputs are put, all is settled, and outputs and the words of the next state come from it
pub record IsTicked (net : FlatNet) (p : Plan) (tick : Tick) (before after : Values) (start : List ℕ) : Type 0 where
  pub put : start ≡ with_inputs p.inputs.items tick.inputs (with_state p.registers.items before.state.items before.numbers.items)
  pub settled : IsSettled net (numbers before.state.items) start after.numbers.items
  pub outputs : after.outputs.items ≡ map (output_value after.numbers.items) p.outputs.items
  pub outputs_whole : AllByRecursion IsBitVector after.outputs.items
  pub state : after.state.items ≡ after_edges net after.numbers.items tick.clocks p before.state.items
  pub state_whole : AllByRecursion IsBitVector after.state.items

-- what is put
module _ (net : FlatNet) (steps : List Step) (p : Plan) (v : Values) (running : IsRunning net steps p v) where
  pub state_fits : FitEach (shape net).state (numbers v.state.items)
  state_fits = subst (λ (ws : List ℕ). FitEach ws (numbers v.state.items)) running.view.state (whole_fit v.state.items running.view.state_is)

  pub state_put : IsHeld net (with_state p.registers.items v.state.items v.numbers.items)
  state_put = words_held net running.whole p running.plan v.numbers.items running.held v.state.items state_fits

  pub outputs_room : length v.outputs.items ≡ length p.outputs.items
  outputs_room = sym (length-map v.outputs.items (λ x. x.width)) ∙ ap length (running.view.outputs ∙ sym (shown_widths net running.whole p running.plan)) ∙ length-map p.outputs.items output_width

  -- registers and pipes stand in front of the state
  pub registers_count : length p.registers.items ≡ length (map (leaf_width net.leaves) (registers net))
  registers_count = sym (length-map p.registers.items register_width) ∙ ap length (register_widths net running.whole p running.plan)

  state_long : length v.state.items ≡ length (map (leaf_width net.leaves) (registers net)) + length (array_widths net)
  state_long = sym (length-map v.state.items (λ x. x.width)) ∙ ap length running.view.state ∙ length-append (map (leaf_width net.leaves) (registers net)) (array_widths net)

  pub state_room : length p.registers.items ≤ length v.state.items
  state_room = let count = registers_count in let long = state_long in omega arith

  module _ (tick : Tick) (is_tick : IsTickOf net tick) where
    abbrev start : List ℕ
    start = with_inputs p.inputs.items tick.inputs (with_state p.registers.items v.state.items v.numbers.items)

    pub inputs_put : IsHeld net start
    inputs_put = inputs_held net running.whole p running.plan (with_state p.registers.items v.state.items v.numbers.items) state_put tick.inputs is_tick.inputs

    pub given : map (number_at start) (inputs net) ≡ tick.inputs
    given = inputs_given net running.whole p running.plan (with_state p.registers.items v.state.items v.numbers.items) state_put tick.inputs is_tick.inputs

    pub kept : map (number_at start) (registers net) ≡ take (length (registers net)) (numbers v.state.items)
    kept =
        state_kept net running.whole p running.plan (with_state p.registers.items v.state.items v.numbers.items) state_put tick.inputs is_tick.inputs
        ∙ words_given net running.whole p running.plan v.numbers.items running.held v.state.items state_fits

module _ (net : FlatNet) (steps : List Step) (p : Plan) (tick : Tick) (is_tick : IsTickOf net tick) (before after : Values) (start : List ℕ) (running : IsRunning net steps p before) (t : IsTicked net p tick before after start) where
  abbrev ns : List ℕ
  ns = after.numbers.items

  abbrev count : ℕ
  count = length p.registers.items

  -- the words of the state when the registers have theirs
  abbrev registered : List BitVector
  registered = map (register_value net ns tick.clocks) p.registers.items ++ drop count before.state.items

  registered_wide : widths registered ≡ (shape net).state
  registered_wide =
      map-append (λ (v : BitVector). v.width) (map (register_value net ns tick.clocks) p.registers.items) (drop count before.state.items)
      ∙ ap₂ (λ (ws us : List ℕ). ws ++ us) (widths_of (register_value net ns tick.clocks) p.registers.items ∙ register_widths net running.whole p running.plan)
      (sym (drop-map (λ (v : BitVector). v.width) count before.state.items) ∙ ap (drop count) running.view.state
      ∙ ap (λ (n : ℕ). drop n (shape net).state) (registers_count net steps p before running) ∙ drop-append_seam (map (leaf_width net.leaves) (registers net)) (array_widths net))

  -- when the pipes have theirs that take old words of arrays
  abbrev old_piped : List BitVector
  old_piped = piped ns tick.clocks p.before_writes.items registered

  old_piped_wide : widths old_piped ≡ (shape net).state
  old_piped_wide =
      piped_widths ns tick.clocks (shape net).state p.before_writes.items registered
      (pipes_keep net running.whole running.plan.roots false p.before_writes.items running.plan.before_writes tick.clocks ns) registered_wide

  -- and when all writes are done
  abbrev all_written : List BitVector
  all_written = written net ns tick.clocks p.writes.items old_piped

  all_written_wide : widths all_written ≡ (shape net).state
  all_written_wide =
      written_widths net ns tick.clocks (shape net).state p.writes.items old_piped (writes_keep net running.plan.roots p.writes.items running.plan.writes tick.clocks ns) old_piped_wide

  state_wide : widths after.state.items ≡ (shape net).state
  state_wide =
      ap widths t.state
      ∙ piped_widths ns tick.clocks (shape net).state p.after_writes.items all_written
      (pipes_keep net running.whole running.plan.roots true p.after_writes.items running.plan.after_writes tick.clocks ns) all_written_wide

  outputs_wide : widths after.outputs.items ≡ output_widths net
  outputs_wide = ap widths t.outputs ∙ widths_of (output_value after.numbers.items) p.outputs.items ∙ shown_widths net running.whole p running.plan

  pub still_running : IsRunning net steps p after
  still_running = record {
    whole = running.whole;
    stepped = running.stepped;
    view = record { outputs = outputs_wide; outputs_are = t.outputs_whole; state = state_wide; state_is = t.state_whole };
    plan = running.plan;
    held = t.settled.held;
  }

  inputs_are : map (number_at start) (inputs net) ≡ tick.inputs
  inputs_are = ap (λ (h : List ℕ). map (number_at h) (inputs net)) t.put ∙ given net steps p before running tick is_tick

  words_are : map (number_at start) (registers net) ≡ take (length (registers net)) (numbers before.state.items)
  words_are = ap (λ (h : List ℕ). map (number_at h) (registers net)) t.put ∙ kept net steps p before running tick is_tick

  module _ (has : HasItsType) (types : NodesHaveTheirTypes) (law : NodesHaveTheirValues) where
    abbrev roots : List (Option ℕ)
    roots = running.plan.roots

    abbrev old : List ℕ
    old = numbers before.state.items

    -- the words of registers and pipes, of which these pipes have theirs
    abbrev words_at : (Bool → Bool) → List ℕ
    words_at done = map (stage net (number_at ns) (root_at roots) tick.clocks old done) (registers net)

    words_long : length (words_at old_pipes) ≡ length net.state
    words_long = length-map (registers net) (stage net (number_at ns) (root_at roots) tick.clocks old old_pipes)

    count_is : count ≡ length net.state
    count_is = registers_count net steps p before running ∙ length-map (registers net) (leaf_width net.leaves)

    arrays_long : length (drop (length net.state) old) ≡ length (array_widths net)
    arrays_long =
        let cut = length-drop (length net.state) old in
        let long = length-map before.state.items (λ (v : BitVector). v.number) in
        let all = state_long net steps p before running in
        let front = registers_count net steps p before running in
        let same = count_is in
        omega arith

    registered_numbers : numbers registered ≡ words_at no_pipes ++ drop (length net.state) old
    registered_numbers =
        map-append (λ (v : BitVector). v.number) (map (register_value net ns tick.clocks) p.registers.items) (drop count before.state.items)
        ∙ ap₂ (λ (ms ks : List ℕ). ms ++ ks)
        (numbers_of (register_value net ns tick.clocks) p.registers.items ∙ words_taken has types law net running.whole old start ns t.settled roots tick p.registers.items running.plan.registers)
        (sym (drop-map (λ (v : BitVector). v.number) count before.state.items) ∙ ap (λ (n : ℕ). drop n old) count_is)

    old_piped_numbers : numbers old_piped ≡ words_at old_pipes ++ drop (length net.state) old
    old_piped_numbers =
        piped_numbers ns tick.clocks p.before_writes.items registered ∙ ap (all_taken ns tick.clocks p.before_writes.items) registered_numbers
        ∙ old_pipes_take has types law net running.whole old start ns t.settled roots tick.clocks p.before_writes.items running.plan.before_writes

    all_written_numbers : numbers all_written ≡ words_at old_pipes ++ arrays_next net (number_at ns) (root_at roots) tick.clocks old
    all_written_numbers =
        written_numbers net ns tick.clocks p.writes.items old_piped ∙ ap (put_all net ns tick.clocks p.writes.items) old_piped_numbers
        ∙ arrays_put has types law net running.whole old start ns t.settled roots tick.clocks net.array_order p.writes.items (words_at old_pipes) (drop (length net.state) old) running.plan.writes arrays_long
        running.whole.array_state.once
        (λ k here. ap (λ (n : ℕ). begin_from net.arrays n net.array_order k) (sym words_long))
        (λ i. ap (λ (n : ℕ). slice_index old (n + i)) words_long ∙ sym (get_or-drop (length net.state) old i 0))

    next_state : next net old (number_at ns) (root_at roots) tick ≡ numbers after.state.items
    next_state =
        sym
        (ap numbers t.state ∙ piped_numbers ns tick.clocks p.after_writes.items all_written ∙ ap (all_taken ns tick.clocks p.after_writes.items) all_written_numbers
        ∙ new_pipes_take has types law net running.whole old start ns t.settled roots tick.clocks p.after_writes.items running.plan.after_writes
        ∙ ap (λ (ws : List ℕ). ws ++ arrays_next net (number_at ns) (root_at roots) tick.clocks old) (last_words net (number_at ns) (root_at roots) tick.clocks old (registers net)))

    pub allows : Allows net old tick (numbers after.outputs.items) (map (root_at roots) (clock_outputs net)) (numbers after.state.items)
    allows = (
      number_at ns,
      root_at roots,
      settles has types law net running.whole old start ns t.settled roots running.plan.are_roots tick is_tick (state_fits net steps p before running) inputs_are words_are,
      sym (ap numbers t.outputs ∙ numbers_of (output_value ns) p.outputs.items ∙ ap (map (λ q. (output_value ns q).number)) running.plan.outputs ∙ outputs_shown net running.whole ns),
      refl,
      next_state,
    )
