-- A simulator goes on: what it keeps holds after inputs are set, after steps and after an edge.
use Rattle.std.proofs.Common.{◌≡◌, ℕ, ◌^◌, ◌<◌, List, [], ◌∷◌, ◌++◌, length, map, cond, true, false, Bool, refl, sym, ap, ◌∙◌, inl, inr, ⊎_elim, subst}
use Rattle.std.specs.Prelude.{Result, OnOk, OnErr, Ok, Err}
use Rattle.std.proofs.lemmas.Bool.{cond-true, cond-false}
use Rattle.std.proofs.lemmas.List.{map-append}
use Rattle.fir_base.specs.Lists.{In, Distinct}
use Rattle.fir_base.specs.Words.{is_among}
use Rattle.fir_base.specs.Ticks.{Env, Tick, FitEach}
use Rattle.fir_base.proofs.Elements.{get_in}
use Rattle.fir_base.proofs.Members.{in_map, in_map_from, in_left}
use Rattle.fir_base.proofs.Twins.{apart, distinct_left}
use Rattle.ver_ast.specs.declared.tree.Verilog.{Verilog}
use Rattle.ver_ast.specs.Nets.{SizedNet, nets, clocks, input_nets, regs, plain_regs, names_of, widths_of, reg_variable, arrays, variables, shape}
use Rattle.ver_ast.specs.Next.{all_puts, state_after}
use Rattle.ver_ast.specs.Settled.{SourcesShown}
use Rattle.ver_ast.specs.Stores.{store_of, stored}
use Rattle.ver_ast.specs.Valid.{Valid}
use Rattle.ver_ast.proofs.Chosen.{chosen, in_or_not, is_named, among}
use Rattle.ver_ast.proofs.Nets.{reg_is_net, source_is_net}
use Rattle.ver_ast.proofs.NextFits.{next_fits}
use Rattle.ver_ast.proofs.Processes.{read_once, width_is, sources_once, variables_once}
use Rattle.ver_ast.proofs.Stores.{stored_fits}
use Rattle.ver_order.specs.ShownWords.{words_shown}
use Rattle.ver_order.specs.working.Laws.{FitNets, EdgesLeaveNext}
use Rattle.ver_order.specs.Steps.{steps}
use Rattle.ver_order.proofs.Rounds.{sources_stay}
use Rattle.ver_sim.specs.declared.plan.Plan.{Plan}
use Rattle.ver_sim.specs.declared.shown.ShownWord.{ShownWord}
use Rattle.ver_sim.specs.working.Valued.{place_among, valued, env_of}
use Rattle.ver_sim.specs.working.Turns.{turns}
use Rattle.ver_sim.specs.working.FlatStates.{flat_all}
use Rattle.ver_sim.specs.working.Blocks.{all_block_puts}
use Rattle.ver_sim.specs.ClocksShown.{ClocksShown}
use Rattle.ver_sim.specs.working.ShownWords.{words_put, AreShown}
use Rattle.ver_sim.specs.working.Inputs.{inputs_put}
use Rattle.ver_sim.specs.Inputs.{HaveInputs}
use Rattle.ver_sim.specs.working.Views.{IsTickOf}
use Rattle.ver_sim.specs.working.Edges.{EveryOrderLeaves}
use Rattle.ver_sim.specs.working.Running.{AreValues, IsRunning}
use Rattle.ver_sim.proofs.ProcessSteps.{After, turns_are_steps}
use Rattle.ver_sim.proofs.BlockWrites.{edge_state_is}
use Rattle.ver_sim.proofs.ShowingWords.{all_words_shown, words_put_long}
use Rattle.ver_sim.proofs.InputValues.{long_after, others_keep, inputs_are, listed_fit}

abbrev net_name : SizedNet → List ℕ
net_name = λ (s : SizedNet). s.0

module _ (v : Verilog) where
  pub input_valued : (n : List ℕ) → In (names_of (input_nets v)) n → In (valued v) n
  input_valued n m =
      let t = in_map_from net_name (input_nets v) n m in
      in_left (names_of (nets v)) (clocks v) n
      (subst (In (names_of (nets v))) t.2 (in_map net_name (nets v) t.0 (source_is_net v t.0 (in_left (input_nets v) (regs v) t.0 t.1))))

  -- the inputs have values of their widths
  inputs_fit : (env : Env) → FitNets v env → (ps : List SizedNet) → ((p : SizedNet) → In ps p → In (nets v) p) → FitEach (widths_of ps) (map env (names_of ps))
  inputs_fit env fit [] are = tt
  inputs_fit env fit (p ∷ ps) are = (fit p.0 p.1 (are p (inl refl)), inputs_fit env fit ps (λ q m. are q (inr m)))

  -- the tick of the inputs as they are, at which no clock rises
  abbrev pub still_tick : Env → Tick
  still_tick env = record { inputs = map env (names_of (input_nets v)); clocks = [] }

  pub still_sources : (values state : List ℕ) → FitEach (shape v).state state → AreValues v values state → SourcesShown v state (still_tick (env_of v values)) (env_of v values)
  still_sources values state fits h = record {
    shaped = record {
      inputs_fit = inputs_fit (env_of v values) h.fit (input_nets v) (λ p m. source_is_net v p (in_left (input_nets v) (regs v) p m));
      clocks_rise = tt;
      state_fits = fits;
    };
    input_values = refl;
    clock_values = h.clocks_shown;
    state_values = h.words_shown;
  }

-- where registers without an asynchronous block have taken the words of a state
module _ (v : Verilog) (valid : Valid v) (ss : List ShownWord) (a : AreShown v ss (plain_regs v)) (values state new : List ℕ) (long : length values ≡ length (valued v))
    (fit : FitNets v (env_of v values)) (clocks_shown : ClocksShown v (env_of v values)) (state_fits : FitEach (shape v).state state) (m : new ≡ words_put ss state values) where
  pub shown_is : env_of v new ≡ words_shown v (store_of (variables v) state) (env_of v values)
  shown_is = ap (env_of v) m ∙ all_words_shown v ss state values a long

  shows : (s : SizedNet) → In (plain_regs v) s → env_of v new s.0 ≡ stored (store_of (variables v) state) s.0
  shows s i =
      ap (λ (f : Env). f s.0) shown_is
      ∙ cond-true (is_among (names_of (plain_regs v)) s.0) _ _ (is_named (names_of (plain_regs v)) s.0 (in_map net_name (plain_regs v) s i))

  keeps : (k : List ℕ) → is_among (names_of (plain_regs v)) k ≡ false → env_of v new k ≡ env_of v values k
  keeps k e = ap (λ (f : Env). f k) shown_is ∙ cond-false (is_among (names_of (plain_regs v)) k) _ _ e

  pub unshown : (k : List ℕ) → (In (names_of (plain_regs v)) k → ⊥) → env_of v new k ≡ env_of v values k
  unshown k none = keeps k (⊎_elim (λ (o : In (names_of (plain_regs v)) k). absurd (none o)) (λ (e : is_among (names_of (plain_regs v)) k ≡ false). e) (in_or_not (names_of (plain_regs v)) k))

  all_fit : FitNets v (env_of v new)
  all_fit k w i = subst (λ (f : Env). f k < 2 ^ w) (sym shown_is) (by (is_among (names_of (plain_regs v)) k) refl)
    where
      by : (b : Bool) → is_among (names_of (plain_regs v)) k ≡ b → cond b (stored (store_of (variables v) state) k) (env_of v values k) < 2 ^ w
      by true e =
          let s = in_map_from net_name (plain_regs v) k (among (names_of (plain_regs v)) k e) in
          let reg : In (regs v) s.0 = (chosen _ (regs v) s.0 s.1).0 in
          let net : In (nets v) (k, s.0.1) = subst (λ (n : List ℕ). In (nets v) (n, s.0.1)) s.2 (reg_is_net v s.0 reg) in
          let same : s.0.1 ≡ w = sym (width_is v valid k s.0.1 net) ∙ width_is v valid k w i in
          let below : stored (store_of (variables v) state) s.0.0 < 2 ^ s.0.1 =
          stored_fits (variables v) state (variables_once v valid) state_fits (reg_variable s.0)
          (in_left (map reg_variable (regs v)) (arrays v) (reg_variable s.0) (in_map reg_variable (regs v) s.0 reg)) in
          subst (λ (u : ℕ). stored (store_of (variables v) state) k < 2 ^ u) same
          (subst (λ (n : List ℕ). stored (store_of (variables v) state) n < 2 ^ s.0.1) s.2 below)
      by false e = fit k w i

  all_clocks : ClocksShown v (env_of v new)
  all_clocks j k e = keeps k (no_register (is_among (names_of (plain_regs v)) k) refl) ∙ clocks_shown j k e
    where
      no_register : (b : Bool) → is_among (names_of (plain_regs v)) k ≡ b → b ≡ false
      no_register false f = refl
      no_register true f =
          let s = in_map_from net_name (plain_regs v) k (among (names_of (plain_regs v)) k f) in
          let net : In (names_of (nets v)) k =
          subst (In (names_of (nets v))) s.2 (in_map net_name (nets v) s.0 (reg_is_net v s.0 (chosen _ (regs v) s.0 s.1).0)) in
          absurd (apart (clocks v) (names_of (nets v)) (read_once v valid) k (get_in (clocks v) j k e) net)

  pub shown_values : AreValues v new state
  shown_values = record { long = ap length m ∙ words_put_long ss v state values ∙ long; fit = all_fit; clocks_shown = all_clocks; words_shown = shows }

module _ (v : Verilog) (p : Plan) (values state : List ℕ) (r : IsRunning v p values state) where
  -- after turns
  module _ (order new : List ℕ) (n : new ≡ turns p.tasks.items state order values) where
    after : After v p.tasks.items state r.valid r.plan.tasks_are r.state_fits order values new
    after =
        subst (After v p.tasks.items state r.valid r.plan.tasks_are r.state_fits order values) (sym n)
        (turns_are_steps v p.tasks.items state r.valid r.plan.tasks_are r.state_fits order values r.held.long r.held.fit)

    pub steps_are : env_of v new ≡ steps v (store_of (variables v) state) order (env_of v values)
    steps_are = after.steps_are

    pub new_fit : FitNets v (env_of v new)
    new_fit = after.fit

    still : SourcesShown v state (still_tick v (env_of v values)) (env_of v new)
    still =
        subst (SourcesShown v state (still_tick v (env_of v values))) (sym after.steps_are)
        (sources_stay v r.valid state (still_tick v (env_of v values)) (env_of v values) (still_sources v values state r.state_fits r.held) order)

    pub runs_on : IsRunning v p new state
    runs_on = record {
      valid = r.valid;
      plan = r.plan;
      state_fits = r.state_fits;
      held = record { long = after.long ∙ r.held.long; fit = after.fit; clocks_shown = still.clock_values; words_shown = still.state_values };
    }

  -- after inputs are set
  module _ (tick : Tick) (t : IsTickOf v tick) (new : List ℕ) (n : new ≡ inputs_put p.inputs.items tick.inputs values) where
    abbrev put : List ℕ
    put = inputs_put (map (place_among (valued v)) (names_of (input_nets v))) tick.inputs values

    is : new ≡ put
    is = n ∙ ap (λ (ps : List ℕ). inputs_put ps tick.inputs values) r.plan.inputs_are

    once : Distinct (names_of (input_nets v) ++ names_of (plain_regs v))
    once = subst Distinct (map-append net_name (input_nets v) (plain_regs v)) (sources_once v r.valid)

    input_values : map (env_of v put) (names_of (input_nets v)) ≡ tick.inputs
    input_values =
        inputs_are v (input_nets v) tick.inputs values (distinct_left (names_of (input_nets v)) (names_of (plain_regs v)) once) (input_valued v) r.held.long t.inputs_fit

    others : (m : List ℕ) → (In (names_of (input_nets v)) m → ⊥) → env_of v put m ≡ env_of v values m
    others m none = others_keep v (names_of (input_nets v)) tick.inputs values (input_valued v) r.held.long m none

    fit : FitNets v (env_of v put)
    fit m w i =
        ⊎_elim
        (λ (o : In (names_of (input_nets v)) m). listed m w i o)
        (λ (e : is_among (names_of (input_nets v)) m ≡ false). subst (λ (x : ℕ). x < 2 ^ w) (sym (others m (not_named m e))) (r.held.fit m w i))
        (in_or_not (names_of (input_nets v)) m)
      where
        not_named : (m : List ℕ) → is_among (names_of (input_nets v)) m ≡ false → In (names_of (input_nets v)) m → ⊥
        not_named m e o = let no-such : true ≡ false = sym (is_named (names_of (input_nets v)) m o) ∙ e in cc

        listed : (m : List ℕ) (w : ℕ) → In (nets v) (m, w) → In (names_of (input_nets v)) m → env_of v put m < 2 ^ w
        listed m w i o =
            let s = in_map_from net_name (input_nets v) m o in
            let below : env_of v put s.0.0 < 2 ^ s.0.1 = listed_fit (env_of v put) (input_nets v) tick.inputs input_values t.inputs_fit s.0 s.1 in
            let net : In (nets v) (m, s.0.1) = subst (λ (k : List ℕ). In (nets v) (k, s.0.1)) s.2 (source_is_net v s.0 (in_left (input_nets v) (regs v) s.0 s.1)) in
            let same : s.0.1 ≡ w = sym (width_is v r.valid m s.0.1 net) ∙ width_is v r.valid m w i in
            subst (λ (u : ℕ). env_of v put m < 2 ^ u) same (subst (λ (k : List ℕ). env_of v put k < 2 ^ s.0.1) s.2 below)

    clocks_shown : ClocksShown v (env_of v put)
    clocks_shown k m e =
        others m (λ o. apart (clocks v) (names_of (nets v)) (read_once v r.valid) m (get_in (clocks v) k m e) (net_of m o)) ∙ r.held.clocks_shown k m e
      where
        net_of : (m : List ℕ) → In (names_of (input_nets v)) m → In (names_of (nets v)) m
        net_of m o =
            let s = in_map_from net_name (input_nets v) m o in
            subst (In (names_of (nets v))) s.2 (in_map net_name (nets v) s.0 (source_is_net v s.0 (in_left (input_nets v) (regs v) s.0 s.1)))

    words_still : (s : SizedNet) → In (plain_regs v) s → env_of v put s.0 ≡ stored (store_of (variables v) state) s.0
    words_still s m =
        others s.0 (λ o. apart (names_of (input_nets v)) (names_of (plain_regs v)) once s.0 o (in_map net_name (plain_regs v) s m)) ∙ r.held.words_shown s m

    put_values : AreValues v put state
    put_values = record { long = long_after v (names_of (input_nets v)) tick.inputs values ∙ r.held.long; fit = fit; clocks_shown = clocks_shown; words_shown = words_still }

    pub runs_set : IsRunning v p new state
    runs_set = record { valid = r.valid; plan = r.plan; state_fits = r.state_fits; held = subst (λ (xs : List ℕ). AreValues v xs state) (sym is) put_values }

    pub inputs_set : HaveInputs v tick.inputs (env_of v values) (env_of v new)
    inputs_set = subst (λ (xs : List ℕ). HaveInputs v tick.inputs (env_of v values) (env_of v xs)) (sym is) (record { inputs_are = input_values; others = others })

    pub sources_set : SourcesShown v state tick (env_of v new)
    sources_set =
        subst (λ (xs : List ℕ). SourcesShown v state tick (env_of v xs)) (sym is)
        (record {
          shaped = record { inputs_fit = t.inputs_fit; clocks_rise = t.clocks_rise; state_fits = r.state_fits };
          input_values = input_values;
          clock_values = clocks_shown;
          state_values = words_still;
        })

  -- after an edge
  module _ (tick : Tick) (new_values new_state : List ℕ) (n : new_state ≡ flat_all (all_block_puts tick.clocks values p.blocks.items) state)
      (m : new_values ≡ words_put p.shown.items new_state values) where
    pub next_state : new_state ≡ state_after v state (all_puts v tick (env_of v values))
    next_state = n ∙ edge_state_is v r.valid p.blocks.items r.plan.blocks_are tick values state r.state_fits r.held.fit r.held.clocks_shown

    next_state_fits : FitEach (shape v).state new_state
    next_state_fits = subst (FitEach (shape v).state) (sym next_state) (next_fits v r.valid (env_of v values) r.held.fit state tick r.state_fits)

    pub next_shown : env_of v new_values ≡ words_shown v (store_of (variables v) new_state) (env_of v values)
    next_shown = shown_is v r.valid p.shown.items r.plan.shown_are values new_state new_values r.held.long r.held.fit r.held.clocks_shown next_state_fits m

    pub runs_behind : IsRunning v p new_values new_state
    runs_behind = record {
      valid = r.valid;
      plan = r.plan;
      state_fits = next_state_fits;
      held = shown_values v r.valid p.shown.items r.plan.shown_are values new_state new_values r.held.long r.held.fit r.held.clocks_shown next_state_fits m;
    }

-- unchanged, or after an edge
pub runs_still : {E : Type 0} → (v : Verilog) (p : Plan) (values state : List ℕ) (tick : Tick) (new_values new_state : List ℕ) → IsRunning v p values state
    → (result : Result (Unit {0}) E) → OnOk result (new_state ≡ flat_all (all_block_puts tick.clocks values p.blocks.items) state)
    → OnOk result (new_values ≡ words_put p.shown.items new_state values) → OnErr result ((new_state ≡ state) × (new_values ≡ values)) → IsRunning v p new_values new_state
runs_still v p values state tick new_values new_state r (Ok x) n m k = runs_behind v p values state r tick new_values new_state n m
runs_still v p values state tick new_values new_state r (Err x) n m k =
    subst (λ (xs : List ℕ). IsRunning v p xs new_state) (sym k.1) (subst (IsRunning v p values) (sym k.0) r)

pub edge_state : {E : Type 0} → (v : Verilog) (p : Plan) (values state : List ℕ) (tick : Tick) (new_values new_state : List ℕ) → IsRunning v p values state
    → (result : Result (Unit {0}) E) → OnOk result (new_state ≡ flat_all (all_block_puts tick.clocks values p.blocks.items) state)
    → OnOk result (new_values ≡ words_put p.shown.items new_state values) → OnOk result (new_state ≡ state_after v state (all_puts v tick (env_of v values)))
edge_state v p values state tick new_values new_state r (Ok x) n m = next_state v p values state r tick new_values new_state n m
edge_state v p values state tick new_values new_state r (Err x) n m = tt

pub edge_shown : {E : Type 0} → (v : Verilog) (p : Plan) (values state : List ℕ) (tick : Tick) (new_values new_state : List ℕ) → IsRunning v p values state
    → (result : Result (Unit {0}) E) → OnOk result (new_state ≡ flat_all (all_block_puts tick.clocks values p.blocks.items) state)
    → OnOk result (new_values ≡ words_put p.shown.items new_state values)
    → OnOk result (env_of v new_values ≡ words_shown v (store_of (variables v) new_state) (env_of v values))
edge_shown v p values state tick new_values new_state r (Ok x) n m = next_shown v p values state r tick new_values new_state n m
edge_shown v p values state tick new_values new_state r (Err x) n m = tt

-- so does every order of the edge's events
pub every_order : {E : Type 0} → EdgesLeaveNext → (v : Verilog) → Valid v → (state : List ℕ) (tick : Tick) (env : Env) (next : List ℕ) (result : Result (Unit {0}) E)
    → OnOk result (next ≡ state_after v state (all_puts v tick env)) → OnOk result (EveryOrderLeaves v state tick env next)
every_order law v valid state tick env next (Ok x) n = λ rest first second e. (law v valid state tick env rest first second e).0 ∙ sym n
every_order law v valid state tick env next (Err x) n = tt
