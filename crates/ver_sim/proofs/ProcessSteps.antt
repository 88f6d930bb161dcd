-- Turns of tasks are steps of processes.
use Rattle.std.proofs.Common.{subst, ◌≡◌, ℕ, List, [], ◌∷◌, length, cond, refl, sym, ap, ◌∙◌, arith}
use Rattle.std.specs.Prelude.{slice_get, slice_index, slice_set, Option, Some, None, unwrap_or}
use Rattle.std.specs.Str.{bytes_eq}
use Rattle.std.proofs.lemmas.Option.{slice_get_within}
use Rattle.fir_base.specs.Lists.{In}
use Rattle.fir_base.proofs.Elements.{there, get_in, number_of}
use Rattle.fir_base.proofs.Members.{in_left}
use Rattle.fir_base.specs.Ticks.{FitEach}
use Rattle.ver_ast.specs.declared.tree.Verilog.{Verilog}
use Rattle.ver_ast.specs.Nets.{nets, clocks, names_of, variables, shape}
use Rattle.ver_ast.specs.Valid.{Valid}
use Rattle.ver_ast.specs.Stores.{Store, store_of}
use Rattle.ver_ast.specs.Processes.{Process, processes, target, wanted}
use Rattle.ver_ast.proofs.Processes.{target_is_net}
use Rattle.ver_order.specs.Steps.{process_step, step, step_of, steps}
use Rattle.ver_order.specs.working.Laws.{FitNets}
use Rattle.ver_order.proofs.FittingSteps.{steps_fit}
use Rattle.ver_sim.specs.declared.task.Task.{Task}
use Rattle.ver_sim.specs.declared.unsettled.NotYet.{NotYet}
use Rattle.ver_sim.specs.working.Works.{work_number}
use Rattle.ver_sim.specs.working.Turns.{turn, turn_of, turns, ShowFirst, IsFirstUnsettled}
use Rattle.ver_sim.specs.working.Valued.{valued, env_of}
use Rattle.ver_sim.specs.working.Tasks.{IsTaskOf, AreTasks, IsNotYet}
use Rattle.ver_sim.proofs.InTurn.{turn_long}
use Rattle.ver_sim.proofs.PlacedNames.{put_value}

-- as many tasks as processes
beside : (v : Verilog) (tasks : List Task) → AreTasks v tasks → (k : ℕ) (p : Process) → slice_get (processes v) k ≡ Some p → (t : Task) × (slice_get tasks k ≡ Some t)
beside v tasks a k p e = there tasks k (omega (arith, slice_get_within (processes v) k p e, a.as_many))

module _ (v : Verilog) (tasks : List Task) (state : List ℕ) (valid : Valid v) (a : AreTasks v tasks) (state_fits : FitEach (shape v).state state) where
  abbrev words : Store
  words = store_of (variables v) state

  valued_target : (p : Process) → In (processes v) p → In (valued v) (target p)
  valued_target p m = in_left (names_of (nets v)) (clocks v) (target p) (target_is_net v valid p m)

  one_turn : (k : ℕ) (values : List ℕ) → length values ≡ length (valued v) → FitNets v (env_of v values) → env_of v (turn tasks state values k) ≡ step v words (env_of v values) k
  one_turn k values long fit = by (slice_get (processes v) k) refl (slice_get tasks k) refl
    where
      here : (p : Process) (t : Task) → In (processes v) p → IsTaskOf v t p → (n : List ℕ) → env_of v (turn_of state values (Some t)) n ≡ process_step v words (env_of v values) p n
      here p t m is n =
          ap (λ (j : ℕ). env_of v (slice_set values j (unwrap_or (work_number t.work state values) 0)) n) is.targets
          ∙ put_value v values (target p) (unwrap_or (work_number t.work state values) 0) (valued_target p m) long n
          ∙ ap (λ (o : Option ℕ). cond (bytes_eq n (target p)) (unwrap_or o 0) (env_of v values n)) (is.computes state values state_fits fit)

      by : (q : Option Process) → slice_get (processes v) k ≡ q → (o : Option Task) → slice_get tasks k ≡ o
          → env_of v (turn_of state values o) ≡ step_of v words (env_of v values) q
      by None e None f = refl
      by (Some p) e (Some t) f = λ i n. here p t (get_in (processes v) k p e) (a.each k t p f e) n i
      by None e (Some t) f =
          let q = there (processes v) k (omega (arith, slice_get_within tasks k t f, a.as_many)) in
          let no-such : None ≡ Some q.0 = sym e ∙ q.1 in
          absurd (cc)
      by (Some p) e None f =
          let t = beside v tasks a k p e in
          let no-such : None ≡ Some t.0 = sym f ∙ t.1 in
          absurd (cc)

  -- values that fit still do after a step
  step_fits : (k : ℕ) (values : List ℕ) → FitNets v (env_of v values) → FitNets v (step v words (env_of v values) k)
  unfolding steps
  step_fits k values fit = steps_fit v valid state state_fits (k ∷ []) (env_of v values) fit

  turn_fits : (k : ℕ) (values : List ℕ) → length values ≡ length (valued v) → FitNets v (env_of v values) → FitNets v (env_of v (turn tasks state values k))
  turn_fits k values long fit = subst (FitNets v) (sym (one_turn k values long fit)) (step_fits k values fit)

  -- after turns: the steps, and what is kept
  pub record After (order values new : List ℕ) : Type 0 where
    pub steps_are : env_of v new ≡ steps v words order (env_of v values)
    pub long : length new ≡ length values
    pub fit : FitNets v (env_of v new)

  pub turns_are_steps : (order values : List ℕ) → length values ≡ length (valued v) → FitNets v (env_of v values) → After order values (turns tasks state order values)
  unfolding turns steps
  turns_are_steps [] values long fit = record { steps_are = refl; long = refl; fit = fit }
  turns_are_steps (k ∷ ks) values long fit =
      let rest = turns_are_steps ks (turn tasks state values k) (turn_long tasks state k values ∙ long) (turn_fits k values long fit) in
      record { steps_are = rest.steps_are ∙ ap (steps v words ks) (one_turn k values long fit); long = rest.long ∙ turn_long tasks state k values; fit = rest.fit }

  shown_there : (values : List ℕ) → FitNets v (env_of v values) → (k : ℕ) (t : Task) (p : Process) → slice_get tasks k ≡ Some t → slice_get (processes v) k ≡ Some p
      → work_number t.work state values ≡ Some (slice_index values t.target) → wanted v words (env_of v values) p ≡ Some (env_of v values (target p))
  shown_there values fit k t p f e h =
      let is = a.each k t p f e in
      sym (is.computes state values state_fits fit) ∙ h ∙ ap (λ (j : ℕ). Some (slice_index values j)) is.targets

  pub all_shown : (values : List ℕ) → FitNets v (env_of v values) → ShowFirst tasks state values (length tasks) → (p : Process) → In (processes v) p
      → wanted v words (env_of v values) p ≡ Some (env_of v values (target p))
  all_shown values fit h p m =
      let k = number_of (processes v) p m in
      let t = beside v tasks a k.0 p k.1 in
      shown_there values fit k.0 t.0 p t.1 k.1 (h k.0 t.0 (slice_get_within tasks k.0 t.0 t.1) t.1)

  pub first_is : (values : List ℕ) → FitNets v (env_of v values) → (n : NotYet) → IsFirstUnsettled tasks state values n → IsNotYet v words (env_of v values) n
  first_is values fit n h =
      let q = there (processes v) n.process (omega (arith, slice_get_within tasks n.process h.task h.there, a.as_many)) in
      let is = a.each n.process h.task q.0 h.there q.1 in
      record {
        process = q.0;
        there = q.1;
        is_shown = h.is_shown ∙ ap (slice_index values) is.targets;
        is_wanted = h.is_wanted ∙ is.computes state values state_fits fit;
        differ = h.differ;
        before = λ k p lt e. let t = beside v tasks a k p e in shown_there values fit k t.0 p t.1 e (h.before k t.0 lt t.1);
      }
