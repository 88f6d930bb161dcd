-- One turn of each task along an order in which each stands behind those that it reads from ends at rest.
use Rattle.std.proofs.Common.{◌≡◌, ℕ, suc, ◌≤◌, List, [], ◌∷◌, length, refl, sym, ap, ◌∙◌, inl, inr, subst, arith, length-append, get_or-set_same, get_or-set_other}
use Rattle.std.specs.Prelude.{Option, Some, None, slice_get, slice_index, unwrap_or}
use Rattle.std.proofs.lemmas.List.{length-map}
use Rattle.std.proofs.lemmas.Option.{slice_get_within}
use Rattle.fir_base.specs.Lists.{In, Distinct}
use Rattle.fir_base.specs.Ticks.{Tick}
use Rattle.fir_base.proofs.Elements.{number_of, there}
use Rattle.fir_graph.proofs.Positions.{distinct_at}
use Rattle.ver_ast.specs.declared.tree.Verilog.{Verilog}
use Rattle.ver_ast.specs.Nets.{SizedNet, nets, clocks, names_of, variables}
use Rattle.ver_ast.specs.Processes.{Process, processes, target, given}
use Rattle.ver_ast.specs.Settled.{SourcesShown, Rest}
use Rattle.ver_ast.specs.Stores.{store_of}
use Rattle.ver_order.proofs.Rounds.{sources_stay}
use Rattle.ver_order.proofs.Shown.{shown_rest}
use Rattle.ver_sim.specs.declared.plan.Plan.{Plan}
use Rattle.ver_sim.specs.declared.task.Task.{Task}
use Rattle.ver_sim.specs.working.Orders.{HaveTargets, IsTaskOrder, ReadsFrom}
use Rattle.ver_sim.specs.working.Running.{IsRunning}
use Rattle.ver_sim.specs.working.Turns.{turn, turn_of, turns}
use Rattle.ver_sim.specs.working.Valued.{env_of}
use Rattle.ver_sim.specs.working.Works.{work_number, work_places}
use Rattle.ver_sim.proofs.InTurn.{turn_long}
use Rattle.ver_sim.proofs.Keeping.{steps_are, new_fit}
use Rattle.ver_sim.proofs.TaskTargets.{have_targets}
use Rattle.ver_sim.proofs.WorkPlaces.{same_work}

module _ (tasks : List Task) (state : List ℕ) (places : ℕ) (h : HaveTargets tasks places) where
  -- the task of that number does not drive the place
  abbrev NotBy : ℕ → ℕ → Type 0
  NotBy q j = (u : Task) → slice_get tasks j ≡ Some u → q ≡ u.target → ⊥

  kept_once : (q k : ℕ) (values : List ℕ) → NotBy q k → slice_index (turn tasks state values k) q ≡ slice_index values q
  kept_once q k values other = by (slice_get tasks k) refl
    where
      by : (o : Option Task) → slice_get tasks k ≡ o → slice_index (turn_of state values o) q ≡ slice_index values q
      by None e = refl
      by (Some u) e = get_or-set_other values u.target q (unwrap_or (work_number u.work state values) 0) 0 (other u e)

  -- turns of others keep the value of a place
  kept : (q : ℕ) (ks values : List ℕ) → ((j : ℕ) → In ks j → NotBy q j) → slice_index (turns tasks state ks values) q ≡ slice_index values q
  unfolding turns
  kept q [] values others = refl
  kept q (k ∷ ks) values others = kept q ks (turn tasks state values k) (λ j m. others j (inr m)) ∙ kept_once q k values (others k (inl refl))

  -- none of these reads from itself or from one behind it
  abbrev NoneLater : List ℕ → Type 0
  NoneLater ks = (i n k j : ℕ) → slice_get ks i ≡ Some k → slice_get ks n ≡ Some j → i ≤ n → ReadsFrom tasks k j → ⊥

  abbrev Shows : List ℕ → Task → Type 0
  Shows values t = slice_index values t.target ≡ unwrap_or (work_number t.work state values) 0

  first_shows : (k : ℕ) (ks values : List ℕ) → places ≤ length values → Distinct (k ∷ ks) → NoneLater (k ∷ ks) → (t : Task) → slice_get tasks k ≡ Some t
      → Shows (turns tasks state (k ∷ ks) values) t
  unfolding turns
  first_shows k ks values long once none t at =
      let new = turns tasks state ks (turn tasks state values k) in
      let last : slice_index new t.target ≡ slice_index (turn tasks state values k) t.target =
      kept t.target ks (turn tasks state values k) (λ j m u e same. once.0 (subst (In ks) (sym (h.once k j t u at e same)) m)) in
      let own : slice_index (turn tasks state values k) t.target ≡ unwrap_or (work_number t.work state values) 0 =
      ap (λ (o : Option Task). slice_index (turn_of state values o) t.target) at
      ∙ get_or-set_same values t.target (unwrap_or (work_number t.work state values) 0) 0 (omega (arith, h.within k t at, long)) in
      let reads : (q : ℕ) → In (work_places t.work) q → slice_index new q ≡ slice_index values q =
      λ q m. kept q (k ∷ ks) values (λ j i u e same.
      let n = number_of (k ∷ ks) j i in
      none 0 n.0 k j refl n.1 (omega arith) (record { reader = t; is_reader = at; driver = u; is_driver = e; reads = subst (In (work_places t.work)) same m })) in
      last ∙ own ∙ sym (ap (λ (o : Option ℕ). unwrap_or o 0) (same_work values new state t.work reads))

  all_show : (ks values : List ℕ) → places ≤ length values → Distinct ks → NoneLater ks → (k : ℕ) → In ks k → (t : Task) → slice_get tasks k ≡ Some t
      → Shows (turns tasks state ks values) t
  unfolding turns
  all_show [] values long once none k m t at = absurd m
  all_show (i ∷ ks) values long once none k (inl s) t at = first_shows i ks values long once none t (ap (slice_get tasks) s ∙ at)
  all_show (i ∷ ks) values long once none k (inr m) t at =
      all_show ks (turn tasks state values i) (omega (arith, long, turn_long tasks state i values)) once.1 (λ i n k j e f le. none (suc i) (suc n) k j e f (omega (arith, le))) k m t at

  none_later : (order : List ℕ) → IsTaskOrder tasks order → NoneLater order
  none_later order o i n k j e f le r =
      let b = o.after i k j e r in
      let same : b.0 ≡ n = distinct_at order o.once b.0 n j b.2 f in
      omega (arith, same, b.1, le)

  pub settled : (order values : List ℕ) → places ≤ length values → IsTaskOrder tasks order → (k : ℕ) (t : Task) → slice_get tasks k ≡ Some t
      → slice_index (turns tasks state order values) t.target ≡ unwrap_or (work_number t.work state (turns tasks state order values)) 0
  settled order values long o k t at = all_show order values long o.once (none_later order o) k (o.all k (slice_get_within tasks k t at)) t at

module _ (v : Verilog) (p : Plan) (values state new : List ℕ) (r : IsRunning v p values state) (n : new ≡ turns p.tasks.items state p.order.items values) where
  pub at_rest : (tick : Tick) → SourcesShown v state tick (env_of v values) → Rest v state tick (env_of v new)
  at_rest tick begins = (shown_rest v r.valid state tick (env_of v new) still).0 shown
    where
      still : SourcesShown v state tick (env_of v new)
      still =
          subst (SourcesShown v state tick) (sym (steps_are v p values state r p.order.items new n))
          (sources_stay v r.valid state tick (env_of v values) begins p.order.items)

      long : length (nets v) ≤ length values
      long = omega (arith, r.held.long, length-append (names_of (nets v)) (clocks v), length-map (nets v) (λ (s : SizedNet). s.0))

      shown : (q : Process) → In (processes v) q → env_of v new (target q) ≡ given v (store_of (variables v) state) (env_of v new) q
      shown q m =
          let k = number_of (processes v) q m in
          let t = there p.tasks.items k.0 (omega (arith, slice_get_within (processes v) k.0 q k.1, r.plan.tasks_are.as_many)) in
          let task = r.plan.tasks_are.each k.0 t.0 q t.1 k.1 in
          let shows : slice_index new t.0.target ≡ unwrap_or (work_number t.0.work state new) 0 =
          subst (λ (xs : List ℕ). slice_index xs t.0.target ≡ unwrap_or (work_number t.0.work state xs) 0) (sym n)
          (settled p.tasks.items state (length (nets v)) (have_targets v r.valid p.tasks.items r.plan.tasks_are) p.order.items values long r.plan.order_is k.0 t.0 t.1) in
          ap (slice_index new) (sym task.targets) ∙ shows
          ∙ ap (λ (o : Option ℕ). unwrap_or o 0) (task.computes state new r.state_fits (new_fit v p values state r p.order.items new n))
