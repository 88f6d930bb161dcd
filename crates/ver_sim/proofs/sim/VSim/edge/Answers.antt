use Rattle.std.proofs.Common.{◌≡◌, ℕ, List, length, map, sym, ◌∙◌, subst}
use Rattle.std.specs.Prelude.{OnOk, IfErr}
use Rattle.std.proofs.lemmas.Result.{IfOk-weaker, IfErr-weaker}
use Rattle.ver_ast.specs.Nets.{names_of, output_nets, variables}
use Rattle.ver_ast.specs.Next.{all_puts, state_after}
use Rattle.ver_ast.specs.Stores.{store_of}
use Rattle.ver_order.specs.ShownWords.{words_shown}
use Rattle.ver_order.specs.working.Laws.{ShowValues}
use Rattle.ver_sim.specs.working.Valued.{env_of}
use Rattle.ver_sim.specs.working.FlatStates.{flat_all}
use Rattle.ver_sim.specs.working.Blocks.{IsRising, all_block_puts}
use Rattle.ver_sim.specs.working.Turns.{ShowFirst, IsFirstUnsettled}
use Rattle.ver_sim.specs.working.Tasks.{IsNotYet}
use Rattle.ver_sim.specs.working.Edges.{EveryOrderLeaves}
use Rattle.ver_sim.specs.working.Views.{VSimView, shown_outputs}
use Rattle.ver_sim.proofs.ProcessSteps.{all_shown, first_is}
use Rattle.ver_sim.proofs.RisingClocks.{clocks_rise}
use Rattle.ver_sim.proofs.OutputValues.{still_outputs}
use Rattle.ver_sim.proofs.Keeping.{edge_state, edge_shown, every_order, runs_still}
use Rattle.ver_sim.proofs.sim.VSim.edge.Goals as goal

pub take_settled_edges-requires : goal.take_settled_edges-requires
take_settled_edges-requires c = subst IsRising (sym c.clocks.ensures) (clocks_rise 0 _ c.args.tick.now.tick.clocks c.requires.clocks_rise)

pub invariant_of-self : goal.invariant_of-self
invariant_of-self c =
    let v = c.self.inside.tree in
    let p = c.self.inside.plan in
    let values = c.self.inside.values.items in
    let state = c.self.inside.state.items in
    let tick = c.args.tick.now.tick in
    let new = c.take_settled_edges.new.state.items in
    let new_values = c.take_settled_edges.new.values.items in
    let r = c.self.invariant.0 in
    let next : OnOk c.take_settled_edges.result (new ≡ flat_all (all_block_puts tick.clocks values p.blocks.items) state) =
    subst (λ (ks : List ℕ). OnOk c.take_settled_edges.result (new ≡ flat_all (all_block_puts ks values p.blocks.items) state)) c.clocks.ensures c.take_settled_edges.ensures.next in (
      runs_still v p values state tick new_values new r c.take_settled_edges.result next c.take_settled_edges.ensures.shown c.take_settled_edges.ensures.unchanged,
      c.self.invariant.1
          ∙ sym (still_outputs v r.valid values state new_values new c.take_settled_edges.result
          (edge_shown v p values state tick new_values new r c.take_settled_edges.result next c.take_settled_edges.ensures.shown) c.take_settled_edges.ensures.unchanged),
    )

pub returns-clause-outputs : goal.returns-clause-outputs
returns-clause-outputs c =
    let v = c.self.inside.tree in
    let p = c.self.inside.plan in
    let values = c.self.inside.values.items in
    let state = c.self.inside.state.items in
    let tick = c.args.tick.now.tick in
    let new = c.take_settled_edges.new.state.items in
    let new_values = c.take_settled_edges.new.values.items in
    let r = c.self.invariant.0 in
    let next : OnOk c.take_settled_edges.result (new ≡ flat_all (all_block_puts tick.clocks values p.blocks.items) state) =
    subst (λ (ks : List ℕ). OnOk c.take_settled_edges.result (new ≡ flat_all (all_block_puts ks values p.blocks.items) state)) c.clocks.ensures c.take_settled_edges.ensures.next in
    subst (λ (s : VSimView). map (env_of v new_values) (names_of (output_nets v)) ≡ shown_outputs s) c.self.view_is
    (still_outputs v r.valid values state new_values new c.take_settled_edges.result
    (edge_shown v p values state tick new_values new r c.take_settled_edges.result next c.take_settled_edges.ensures.shown) c.take_settled_edges.ensures.unchanged)

pub returns-clause-settled : goal.returns-clause-settled
returns-clause-settled c =
    let v = c.self.inside.tree in
    let tasks = c.self.inside.plan.tasks.items in
    let state = c.self.inside.state.items in
    let values = c.self.inside.values.items in
    let r = c.self.invariant.0 in
    subst (λ (s : VSimView). OnOk c.take_settled_edges.result (ShowValues s.tree s.state (env_of s.tree s.values))) c.self.view_is
    (IfOk-weaker c.take_settled_edges.result (λ _. ShowFirst tasks state values (length tasks)) (λ _. ShowValues v state (env_of v values))
    (λ _ h. all_shown v tasks state r.valid r.plan.tasks_are r.state_fits values r.held.fit h) c.take_settled_edges.ensures.settled)

pub returns-clause-next : goal.returns-clause-next
returns-clause-next c =
    let v = c.self.inside.tree in
    let p = c.self.inside.plan in
    let state = c.self.inside.state.items in
    let values = c.self.inside.values.items in
    let tick = c.args.tick.now.tick in
    let new = c.take_settled_edges.new.state.items in
    let next : OnOk c.take_settled_edges.result (new ≡ flat_all (all_block_puts tick.clocks values p.blocks.items) state) =
    subst (λ (ks : List ℕ). OnOk c.take_settled_edges.result (new ≡ flat_all (all_block_puts ks values p.blocks.items) state)) c.clocks.ensures c.take_settled_edges.ensures.next in
    subst (λ (s : VSimView). OnOk c.take_settled_edges.result (new ≡ state_after s.tree s.state (all_puts s.tree tick (env_of s.tree s.values)))) c.self.view_is
    (edge_state v p values state tick c.take_settled_edges.new.values.items new c.self.invariant.0 c.take_settled_edges.result next c.take_settled_edges.ensures.shown)

pub returns-clause-every_order : goal.returns-clause-every_order
returns-clause-every_order c =
    let v = c.self.inside.tree in
    let p = c.self.inside.plan in
    let state = c.self.inside.state.items in
    let values = c.self.inside.values.items in
    let tick = c.args.tick.now.tick in
    let new = c.take_settled_edges.new.state.items in
    let next : OnOk c.take_settled_edges.result (new ≡ flat_all (all_block_puts tick.clocks values p.blocks.items) state) =
    subst (λ (ks : List ℕ). OnOk c.take_settled_edges.result (new ≡ flat_all (all_block_puts ks values p.blocks.items) state)) c.clocks.ensures c.take_settled_edges.ensures.next in
    subst (λ (s : VSimView). OnOk c.take_settled_edges.result (EveryOrderLeaves s.tree s.state tick (env_of s.tree s.values) new)) c.self.view_is
    (every_order c.edges_leave_next.ensures.next v c.self.invariant.0.valid state tick (env_of v values) new c.take_settled_edges.result
    (edge_state v p values state tick c.take_settled_edges.new.values.items new c.self.invariant.0 c.take_settled_edges.result next c.take_settled_edges.ensures.shown))

pub returns-clause-shown : goal.returns-clause-shown
returns-clause-shown c =
    let v = c.self.inside.tree in
    let p = c.self.inside.plan in
    let state = c.self.inside.state.items in
    let values = c.self.inside.values.items in
    let tick = c.args.tick.now.tick in
    let new = c.take_settled_edges.new.state.items in
    let next : OnOk c.take_settled_edges.result (new ≡ flat_all (all_block_puts tick.clocks values p.blocks.items) state) =
    subst (λ (ks : List ℕ). OnOk c.take_settled_edges.result (new ≡ flat_all (all_block_puts ks values p.blocks.items) state)) c.clocks.ensures c.take_settled_edges.ensures.next in
    let new_values = c.take_settled_edges.new.values.items in
    subst (λ (s : VSimView). OnOk c.take_settled_edges.result (env_of v new_values ≡ words_shown s.tree (store_of (variables v) new) (env_of s.tree s.values))) c.self.view_is
    (edge_shown v p values state tick new_values new c.self.invariant.0 c.take_settled_edges.result next c.take_settled_edges.ensures.shown)

pub returns-clause-not_yet : goal.returns-clause-not_yet
returns-clause-not_yet c =
    let v = c.self.inside.tree in
    let tasks = c.self.inside.plan.tasks.items in
    let state = c.self.inside.state.items in
    let values = c.self.inside.values.items in
    let r = c.self.invariant.0 in
    subst (λ (s : VSimView). IfErr c.take_settled_edges.result (IsNotYet s.tree (store_of (variables s.tree) s.state) (env_of s.tree s.values))) c.self.view_is
    (IfErr-weaker c.take_settled_edges.result (IsFirstUnsettled tasks state values) (IsNotYet v (store_of (variables v) state) (env_of v values))
    (λ n h. first_is v tasks state r.valid r.plan.tasks_are r.state_fits values r.held.fit n h) c.take_settled_edges.ensures.not_yet)
