use Rattle.std.proofs.Common.{◌≡◌, ℕ, List, map, sym, ◌∙◌, subst}
use Rattle.ver_ast.specs.Nets.{names_of, output_nets, variables}
use Rattle.ver_ast.specs.Next.{all_puts, state_after}
use Rattle.ver_ast.specs.Stores.{store_of}
use Rattle.ver_sim.specs.working.Valued.{env_of}
use Rattle.ver_sim.specs.working.FlatStates.{flat_all}
use Rattle.ver_sim.specs.working.Blocks.{IsRising, all_block_puts}
use Rattle.ver_sim.specs.working.Views.{VSimView, shown_outputs}
use Rattle.ver_sim.proofs.RisingClocks.{clocks_rise}
use Rattle.ver_sim.proofs.OutputValues.{edge_outputs}
use Rattle.ver_sim.proofs.Keeping.{runs_behind, next_state, next_shown}
use Rattle.ver_sim.proofs.sim.VSim.take.Goals as goal

pub take_edges-requires : goal.take_edges-requires
take_edges-requires c = subst IsRising (sym c.clocks.ensures) (clocks_rise 0 _ c.args.tick.now.tick.clocks c.requires.clocks_rise)

pub invariant_of-self : goal.invariant_of-self
invariant_of-self c =
    let p = c.self.inside.plan in
    let values = c.self.inside.values.items in
    let state = c.self.inside.state.items in
    let new = c.take_edges.new.state.items in
    let next : new ≡ flat_all (all_block_puts c.args.tick.now.tick.clocks values p.blocks.items) state =
    subst (λ (ks : List ℕ). new ≡ flat_all (all_block_puts ks values p.blocks.items) state) c.clocks.ensures c.take_edges.ensures.next in
    let v = c.self.inside.tree in
    let r = c.self.invariant.0 in
    let new_values = c.take_edges.new.values.items in (
      runs_behind v p values state r c.args.tick.now.tick new_values new next c.take_edges.ensures.shown,
      c.self.invariant.1
          ∙ sym (edge_outputs v r.valid (store_of (variables v) new) (env_of v values) (env_of v new_values) (next_shown v p values state r c.args.tick.now.tick new_values new next c.take_edges.ensures.shown)),
    )

pub returns-clause-outputs : goal.returns-clause-outputs
returns-clause-outputs c =
    let v = c.self.inside.tree in
    let p = c.self.inside.plan in
    let values = c.self.inside.values.items in
    let state = c.self.inside.state.items in
    let new = c.take_edges.new.state.items in
    let new_values = c.take_edges.new.values.items in
    let r = c.self.invariant.0 in
    let next : new ≡ flat_all (all_block_puts c.args.tick.now.tick.clocks values p.blocks.items) state =
    subst (λ (ks : List ℕ). new ≡ flat_all (all_block_puts ks values p.blocks.items) state) c.clocks.ensures c.take_edges.ensures.next in
    subst (λ (s : VSimView). map (env_of v new_values) (names_of (output_nets v)) ≡ shown_outputs s) c.self.view_is
    (edge_outputs v r.valid (store_of (variables v) new) (env_of v values) (env_of v new_values) (next_shown v p values state r c.args.tick.now.tick new_values new next c.take_edges.ensures.shown))

pub returns-clause-next : goal.returns-clause-next
returns-clause-next c =
    let v = c.self.inside.tree in
    let p = c.self.inside.plan in
    let values = c.self.inside.values.items in
    let state = c.self.inside.state.items in
    let tick = c.args.tick.now.tick in
    let new = c.take_edges.new.state.items in
    let next : new ≡ flat_all (all_block_puts tick.clocks values p.blocks.items) state =
    subst (λ (ks : List ℕ). new ≡ flat_all (all_block_puts ks values p.blocks.items) state) c.clocks.ensures c.take_edges.ensures.next in
    subst (λ (s : VSimView). new ≡ state_after s.tree s.state (all_puts s.tree tick (env_of s.tree s.values))) c.self.view_is
    (next_state v p values state c.self.invariant.0 tick c.take_edges.new.values.items new next c.take_edges.ensures.shown)
