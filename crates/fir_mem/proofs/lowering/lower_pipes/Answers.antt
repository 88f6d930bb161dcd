use Rattle.std.proofs.Common.{ap, sym, ◌∙◌}
use Rattle.fir_mem.specs.working.Built.{Built}
use Rattle.fir_mem.specs.working.HasPipes.{has_pipes}
use Rattle.fir_mem.proofs.LoweredNets.{begun, built_is, built_lowers, built_ordered, given_lowers, given_ordered, itself_lowers, narrow_begun}
use Rattle.fir_mem.proofs.lowering.lower_pipes.Goals as goal

pub returns-then-not-has_pipes-clause-lowers : goal.returns-then-not-has_pipes-clause-lowers
returns-then-not-has_pipes-clause-lowers c =
    itself_lowers c.nodes_have_their_values.ensures c.args.net c.args.order c.requires.whole c.requires.writable c.requires.ordered c.nodes_have_their_types.ensures c.root_is_clock.ensures
    (sym (c.has_pipes.ensures ∙ ap has_pipes c.as_slice.ensures) ∙ c.if-not-has_pipes.true)

pub take_pipes-requires : goal.take_pipes-requires
take_pipes-requires c =
    narrow_begun c.args.net c.new-lowered.result c.requires.whole
    (begun c.args.net c.new-lowered.result _ _ c.new-lowered.ensures (c.into_vec.ensures ∙ c.replace-leaves.ensures.value) (c.into_vec-2.ensures ∙ c.replace-nodes.ensures.value))

pub returns-clause-lowers : goal.returns-clause-lowers
returns-clause-lowers c =
    let first =
    begun c.args.net c.new-lowered.result _ _ c.new-lowered.ensures (c.into_vec.ensures ∙ c.replace-leaves.ensures.value) (c.into_vec-2.ensures ∙ c.replace-nodes.ensures.value) in
    let is = built_is c.args.net c.take_pipes.new.lowered c.new-lowered.result c.in_ok-writes.writes.items c.as_slice-2.result.now first c.as_slice-2.ensures.value c.in_ok-take_pipes.ensures in
    given_lowers c.args.net c.take_pipes.new.lowered c.from_vec-3.result c.from_vec-4.result (c.from_vec-3.ensures ∙ ap (λ (b : Built). b.leaves) c.lowered.view_is)
    (c.from_vec-4.ensures ∙ ap (λ (b : Built). b.nodes) c.lowered.view_is)
    (built_lowers c.nodes_have_their_values.ensures c.args.net c.args.order c.requires.whole c.requires.writable c.requires.ordered c.nodes_have_their_types.ensures c.root_is_clock.ensures
    c.in_ok-writes.writes.items c.in_ok-writes.ensures c.take_pipes.new.lowered is)

pub returns-clause-ordered : goal.returns-clause-ordered
returns-clause-ordered c =
    let first =
    begun c.args.net c.new-lowered.result _ _ c.new-lowered.ensures (c.into_vec.ensures ∙ c.replace-leaves.ensures.value) (c.into_vec-2.ensures ∙ c.replace-nodes.ensures.value) in
    let is = built_is c.args.net c.take_pipes.new.lowered c.new-lowered.result c.in_ok-writes.writes.items c.as_slice-2.result.now first c.as_slice-2.ensures.value c.in_ok-take_pipes.ensures in
    given_ordered c.args.net c.take_pipes.new.lowered c.from_vec-3.result c.from_vec-4.result c.args.order c.in_ok-order.order c.deref.result.now
    (c.from_vec-3.ensures ∙ ap (λ (b : Built). b.leaves) c.lowered.view_is) (c.from_vec-4.ensures ∙ ap (λ (b : Built). b.nodes) c.lowered.view_is) c.in_ok-order.ensures
    (c.deref.ensures.value ∙ ap (λ (b : Built). b.entries) c.lowered.view_is)
    (built_ordered c.nodes_have_their_values.ensures c.args.net c.args.order c.requires.whole c.requires.writable c.requires.ordered c.nodes_have_their_types.ensures c.root_is_clock.ensures
    c.in_ok-writes.writes.items c.in_ok-writes.ensures c.take_pipes.new.lowered is)
