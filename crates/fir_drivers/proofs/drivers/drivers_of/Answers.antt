use Rattle.std.proofs.Common.{map}
use Rattle.fir_leaf.specs.working.NodeBlocks.{block_in}
use Rattle.fir_merge.proofs.GrownTerms.{below_later, grows_more}
use Rattle.fir_drivers.proofs.BelowBounds.{bounds_later}
use Rattle.fir_drivers.proofs.DrivenModules.{are_drivers}
use Rattle.fir_drivers.proofs.drivers.drivers_of.Goals as goal

pub walk_block-requires-clause-setting : goal.walk_block-requires-clause-setting
walk_block-requires-clause-setting c =
    let grown = c.in_ok-nothing.ensures.grown in
    let later = c.in_ok-slots.ensures.below.0 in
    let all = grows_more c.args.net.now c.add_zero.new.net c.starts.new.net grown.grows later in (
      bounds_later c.args.net.now c.starts.new.net c.args.bounds.now all c.requires,
      below_later c.add_zero.new.net c.starts.new.net c.in_ok-nothing.nothing.read later grown.below,
    )

pub returns-clause-are : goal.returns-clause-are
returns-clause-are c =
    are_drivers _ c.args.registers.now (block_in c.args.nodes.now c.args.body.now) c.args.net.now c.add_zero.new.net c.starts.new.net c.walk_block.new.net
    c.in_ok-slots.slots.items c.walk_block.new.slots.items (map (λ v. v.items) c.in_ok-lists.lists.items) (map (λ v. v.items) c.walk_block.new.lists.items)
    c.in_ok-nothing.ensures.grown.grows c.in_ok-slots.ensures.below.0 c.in_ok-nothing.ensures.stands c.in_ok-slots.ensures.stand c.in_ok-lists.ensures
    c.in_ok-walk_block.ensures.goes.same_length c.in_ok-walk_block.ensures.walks
