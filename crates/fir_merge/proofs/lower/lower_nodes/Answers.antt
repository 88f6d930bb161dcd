use Rattle.std.proofs.Common.{List, length, take, sym, subst}
use Rattle.fir_bits.specs.Forms.{no_type}
use Rattle.fir_connect.specs.working.Lowered.{zero_of}
use Rattle.fir_leaf.specs.working.Nodes.{entries, entry_of}
use Rattle.fir_merge.specs.declared.bound.Bound.{Bound}
use Rattle.fir_merge.specs.working.Bounds.{types_in}
use Rattle.fir_merge.specs.working.Entries.{EntriesStand}
use Rattle.fir_merge.proofs.GrownEntries.{bounds_below_later, entries_later}
use Rattle.fir_merge.proofs.GrownTerms.{grows_more}
use Rattle.fir_merge.proofs.NodeEntries.{entries_more, no_entries}
use Rattle.fir_merge.proofs.StandingEntries.{bounds_push, entries_stand_push}
use Rattle.fir_merge.proofs.StandingValues.{stands_later}
use Rattle.fir_merge.proofs.lower.lower_nodes.Goals as goal

pub loop-place-init : goal.loop-place-init
loop-place-init c =
    let none = c.new-bounds.ensures.items in
    record {
      grows = c.in_ok-nothing.ensures.grown.grows;
      nothing = c.in_ok-nothing.ensures.stands (types_in c.args.types.now);
      below = rw none tt;
      stand = rw (none, no_entries) tt;
    }

pub loop-place-preserved : goal.loop-place-preserved
loop-place-preserved c =
    let holds = types_in c.args.types.now in
    let middle = c.loop-place.net in
    let new = c.lower_node.new.net in
    let nodes = c.args.nodes.now in
    let place = c.loop-place.place in
    let node = c.index-nodes-place.result in
    let known = entries (take place nodes) in
    let old = c.loop-place.bounds.items in
    let b = c.in_ok-bound.bound in
    let so_far = c.loop-place.invariant in
    let grown = c.in_ok-bound.ensures.grown in
    let bounds_are = subst (λ (bs : List Bound). EntriesStand holds middle bs known) (sym c.deref.ensures.value) so_far.stand in
    let there = c.in_ok-bound.ensures.stands so_far.nothing bounds_are in
    record {
      grows = grows_more c.args.net.now middle new so_far.grows grown.grows;
      nothing = stands_later holds middle new c.in_ok-nothing.nothing (zero_of no_type) grown.grows so_far.nothing;
      below = rw c.in_ok-push.ensures.items (bounds_push (length new) old b (bounds_below_later middle new old grown.grows so_far.below) grown.below);
      stand = rw (c.in_ok-push.ensures.items, entries_more nodes place node c.loop-place-test.true c.index-nodes-place.is)
          (entries_stand_push holds new old known b (entry_of known node) (entries_later holds middle new old known grown.grows so_far.stand) there);
    }
