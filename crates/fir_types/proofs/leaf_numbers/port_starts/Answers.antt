use Rattle.std.proofs.Common.{ap, ◌+◌, ◌∙◌}
use Rattle.fir_type_table.specs.working.Saturated.{saturated}
use Rattle.fir_type_table.specs.working.Tables.{types_of}
use Rattle.fir_types.proofs.LeafWalks.{starts_all, starts_first, starts_next}
use Rattle.fir_types.proofs.leaf_numbers.port_starts.Goals as goal

pub loop-id-init : goal.loop-id-init
loop-id-init c = starts_first (types_of c.args.table.now) c.args.bundles.now c.new-starts.result.items c.new-starts.ensures.items

pub loop-id-preserved : goal.loop-id-preserved
loop-id-preserved c =
    starts_next (types_of c.args.table.now) c.args.bundles.now c.loop-id.id-index (record { number = 0 }) c.loop-id.starts.items c.push.new.self.items c.loop-id.next
    c.saturating_add-next.result c.loop-id-test.true c.loop-id.invariant c.in_ok-push.ensures.items
    (c.saturating_add-next.ensures ∙ ap (λ n. saturated (c.loop-id.next + n)) c.shared_leaves.ensures)

pub returns : goal.returns
returns c =
    starts_all (types_of c.args.table.now) c.args.bundles.now c.loop-id.id-index c.loop-id.starts.items c.loop-id.next c.loop-id-test.false c.loop-id.invariant
