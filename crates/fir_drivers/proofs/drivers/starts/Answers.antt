use Rattle.std.proofs.Common.{arith}
use Rattle.std.proofs.lemmas.List.{length_push}
use Rattle.fir_connect.specs.working.Drivers.{start}
use Rattle.fir_driven.specs.working.Covering.{flag_at}
use Rattle.fir_merge.specs.working.Bounds.{types_in}
use Rattle.fir_merge.proofs.GrownTerms.{below_later, grows_more}
use Rattle.fir_drivers.proofs.BelowBounds.{bounds_later}
use Rattle.fir_drivers.proofs.StartedLeaves.{below_push, starts_more}
use Rattle.fir_drivers.proofs.drivers.starts.Goals as goal

pub start_of-requires : goal.start_of-requires
start_of-requires c = below_later c.args.net.now c.loop-leaf.net c.args.nothing.now.read c.loop-leaf.invariant.grows c.requires

pub loop-leaf-preserved : goal.loop-leaf-preserved
loop-leaf-preserved c =
    let h = c.loop-leaf.invariant in
    let slots = c.loop-leaf.slots.items in
    let r = c.in_ok-read.field-0 in
    let grown = c.in_ok-read.ensures.grown in
    let types = c.args.types.now in
    let registers = c.args.registers.now in
    rw c.in_ok-push.ensures.items
    (record {
      grows = grows_more c.args.net.now c.loop-leaf.net c.start_of.new.net h.grows grown.grows;
      below = below_push _ slots r (bounds_later c.loop-leaf.net c.start_of.new.net slots grown.grows h.below) grown.below;
      count = omega (arith, h.count, length_push slots r);
      stand = λ x narrow lt.
          starts_more (types_in types) (λ y. start (types_in types) (flag_at registers y) y) c.loop-leaf.net c.start_of.new.net slots c.loop-leaf.leaf r
          h.count grown.grows (λ y before. h.stand y narrow before) (c.in_ok-read.ensures.stands narrow) x lt;
    })
