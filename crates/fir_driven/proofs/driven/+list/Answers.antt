use Rattle.std.proofs.Common.{◌||◌, ap, ◌∙◌}
use Rattle.std.proofs.lemmas.List.{take_all}
use Rattle.std.proofs.lemmas.Result.{on_ok_weaker}
use Rattle.fir_meaning.specs.working.TermReads.{is_among}
use Rattle.fir_meaning.specs.working.UndrivenChoices.{drives_any}
use Rattle.fir_leaf.specs.working.NodeBlocks.{block_in}
use Rattle.fir_driven.proofs.DrivenLeaves.{block_lists_more, blocks_list}
use Rattle.fir_driven.proofs.LeafViews.{when_view}
use Rattle.fir_driven.proofs.driven.+list.Goals as goal

pub list_block-loop-statement-preserved : goal.list_block-loop-statement-preserved
list_block-loop-statement-preserved t c = λ x.
    block_lists_more c.args.nodes.now c.args.body.now c.loop-statement.statement-index _ _ _ _ x c.loop-statement-test.true c.statement-item.is
    (c.loop-statement.invariant x) (c.in_ok-list.ensures x)

pub list_block-returns : goal.list_block-returns
list_block-returns t c = λ x.
    c.loop-statement.invariant x
    ∙ ap (λ ss. is_among c.args.driven.now.items x || drives_any x (block_in c.args.nodes.now ss))
    (take_all c.loop-statement.statement-index c.args.body.now c.loop-statement-test.false)

pub list-returns-in-Drive : goal.list-returns-in-Drive
list-returns-in-Drive t c = rw c.in-Drive.is c.list_drive.ensures

pub list-returns-in-When : goal.list-returns-in-When
list-returns-in-When t c = rw c.in-When.is c.list_when.ensures

pub list_when-returns : goal.list_when-returns
list_when-returns t c =
    let w = c.args.when.now in
    let nodes = c.args.nodes.now in
    rw (when_view nodes w)
    (on_ok_weaker c.list_block-2.result
    (λ second x.
    blocks_list c.args.driven.now.items c.list_block.new.driven.items c.list_block-2.new.driven.items x
    (drives_any x (block_in nodes w.then_block.items)) (drives_any x (block_in nodes w.else_block.items))
    (rw c.deref.ensures.value at (c.in_ok-list_block.ensures x)) (rw c.deref-2.ensures.value at (second x)))
    c.list_block-2.ensures)
