use Rattle.std.proofs.Common.{ap, None, ◌∙◌}
use Rattle.fir_type_table.specs.working.Tables.{types_of}
use Rattle.fir_types.specs.working.FirstLeaves.{component_at, first_by, next_by}
use Rattle.fir_types.proofs.LeafWalks.{leaves_begin, leaves_end, leaves_next}
use Rattle.fir_types.proofs.leaf_numbers.in_module.Goals as goal

pub loop-position-init : goal.loop-position-init
loop-position-init c =
    leaves_begin (component_at c.args.names.now) (types_of c.args.table.now) c.args.starts.now c.args.declared.now c.args.next.now c.new-leaves.result.items
    c.new-leaves.ensures.items

pub loop-position-preserved : goal.loop-position-preserved
loop-position-preserved c =
    let next = c.loop-position.next in
    let i = c.loop-position.position in
    let component = c.component_at-component.ensures in
    leaves_next (component_at c.args.names.now) (types_of c.args.table.now) c.args.starts.now c.args.declared.now c.args.next.now i
    None next c.pass.new.self c.new.result c.loop-position.leaves.items c.push.new.self.items c.loop-position-test.true
    c.loop-position.invariant c.in_ok-push.ensures.items
    (c.new.ensures ∙ c.first-first.ensures ∙ ap (first_by c.args.starts.now next) component)
    (c.pass.ensures ∙ ap (λ x. next_by next x c.numbers_taken.result) component ∙ ap (next_by next (component_at c.args.names.now i)) c.numbers_taken.ensures)

pub returns : goal.returns
returns c =
    leaves_end (component_at c.args.names.now) (types_of c.args.table.now) c.args.starts.now c.args.declared.now c.args.next.now c.loop-position.position
    c.loop-position.next c.loop-position.leaves.items c.loop-position-test.false c.loop-position.invariant
