use Rattle.std.proofs.Common.{◌++◌, map, ap, ◌∙◌}
use Rattle.ver_ast.specs.declared.tree.Item.TheVariants as item
use Rattle.ver_build.specs.declared.right_sides.Inner.{Inner}
use Rattle.ver_build.specs.working.Built.{inner_wire, inner_assign}
use Rattle.ver_build.proofs.Tree.{items_built}
use Rattle.ver_build.proofs.building.items_of.Goals as goal

pub returns : goal.returns
returns c =
    items_built c.args.net.now c.args.table.now c.args.places.now c.args.order.now c.put_array_blocks.new.items.items
    (record {
      none = c.in_ok-items.items.items;
      regs = c.put_regs.new.items.items;
      arrays = c.put_arrays.new.items.items;
      wires = c.put_wires.new.items.items;
      inner_assigns = c.put_inner_assigns.new.items.items;
      assigns = c.put_output_assigns.new.items.items;
      clock_assigns = c.put_clock_assigns.new.items.items;
      blocks = c.put_blocks.new.items.items;
      nothing = c.in_ok-items.ensures.items;
      put_regs = c.in_ok-put_regs.ensures;
      put_arrays = c.in_ok-put_arrays.ensures;
      put_wires =
          c.in_ok-put_wires.ensures ∙ ap (λ xs. c.put_arrays.new.items.items ++ map (λ (i : Inner). item.Wire (inner_wire i)) xs)
          (c.as_slice.ensures.value ∙ c.in_ok-inners.ensures);
      put_inner_assigns =
          c.in_ok-put_inner_assigns.ensures ∙ ap (λ xs. c.put_wires.new.items.items ++ map (λ (i : Inner). item.Assign (inner_assign i)) xs)
          c.in_ok-inners.ensures;
      put_assigns = c.in_ok-put_output_assigns.ensures;
      put_clock_assigns = c.in_ok-put_clock_assigns.ensures;
      put_blocks = c.in_ok-put_blocks.ensures;
      put_array_blocks = c.in_ok-put_array_blocks.ensures;
    })
