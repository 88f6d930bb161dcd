-- How the items of a Verilog tree are arranged (IEEE 1364-2005, 6.1, 9.2.2, 12.1).
-- The registers stand first, in the order of the state; behind them the arrays, in theirs, and then the wires; then the assigns of the wires, in the order of these, and those of the outputs
-- in port order, each after the assigns of all that it reads; then the assigns of the clock outputs in port order; then the blocks, one for each of some
-- registers, in the order of these, with an asynchronous reset or without, and then one for each of some arrays, in the order of these. Nothing else is there.
use Rattle.std.specs.Prelude.{◌≡◌, List, [], ◌∷◌, ◌++◌, ◌-◌, map, Bool, true, false}
use Rattle.ver_ast.specs.declared.tree.Verilog.{Verilog}
use Rattle.ver_ast.specs.declared.tree.Item.{Item}
use Rattle.ver_ast.specs.declared.tree.Item.TheVariants as item
use Rattle.ver_ast.specs.Nets.{AlwaysBlock, plain_block, resetting_block, writing_block, SizedNet, Variable, variable_names, input_nets, output_nets, output_clocks, wires, regs, arrays, assigns, clock_assigns, targets, blocks, block_targets, names_of}
use Rattle.ver_ast.specs.Processes.{assigning}
use Rattle.ver_ast.specs.Valid.{ReadsBefore}

abbrev pub reg_item : SizedNet → Item
reg_item n = item.Reg (record { width = n.1; name = n.0 })

abbrev pub wire_item : SizedNet → Item
wire_item n = item.Wire (record { width = n.1; name = n.0 })

abbrev pub array_item : Variable → Item
array_item k = item.Array (record { width = k.width; last = k.depth - 1; name = k.name })

abbrev pub block_item : AlwaysBlock → Item
block_item (plain_block b) = item.Always b
block_item (resetting_block b) = item.Resetting b
block_item (writing_block b) = item.Writing b

-- those of a list beside which true stands, in the order of the list
abbrev pub marked : {A : Type 0} → List Bool → List A → List A
marked [] xs = []
marked (m ∷ ms) [] = []
marked (true ∷ ms) (x ∷ xs) = x ∷ marked ms xs
marked (false ∷ ms) (x ∷ xs) = marked ms xs

pub record IsArranged (v : Verilog) : Type 0 where
  pub always : List AlwaysBlock
  pub by_kind : v.items ≡ map reg_item (regs v) ++ (map array_item (arrays v) ++ (map wire_item (wires v) ++ (map item.Assign (assigns v) ++ (map item.Assign (clock_assigns v) ++ map block_item always))))
  pub assigns_in_order : targets (assigns v) ≡ names_of (wires v ++ output_nets v)
  pub after_what_is_read : ReadsBefore (names_of (input_nets v ++ regs v)) (map assigning (assigns v))
  pub clock_assigns_in_order : targets (clock_assigns v) ≡ output_clocks v
  -- for each register whether it has a block
  pub with_block : List Bool
  -- for each array whether it has one
  pub with_writes : List Bool
  pub blocks_in_order : block_targets (blocks v) ≡ marked with_block (names_of (regs v)) ++ marked with_writes (variable_names (arrays v))
