-- The shape of the traces of a tree.
use Rattle.std.specs.Prelude.{◌+◌, List, [], ◌∷◌, ◌++◌, flat_map, length, None, Some}
use Rattle.trace_text.specs.declared.shape.StateWord.{StateWord}
use Rattle.trace_text.specs.Shapes.{TraceShape}
use Rattle.ver_ast.specs.declared.tree.Verilog.{Verilog}
use Rattle.ver_ast.specs.declared.tree.Item.{Item}
use Rattle.ver_ast.specs.declared.tree.Item.TheVariants as item
use Rattle.ver_ast.specs.Nets.{input_nets, widths_of, clocks}

-- a register is one word
abbrev pub reg_word : Item → List StateWord
reg_word (item.Reg n) = record { name = n.name; width = n.width; depth = None } ∷ []
reg_word _ = []

-- an array has a word for each address
abbrev pub array_word : Item → List StateWord
array_word (item.Array a) = record { name = a.name; width = a.width; depth = Some (a.last + 1) } ∷ []
array_word _ = []

-- the registers, then the arrays, each in text order
abbrev pub state_words : List Item → List StateWord
state_words items = flat_map reg_word items ++ flat_map array_word items

abbrev pub trace_shape : Verilog → TraceShape
trace_shape v = record { inputs = widths_of (input_nets v); clocks = length (clocks v); state = state_words v.items }
