-- When a Verilog tree is named after a circuit or a net of that name, these ports, and these words and arrays of the state (IEEE 1364-2005, 3.7, 12.1).
-- The module has the circuit's name; the ports stand in order, each with its direction, and its width or the mark of a clock; the registers are the words
-- of the state in order, each with its width, and the arrays those of the state, each with its width and depth; ports, then registers and then arrays have
-- their names in the table of names; the wires are the inner nets, which are numbered from 0 without taken names.
use Rattle.std.specs.Prelude.{◌≡◌, ℕ, List, [], ◌++◌, map}
use Rattle.ver_ast.specs.declared.tree.Verilog.{Verilog}
use Rattle.ver_ast.specs.Spells.{HasNames}
use Rattle.ver_ast.specs.Nets.{names_of, widths_of, regs, wires, variable_names, arrays as tree_arrays}
use Rattle.ver_words.specs.Names.{module_name}
use Rattle.fir_net_names.specs.Names.{AreNamed, AreInner}
use Rattle.fir_net.specs.Rows.{ArrayRow, Row, Word, array_names, row_names, row_kinds, word_names, word_widths}
use Rattle.ver_build.specs.Ports.{port_kinds, port_names}

abbrev pub tree_array_names : Verilog → List (List ℕ)
tree_array_names v = variable_names (tree_arrays v)

-- width and depth
abbrev pub tree_array_sizes : Verilog → List (ℕ × ℕ)
tree_array_sizes v = map (λ k. (k.width, k.depth)) (tree_arrays v)

abbrev pub array_sizes : List ArrayRow → List (ℕ × ℕ)
array_sizes = map (λ a. (a.width, a.depth))

-- the names of ports, registers and arrays
abbrev pub leaf_names : Verilog → List (List ℕ)
leaf_names v = port_names v ++ names_of (regs v) ++ tree_array_names v

pub record IsNamedFor (name : List ℕ) (rows : List Row) (words : List Word) (arrays : List ArrayRow) (v : Verilog) : Type 0 where
  pub circuit : v.name ≡ module_name name
  pub ports : port_kinds v ≡ row_kinds rows
  pub state : widths_of (regs v) ≡ word_widths words
  pub array_state : tree_array_sizes v ≡ array_sizes arrays
  pub named_leaves : AreNamed [] (row_names rows ++ word_names words ++ array_names arrays) (leaf_names v)
  pub named_wires : AreInner (leaf_names v) 0 (names_of (wires v))
  pub spelled : HasNames v
