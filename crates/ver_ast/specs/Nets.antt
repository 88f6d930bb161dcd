-- What a tree declares and drives.
use Rattle.std.specs.Prelude.{ℕ, ◌+◌, List, [], ◌∷◌, ◌++◌, map, flat_map, replicate, length, filter, not, if◌then◌else◌}
use Rattle.std.specs.Str.{bytes_eq}
use Rattle.fir_base.specs.declared.direction.Direction.{Direction}
use Rattle.fir_base.specs.declared.direction.Direction.TheVariants.{Input, Output}
use Rattle.fir_base.specs.Words.{is_among}
use Rattle.fir_base.specs.Ticks.{Shape}
use Rattle.ver_ast.specs.declared.tree.Verilog.{Verilog}
use Rattle.ver_ast.specs.declared.tree.Port.{Port}
use Rattle.ver_ast.specs.declared.tree.Assign.{Assign}
use Rattle.ver_ast.specs.declared.tree.Always.{Always}
use Rattle.ver_ast.specs.declared.tree.Resetting.{Resetting}
use Rattle.ver_ast.specs.declared.tree.Write.{Write}
use Rattle.ver_ast.specs.declared.tree.Writing.{Writing}
use Rattle.ver_ast.specs.declared.tree.Item.{Item}
use Rattle.ver_ast.specs.declared.tree.Item.TheVariants as item

-- a name and its width
abbrev pub SizedNet : Type 0
SizedNet = List ℕ × ℕ

-- a port of bits is a net; a clock is none
abbrev pub port_net : Port → List SizedNet
port_net p = if p.is_clock then [] else ((p.name, p.width) ∷ [])

abbrev pub port_clock : Port → List (List ℕ)
port_clock p = if p.is_clock then (p.name ∷ []) else []

abbrev pub input_net : Direction → Port → List SizedNet
input_net Input p = port_net p
input_net Output p = []

abbrev pub output_net : Direction → Port → List SizedNet
output_net Input p = []
output_net Output p = port_net p

abbrev pub input_nets : Verilog → List SizedNet
input_nets v = flat_map (λ p. input_net p.direction p) v.ports

abbrev pub output_nets : Verilog → List SizedNet
output_nets v = flat_map (λ p. output_net p.direction p) v.ports

abbrev pub input_clock : Direction → Port → List (List ℕ)
input_clock Input p = port_clock p
input_clock Output p = []

abbrev pub output_clock : Direction → Port → List (List ℕ)
output_clock Input p = []
output_clock Output p = port_clock p

-- the names of the clocks that rise at ticks, in port order
abbrev pub clocks : Verilog → List (List ℕ)
clocks v = flat_map (λ p. input_clock p.direction p) v.ports

abbrev pub output_clocks : Verilog → List (List ℕ)
output_clocks v = flat_map (λ p. output_clock p.direction p) v.ports

abbrev pub wire_net : Item → List SizedNet
wire_net (item.Wire n) = (n.name, n.width) ∷ []
wire_net _ = []

abbrev pub reg_net : Item → List SizedNet
reg_net (item.Reg n) = (n.name, n.width) ∷ []
reg_net _ = []

abbrev pub item_net : Item → List SizedNet
item_net (item.Wire n) = (n.name, n.width) ∷ []
item_net (item.Reg n) = (n.name, n.width) ∷ []
item_net _ = []

abbrev pub wires : Verilog → List SizedNet
wires v = flat_map wire_net v.items

-- the registers, in text order
abbrev pub regs : Verilog → List SizedNet
regs v = flat_map reg_net v.items

abbrev pub port_nets : Verilog → List SizedNet
port_nets v = flat_map port_net v.ports

-- all that has a value of some bits: the ports without the clocks, then the wires and registers, in text order
abbrev pub nets : Verilog → List SizedNet
nets v = port_nets v ++ flat_map item_net v.items

-- the assigns, without those of clock outputs
abbrev pub item_assign : List (List ℕ) → Item → List Assign
item_assign outs (item.Assign a) = if is_among outs a.target then [] else (a ∷ [])
item_assign outs _ = []

abbrev pub assigns : Verilog → List Assign
assigns v = flat_map (item_assign (output_clocks v)) v.items

abbrev pub targets : List Assign → List (List ℕ)
targets = map (λ a. a.target)

abbrev pub item_clock_assign : List (List ℕ) → Item → List Assign
item_clock_assign outs (item.Assign a) = if is_among outs a.target then (a ∷ []) else []
item_clock_assign outs _ = []

abbrev pub clock_assigns : Verilog → List Assign
clock_assigns v = flat_map (item_clock_assign (output_clocks v)) v.items

-- a block: of a register, of a register with an asynchronous reset, of an array
pub data AlwaysBlock : Type 0 where
  plain_block : Always → AlwaysBlock
  resetting_block : Resetting → AlwaysBlock
  writing_block : Writing → AlwaysBlock

abbrev pub item_block : Item → List AlwaysBlock
item_block (item.Always b) = plain_block b ∷ []
item_block (item.Resetting b) = resetting_block b ∷ []
item_block (item.Writing b) = writing_block b ∷ []
item_block _ = []

abbrev pub blocks : Verilog → List AlwaysBlock
blocks v = flat_map item_block v.items

-- the array of the first write
abbrev pub first_array : List Write → List (List ℕ)
first_array [] = []
first_array (w ∷ ws) = w.array ∷ []

-- the register or array that a block writes
abbrev pub block_target : AlwaysBlock → List (List ℕ)
block_target (plain_block b) = b.target ∷ []
block_target (resetting_block b) = b.target ∷ []
block_target (writing_block b) = first_array b.writes

abbrev pub block_targets : List AlwaysBlock → List (List ℕ)
block_targets = flat_map block_target

abbrev pub block_reset : AlwaysBlock → List Resetting
block_reset (resetting_block b) = b ∷ []
block_reset _ = []

-- the asynchronous blocks
abbrev pub resets : Verilog → List Resetting
resets v = flat_map block_reset (blocks v)

abbrev pub reset_targets : Verilog → List (List ℕ)
reset_targets v = map (λ b. b.target) (resets v)

-- the registers without an asynchronous block
abbrev pub plain_regs : Verilog → List SizedNet
plain_regs v = filter (λ r. not (is_among (reset_targets v) r.0)) (regs v)

-- what keeps words from tick to tick: a register has one, an array one for each address
pub record Variable : Type 0 where
  pub name : List ℕ
  pub width : ℕ
  pub depth : ℕ

abbrev pub reg_variable : SizedNet → Variable
reg_variable r = record { name = r.0; width = r.1; depth = 1 }

abbrev pub item_array : Item → List Variable
item_array (item.Array a) = record { name = a.name; width = a.width; depth = a.last + 1 } ∷ []
item_array _ = []

abbrev pub arrays : Verilog → List Variable
arrays v = flat_map item_array v.items

-- the registers, then the arrays, each in text order
abbrev pub variables : Verilog → List Variable
variables v = map reg_variable (regs v) ++ arrays v

abbrev pub variable_names : List Variable → List (List ℕ)
variable_names = map (λ k. k.name)

abbrev pub variable_widths : List Variable → List ℕ
variable_widths = flat_map (λ k. replicate k.depth k.width)

abbrev pub names_of : List SizedNet → List (List ℕ)
names_of = map (λ n. n.0)

abbrev pub widths_of : List SizedNet → List ℕ
widths_of = map (λ n. n.1)

-- the width of the first net of that name, and 0 where there is none
abbrev pub width_among : List SizedNet → List ℕ → ℕ
width_among [] name = 0
width_among (net ∷ rest) name = if bytes_eq net.0 name then net.1 else width_among rest name

abbrev pub shape : Verilog → Shape
shape v = record { inputs = widths_of (input_nets v); clocks = length (clocks v); state = variable_widths (variables v) }
