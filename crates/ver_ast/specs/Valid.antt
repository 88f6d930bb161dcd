-- Which trees are valid (IEEE 1364-2005, 3.7, 4.2, 4.9, 5.2.1, 5.4, 6.1).
-- Each name is declared once, before it is used, with a width from 1 to 128, and a clock without a range; all arrays together have at most 4194304 words; right sides are sound beside
-- their targets' widths; each wire, output and clock output has exactly one assign, an input and a register none; a register and an array have at most one
-- block, on a clock input, which stands in no operand; and no closed walk of processes exists, which is said as: some order of the processes has each once,
-- after all that it reads.
use Rattle.std.specs.Prelude.{◌≡◌, ℕ, ◌<◌, ◌^◌, ◌≤◌, IsTrue, List, [], ◌∷◌, ◌++◌, map, Option, Some, None}
use Rattle.std.specs.List.{AllByRecursion, sum_by}
use Rattle.fir_base.specs.Lists.{In, Distinct, EachIn}
use Rattle.ver_ast.specs.declared.tree.Verilog.{Verilog}
use Rattle.ver_ast.specs.declared.tree.Port.{Port}
use Rattle.ver_ast.specs.declared.tree.Assign.{Assign}
use Rattle.ver_ast.specs.declared.tree.Always.{Always}
use Rattle.ver_ast.specs.declared.tree.Edge.{Edge}
use Rattle.ver_ast.specs.declared.tree.Resetting.{Resetting}
use Rattle.ver_ast.specs.declared.tree.Write.{Write}
use Rattle.ver_ast.specs.declared.tree.Rhs.{Rhs}
use Rattle.ver_ast.specs.declared.tree.Rhs.TheVariants as rhs
use Rattle.ver_ast.specs.declared.tree.Item.{Item}
use Rattle.ver_ast.specs.Atoms.{net, constant}
use Rattle.ver_ast.specs.AtomForms.{constant_number}
use Rattle.ver_ast.specs.ItemNames.{declared, item_names}
use Rattle.ver_ast.specs.SoundSides.{IsOperand, HasWidth, IsSoundSide}
use Rattle.ver_ast.specs.Nets.{Variable, input_nets, output_nets, clocks, output_clocks, wires, regs, plain_regs, arrays, variable_names, nets, assigns, clock_assigns, targets, AlwaysBlock, plain_block, resetting_block, writing_block, blocks, block_targets, names_of}
use Rattle.ver_ast.specs.Processes.{Process, processes, target, process_targets, process_reads}

-- the items in text order, each naming only what is declared before it
abbrev pub DeclaredBefore : List (List ℕ) → List Item → Type 0
DeclaredBefore known [] = Unit {0}
DeclaredBefore known (i ∷ rest) = EachIn (item_names i) known × DeclaredBefore (declared i ++ known) rest

-- the target has a width, and the right side is sound beside it
abbrev pub IsSoundAssign : Verilog → Assign → Type 0
IsSoundAssign v a = (w : ℕ) × In (nets v) (a.target, w) × IsSoundSide (nets v) (arrays v) w a.rhs

-- a clock output shows a clock input or none
abbrev pub IsClockSide : Verilog → Rhs → Type 0
IsClockSide v (rhs.Atom (net n)) = In (clocks v) n
IsClockSide v (rhs.Atom (constant w x)) = (w ≡ 1) × (x ≡ 0)
IsClockSide v _ = ⊥

-- the clock is one, and the target a register of the width of the source
pub record IsPlain (v : Verilog) (b : Always) : Type 0 where
  pub clocked : In (clocks v) b.clock
  pub width : ℕ
  pub register : In (regs v) (b.target, width)
  pub wide : HasWidth (nets v) width b.source

-- of a register of w bits
abbrev pub IsEdge : Verilog → List ℕ → ℕ → Option Edge → Type 0
IsEdge v name w None = Unit {0}
IsEdge v name w (Some e) = In (clocks v) e.clock × (e.target ≡ name) × HasWidth (nets v) w e.source

-- the reset is a net of one bit, which is tested, and the constant fits the register
pub record IsResetting (v : Verilog) (b : Resetting) : Type 0 where
  pub bit : In (nets v) (b.reset, 1)
  pub one_reset : b.tested ≡ b.reset
  pub register : In (regs v) (b.target, b.value.width)
  pub constant_fits : constant_number b.value < 2 ^ b.value.width
  pub clocked : IsEdge v b.target b.value.width b.edge

-- a write of that array
pub record IsWrite (v : Verilog) (name : List ℕ) (w : Write) : Type 0 where
  pub one_array : w.array ≡ name
  pub array : Variable
  pub is_array : In (arrays v) array
  pub named : array.name ≡ name
  pub condition_wide : HasWidth (nets v) 1 w.condition
  pub index_sound : IsOperand (nets v) w.index
  pub source_wide : HasWidth (nets v) array.width w.source

-- all writes of a block are to the array of the first
abbrev pub AreWrites : Verilog → List Write → Type 0
AreWrites v [] = Unit {0}
AreWrites v (w ∷ ws) = AllByRecursion (IsWrite v w.array) (w ∷ ws)

abbrev pub IsSoundBlock : Verilog → AlwaysBlock → Type 0
IsSoundBlock v (plain_block b) = IsPlain v b
IsSoundBlock v (resetting_block b) = IsResetting v b
IsSoundBlock v (writing_block b) = In (clocks v) b.clock × AreWrites v b.writes

-- each process reads only what is known before it: the inputs, the registers without an asynchronous block, and the targets of processes before it
abbrev pub ReadsBefore : List (List ℕ) → List Process → Type 0
ReadsBefore known [] = Unit {0}
ReadsBefore known (p ∷ rest) = EachIn (process_reads p) known × ReadsBefore (target p ∷ known) rest

-- the processes of the tree in an order in which each stands once, after all that it reads
pub record IsOrder (v : Verilog) (order : List Process) : Type 0 where
  pub each : (p : Process) → In (processes v) p → In order p
  pub only : (p : Process) → In order p → In (processes v) p
  pub once : Distinct (process_targets order)
  pub after : ReadsBefore (names_of (input_nets v ++ plain_regs v)) order

pub record Valid (v : Verilog) : Type 0 where
  pub declared_once : Distinct ((clocks v ++ names_of (nets v)) ++ (variable_names (arrays v) ++ output_clocks v))
  pub declared_before : DeclaredBefore (map (λ p. p.name) v.ports) v.items
  pub plain_clocks : (p : Port) → In v.ports p → IsTrue p.is_clock → p.width ≡ 1
  pub narrow : (n : List ℕ) (w : ℕ) → In (nets v) (n, w) → (1 ≤ w) × (w ≤ 128)
  pub narrow_words : (k : Variable) → In (arrays v) k → (1 ≤ k.width) × (k.width ≤ 128)
  pub few_words : sum_by (λ k. k.depth) (arrays v) ≤ 4194304
  pub sound_assigns : (a : Assign) → In (assigns v) a → IsSoundAssign v a
  pub driven_once : Distinct (targets (assigns v ++ clock_assigns v))
  pub driven : (n : List ℕ) → In (names_of (wires v ++ output_nets v)) n → In (targets (assigns v)) n
  pub driven_clocks : (n : List ℕ) → In (output_clocks v) n → In (targets (clock_assigns v)) n
  pub clock_sides : (a : Assign) → In (clock_assigns v) a → IsClockSide v a.rhs
  pub undriven_sources : (n : List ℕ) → In (names_of (input_nets v ++ regs v)) n → In (targets (assigns v)) n → ⊥
  pub sound_blocks : (b : AlwaysBlock) → In (blocks v) b → IsSoundBlock v b
  pub written_once : Distinct (block_targets (blocks v))
  pub ordered : (order : List Process) × IsOrder v order
