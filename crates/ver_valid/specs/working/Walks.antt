-- What a port and an item of a valid tree are behind those before them.
use Rattle.std.specs.Prelude.{◌≡◌, ℕ, ◌+◌, ◌≤◌, List, [], ◌∷◌, ◌++◌, flat_map, IsTrue, Result, Ok, Err, ◌⊎◌}
use Rattle.std.specs.List.{AllByRecursion, sum_by}
use Rattle.fir_base.specs.Lists.{In, Distinct}
use Rattle.fir_base.specs.declared.direction.Direction.{Direction}
use Rattle.fir_base.specs.declared.direction.Direction.TheVariants.{Input, Output}
use Rattle.fir_base.specs.declared.refused.Refused.{Refused}
use Rattle.ver_ast.specs.declared.tree.Verilog.{Verilog}
use Rattle.ver_ast.specs.declared.tree.Port.{Port}
use Rattle.ver_ast.specs.declared.tree.Assign.{Assign}
use Rattle.ver_ast.specs.declared.tree.Item.{Item}
use Rattle.ver_ast.specs.declared.tree.Item.TheVariants as item
use Rattle.ver_ast.specs.Nets.{AlwaysBlock, plain_block, resetting_block, writing_block, Variable, item_block, block_target, block_targets, blocks, arrays, nets, output_clocks}
use Rattle.ver_ast.specs.SoundSides.{IsSoundSide}
use Rattle.ver_ast.specs.Valid.{IsClockSide, IsSoundBlock}
use Rattle.ver_valid.specs.declared.misfit.Misfit.{Misfit}
use Rattle.ver_valid.specs.declared.walk.Walk.{Walk}
use Rattle.ver_valid.specs.working.Judgement.{Denies}
use Rattle.ver_valid.specs.working.Declarations.{entries, entry_names, port_kind, IsNarrow, IsNarrowKind}
use Rattle.ver_valid.specs.working.Scopes.{IsFine, Tells, driven_nets}
use Rattle.ver_valid.specs.working.Driven.{Drives}

abbrev pub with_ports : Verilog → List Port → Verilog
with_ports v ps = record v { ports = v.ports ++ ps }

abbrev pub with_items : Verilog → List Item → Verilog
with_items v is = record v { items = v.items ++ is }

abbrev pub item_target : Item → List (List ℕ)
item_target (item.Assign a) = a.target ∷ []
item_target _ = []

-- the targets of all assigns
abbrev pub assigned_names : Verilog → List (List ℕ)
assigned_names v = flat_map item_target v.items

abbrev pub written_names : Verilog → List (List ℕ)
written_names v = block_targets (blocks v)

abbrev pub item_written : Item → List (List ℕ)
item_written i = block_targets (item_block i)

abbrev pub words_of : List Variable → ℕ
words_of = sum_by (λ k. k.depth)

-- the walk knows what the tree behind it declares and drives
pub record Reflects (walk : Walk) (v : Verilog) : Type 0 where
  pub tells : Tells walk.scope v
  pub assigned : Drives walk.assigned (assigned_names v)
  pub written : Drives walk.written (written_names v)
  pub room : walk.room + words_of (arrays v) ≡ 4194304

abbrev pub IsFresh : Verilog → List ℕ → Type 0
IsFresh v name = In (entry_names (entries v)) name → ⊥

pub record IsNextPort (v : Verilog) (p : Port) : Type 0 where
  pub fresh : IsFresh v p.name
  pub narrow : IsNarrowKind (port_kind p)
  pub plain : IsTrue p.is_clock → p.width ≡ 1

abbrev pub IsNextNet : Verilog → List ℕ → ℕ → Type 0
IsNextNet v name w = IsFresh v name × IsNarrow w

abbrev pub IsNextAssign : Verilog → Assign → Type 0
IsNextAssign v a = (In (output_clocks v) a.target × IsClockSide v a.rhs) ⊎ ((w : ℕ) × In (driven_nets v) (a.target, w) × IsSoundSide (nets v) (arrays v) w a.rhs)

-- the block writes what no block before it does
abbrev pub IsNextBlock : Verilog → AlwaysBlock → Type 0
IsNextBlock v b = IsSoundBlock v b × ((n : List ℕ) → In (block_target b) n → In (written_names v) n → ⊥)

abbrev pub IsNextItem : Verilog → Item → Type 0
IsNextItem v (item.Wire n) = IsNextNet v n.name n.width
IsNextItem v (item.Reg n) = IsNextNet v n.name n.width
IsNextItem v (item.Array a) = IsNextNet v a.name a.width × (words_of (arrays v) + (a.last + 1) ≤ 4194304)
IsNextItem v (item.Assign a) = IsNextAssign v a × (In (assigned_names v) a.target → ⊥)
IsNextItem v (item.Always b) = IsNextBlock v (plain_block b)
IsNextItem v (item.Resetting b) = IsNextBlock v (resetting_block b)
IsNextItem v (item.Writing b) = IsNextBlock v (writing_block b)

-- each behind those before it
abbrev pub AreNextPorts : Verilog → List Port → Type 0
AreNextPorts v [] = Unit {0}
AreNextPorts v (p ∷ ps) = IsNextPort v p × AreNextPorts (with_ports v (p ∷ [])) ps

abbrev pub AreNextItems : Verilog → List Item → Type 0
AreNextItems v [] = Unit {0}
AreNextItems v (i ∷ is) = IsNextItem v i × AreNextItems (with_items v (i ∷ [])) is

-- a step of the walk: that the next is sound, and what the walk then knows, or a fault where it is not
abbrev pub Steps : Result Unit (Refused Misfit) → Type 0 → Type 0 → Type 0
Steps (Ok x) P Q = P × Q
Steps (Err e) P Q = Denies e P

abbrev pub IsOutputDriven : List (List ℕ) → Direction → List ℕ → Type 0
IsOutputDriven ns Input n = Unit {0}
IsOutputDriven ns Output n = In ns n

abbrev pub IsPortDriven : List (List ℕ) → Port → Type 0
IsPortDriven ns p = IsOutputDriven ns p.direction p.name

abbrev pub IsItemDriven : List (List ℕ) → Item → Type 0
IsItemDriven ns (item.Wire n) = In ns n.name
IsItemDriven ns _ = Unit {0}

abbrev pub no_ports : Verilog → Verilog
no_ports v = record v { ports = []; items = [] }

abbrev pub no_items : Verilog → Verilog
no_items v = record v { items = [] }

-- all that a valid tree is but an order of its processes
pub record IsWalked (v : Verilog) : Type 0 where
  pub fine : IsFine v
  pub few : words_of (arrays v) ≤ 4194304
  pub assigned_once : Distinct (assigned_names v)
  pub written_once : Distinct (written_names v)
  pub ports : AreNextPorts (no_ports v) v.ports
  pub items : AreNextItems (no_items v) v.items
  pub outputs : AllByRecursion (IsPortDriven (assigned_names v)) v.ports
  pub wires : AllByRecursion (IsItemDriven (assigned_names v)) v.items
