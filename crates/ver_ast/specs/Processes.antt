-- The processes of a tree: what a simulator takes one by one until nothing changes.
-- Each gives one net the value of its right side: an assign, and an asynchronous block, which shows its constant while its reset is 1, and else the stored word.
use Rattle.std.specs.Prelude.{ℕ, ◌==◌, List, [], ◌∷◌, ◌++◌, map, if◌then◌else◌, Option, Some, unwrap_or}
use Rattle.fir_base.specs.Ticks.{Env}
use Rattle.ver_ast.specs.declared.tree.Verilog.{Verilog}
use Rattle.ver_ast.specs.declared.tree.Assign.{Assign}
use Rattle.ver_ast.specs.declared.tree.Resetting.{Resetting}
use Rattle.ver_ast.specs.AtomForms.{constant_number}
use Rattle.ver_ast.specs.Names.{rhs_names}
use Rattle.ver_ast.specs.Nets.{nets, width_among, assigns, resets}
use Rattle.ver_ast.specs.Stores.{Store, stored}
use Rattle.ver_ast.specs.SideValues.{rhs_value}

pub data Process : Type 0 where
  assigning : Assign → Process
  showing : Resetting → Process

-- the assigns of nets, then the asynchronous blocks, each in text order
abbrev pub processes : Verilog → List Process
processes v = map assigning (assigns v) ++ map showing (resets v)

abbrev pub target : Process → List ℕ
target (assigning a) = a.target
target (showing b) = b.target

abbrev pub process_targets : List Process → List (List ℕ)
process_targets = map target

-- the nets that a process reads
abbrev pub process_reads : Process → List (List ℕ)
process_reads (assigning a) = rhs_names a.rhs
process_reads (showing b) = b.reset ∷ []

-- the value of the right side
abbrev pub wanted : Verilog → Store → Env → Process → Option ℕ
wanted v store env (assigning a) = rhs_value (nets v) store env (width_among (nets v) a.target) a.rhs
wanted v store env (showing b) = Some (if env b.reset == 1 then constant_number b.value else stored store b.target)

-- the same, with 0 where there is none
abbrev pub given : Verilog → Store → Env → Process → ℕ
given v store env p = unwrap_or (wanted v store env p) 0
