-- Circles of processes, which stand there by their numbers: each reads what the next one gives, and the last what the first gives.
use Rattle.std.specs.Prelude.{◌≡◌, ℕ, List, [], ◌∷◌, slice_get, Option, Some, None}
use Rattle.fir_base.specs.Lists.{In, Distinct}
use Rattle.ver_ast.specs.declared.tree.Verilog.{Verilog}
use Rattle.ver_ast.specs.Processes.{Process, processes, process_targets, process_reads}
use Rattle.ver_ast.specs.Valid.{IsOrder}

-- the process of the first number reads the net to which that of the second gives its value
pub record ReadsFrom (v : Verilog) (i k : ℕ) : Type 0 where
  pub reader : Process
  pub is_reader : slice_get (processes v) i ≡ Some reader
  pub net : List ℕ
  pub reads : In (process_reads reader) net
  pub gives : slice_get (process_targets (processes v)) k ≡ Some net

-- from one number through the list to another, each reads from the next
abbrev pub ReadOn : Verilog → ℕ → List ℕ → ℕ → Type 0
ReadOn v i [] k = ReadsFrom v i k
ReadOn v i (j ∷ js) k = ReadsFrom v i j × ReadOn v j js k

abbrev pub ReadRound : Verilog → List ℕ → Type 0
ReadRound v [] = ⊥
ReadRound v (i ∷ is) = ReadOn v i is i

pub record IsCircle (v : Verilog) (circle : List ℕ) : Type 0 where
  pub round : ReadRound v circle
  pub once : Distinct circle

-- no circle, where the processes have an order; else one
abbrev pub FindsCircle : Verilog → Option (List ℕ) → Type 0
FindsCircle v None = (order : List Process) × IsOrder v order
FindsCircle v (Some circle) = IsCircle v circle × (((order : List Process) × IsOrder v order) → ⊥)
