-- A step sets the target of one process to the value of its right side, as the nets and words are at that moment, or to 0 where it has none (IEEE 1364-2005, 11.2).
-- A list of numbers of processes is taken in its order, whatever that is (11.4.2); a number past the last process does nothing.
use Rattle.std.specs.Prelude.{ℕ, List, [], ◌∷◌, slice_get, if◌then◌else◌, Option, Some, None}
use Rattle.std.specs.Str.{bytes_eq}
use Rattle.fir_base.specs.Ticks.{Env}
use Rattle.ver_ast.specs.declared.tree.Verilog.{Verilog}
use Rattle.ver_ast.specs.Stores.{Store}
use Rattle.ver_ast.specs.Processes.{Process, processes, target, given}

-- the values after a step of the process
abbrev pub process_step : Verilog → Store → Env → Process → Env
process_step v store env p name = if bytes_eq name (target p) then given v store env p else env name

abbrev pub step_of : Verilog → Store → Env → Option Process → Env
step_of v store env None = env
step_of v store env (Some p) = process_step v store env p

-- the values after a step of the process of that number
abbrev pub step : Verilog → Store → Env → ℕ → Env
step v store env k = step_of v store env (slice_get (processes v) k)

-- the values after these steps
unfoldable pub steps : Verilog → Store → List ℕ → Env → Env
steps v store [] env = env
steps v store (k ∷ ks) env = steps v store ks (step v store env k)
