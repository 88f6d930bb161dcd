-- What drives each net of a tree, by the numbers of the processes.
use Rattle.std.specs.Prelude.{◌≡◌, ℕ, List, [], map, flat_map, slice_get, Option, None, is_some, unwrap_or, not, ◌||◌, ◌&&◌, if◌then◌else◌}
use Rattle.std.specs.Option.{option_to_list}
use Rattle.ver_ast.specs.declared.tree.Verilog.{Verilog}
use Rattle.ver_ast.specs.Nets.{input_nets, regs, names_of, reset_targets}
use Rattle.ver_ast.specs.Processes.{processes, process_targets, process_reads}
use Rattle.ver_valid.specs.declared.drivers.Drivers.{Drivers}
use Rattle.ver_valid.specs.working.Numbered.{number_in, IsNumbering}

-- the process that drives a net: none of an input, or of a register without an asynchronous block
abbrev pub driver_in : Drivers → List ℕ → Option ℕ
driver_in d n =
    if is_some (number_in d.inputs n) || (is_some (number_in d.registers n) && not (is_some (number_in d.blocks n))) then None else number_in d.processes n

-- the processes that drive nets
abbrev pub drivers_of : Drivers → List (List ℕ) → List ℕ
drivers_of d = flat_map (λ n. option_to_list (driver_in d n))

pub record AreDrivers (v : Verilog) (d : Drivers) : Type 0 where
  pub inputs : IsNumbering (names_of (input_nets v)) d.inputs
  pub registers : IsNumbering (names_of (regs v)) d.registers
  pub blocks : IsNumbering (reset_targets v) d.blocks
  pub processes : IsNumbering (process_targets (processes v)) d.processes

-- for each process those that drive what it reads
pub record IsProcessGraph (v : Verilog) (targets : List (List ℕ)) : Type 0 where
  pub drivers : Drivers
  pub drive : AreDrivers v drivers
  pub are : targets ≡ map (λ p. drivers_of drivers (process_reads p)) (processes v)

-- the targets of a vertex
abbrev pub targets_of : List (List ℕ) → ℕ → List ℕ
targets_of targets k = unwrap_or (slice_get targets k) []
