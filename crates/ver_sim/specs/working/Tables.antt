-- What is looked up by name while a plan is made.
use Rattle.std.specs.Prelude.{◌≡◌, ◌++◌, length, map}
use Rattle.ver_ast.specs.declared.tree.Verilog.{Verilog}
use Rattle.ver_ast.specs.Nets.{nets, regs, arrays, reg_variable, widths_of, output_clocks, reset_targets, variables, variable_names}
use Rattle.ver_ast.specs.Valid.{Valid}
use Rattle.ver_sim.specs.declared.tables.Tables.{Tables}
use Rattle.ver_sim.specs.working.Valued.{valued}
use Rattle.ver_sim.specs.working.Names.{IsNumbering}
use Rattle.ver_sim.specs.working.Spans.{spans_from}

-- the tables of a valid tree
pub record Know (v : Verilog) (t : Tables) : Type 0 where
  pub valid : Valid v
  pub places : IsNumbering (valued v) t.places
  pub widths : t.widths.items ≡ widths_of (nets v)
  pub words : IsNumbering (variable_names (variables v)) t.words
  pub spans : t.spans.items ≡ spans_from 0 (map reg_variable (regs v)) ++ spans_from (length (regs v)) (arrays v)
  pub clock_outputs : IsNumbering (output_clocks v) t.clock_outputs
  pub resets : IsNumbering (reset_targets v) t.resets
