-- A register without an asynchronous block shows its stored word at once (IEEE 1364-2005, 9.2.2).
use Rattle.std.specs.Prelude.{if◌then◌else◌}
use Rattle.fir_base.specs.Words.{is_among}
use Rattle.fir_base.specs.Ticks.{Env}
use Rattle.ver_ast.specs.declared.tree.Verilog.{Verilog}
use Rattle.ver_ast.specs.Nets.{plain_regs, names_of}
use Rattle.ver_ast.specs.Stores.{Store, stored}

-- a register without an asynchronous block shows its stored word at once
abbrev pub words_shown : Verilog → Store → Env → Env
words_shown v store env name = if is_among (names_of (plain_regs v)) name then stored store name else env name
