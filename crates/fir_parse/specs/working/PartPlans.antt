-- What parts of a statement, a memory, a module and a text read in a row.
use Rattle.std.specs.Prelude.{◌≡◌, ℕ, ◌+◌, List, true, false, Option, Some, option_map, codes, Result, Ok, Err}
use Rattle.fir_base.specs.declared.direction.Direction.{Direction}
use Rattle.fir_ast.specs.declared.place.Place.{Place}
use Rattle.fir_ast.specs.declared.fault.FirFault.TheVariants.{Version}
use Rattle.fir_ast.specs.Statements.{Block, MemoryPart, Reset, data_type, read_under_write, invalid}
use Rattle.fir_ast.specs.Circuits.{CircuitTree}
use Rattle.fir_ast.specs.Expressions.{Expression}
use Rattle.fir_ast.specs.working.Views.{expr_of, reset_of}
use Rattle.fir_parse.specs.declared.lexeme.Mark.TheVariants.{Arrow, CloseRound, Colon, Dot}
use Rattle.fir_parse.specs.declared.registers.Timing.{Timing}
use Rattle.fir_parse.specs.declared.stop.Stop.{Stop}
use Rattle.fir_parse.specs.declared.stop.Stop.TheVariants as stop
use Rattle.fir_parse.specs.working.Symbols.{PortOr, no_port, statement, a_mark, a_word, a_name, a_natural, a_line_end, an_opening, a_closing, a_type, a_reset, an_expression, an_indented_block, behind_with, an_under_write, behind_first}
use Rattle.fir_parse.specs.working.States.{wants, opens}
use Rattle.fir_parse.specs.working.StatementRules.{bare, ends_line, reset_rest}
use Rattle.fir_parse.specs.working.CircuitRules.{circuit_rest, is_known_version, port_rest}
use Rattle.fir_parse.specs.working.ExpressionRules.{next_operand}
use Rattle.fir_parse.specs.working.Reads.{Plan}

-- what clocks a register, and what resets it
pub record TimingTree : Type 0 where
  pub clock : Expression
  pub reset : Option Reset

abbrev pub timing_of : Timing → TimingTree
timing_of t = record { clock = expr_of t.clock; reset = option_map reset_of t.reset }

-- "," expr [ with ] NL
abbrev pub timing_plan : ℕ → Plan TimingTree
timing_plan d k = next_operand d (λ c. wants (a_reset d) (λ r. k (record { clock = c; reset = r })))

-- ":" NL and the block of a when
abbrev pub block_behind_plan : ℕ → Plan Block
block_behind_plan d k = wants (a_mark Colon) (λ p. wants a_line_end (λ q. opens d q (wants (an_indented_block (d + 1)) k)))

-- "with" ":" and what resets the register
abbrev pub reset_part_plan : ℕ → Plan (Option Reset)
reset_part_plan d k = wants (a_word (codes "with")) (λ p. wants (a_mark Colon) (λ q. wants (behind_with d p) (λ r. k (Some r))))

-- what resets a register, behind the word `with` and the parenthesis at these places, and the line's end
abbrev pub round_reset_plan : ℕ → Place → Place → Plan Reset
round_reset_plan d w p k = opens d p (reset_rest (d + 1) w (λ r. wants (a_mark CloseRound) (λ q. ends_line r k)))

-- what resets a register, in a level of its own
abbrev pub level_reset_plan : ℕ → Place → Plan Reset
level_reset_plan d w k = wants a_line_end (λ p. wants an_opening (λ q. reset_rest d w (λ r. ends_line r (λ s. wants a_closing (λ t. k s)))))

-- expr "," expr ")", behind the parenthesis, where `with` stands at the place
abbrev pub reset_behind_plan : ℕ → Place → Plan Reset
reset_behind_plan d w k = wants (an_expression d) (λ c. next_operand d (λ i. wants (a_mark CloseRound) (λ q. k (record { place = w; condition = c; init = i }))))

-- behind `data-type` at a place
abbrev pub data_type_plan : ℕ → Place → Plan MemoryPart
data_type_plan d p k = wants (a_mark Arrow) (λ q. wants (a_type d) (λ t. ends_line (data_type p t.place t.data_type) k))

-- behind `read-under-write` at a place
abbrev pub under_write_plan : Place → Plan MemoryPart
under_write_plan p k = wants (a_mark Arrow) (λ q. wants an_under_write (λ u. ends_line (read_under_write p u) k))

-- a port, from its name on
abbrev pub port_plan : Direction → Plan PortOr
port_plan r k = wants a_name (λ n. wants (a_mark Colon) (λ s. port_rest r n k))

-- a statement, behind its first word, where a port may have stood
abbrev pub no_port_plan : Place → List ℕ → Plan PortOr
no_port_plan p w k = wants (behind_first 0 p w) (λ s. k (no_port s))

-- "invalid" behind a name and `is`, where a port may have stood
abbrev pub invalid_plan : Place → List ℕ → Plan PortOr
invalid_plan p w k = wants (a_word (codes "invalid")) (λ s. ends_line (no_port (statement (invalid p (bare p w)))) k)

-- a circuit, from its word on
abbrev pub circuit_plan : Plan CircuitTree
circuit_plan k = wants (a_word (codes "circuit")) (λ t. circuit_rest k)

-- "." int
abbrev pub dotted_number : Plan (Unit {0})
dotted_number k = wants (a_mark Dot) (λ p. wants a_natural (λ n. k tt))

-- "." int "." int NL, behind the first number of a version
abbrev pub behind_major : Plan (Unit {0})
behind_major k = dotted_number (λ u. dotted_number (λ v. ends_line tt k))

-- the version is one of the language, or the parser stops
abbrev pub IsKnown : Place → ℕ → Result (Unit {0}) Stop → Type 0
IsKnown p n (Ok u) = is_known_version n ≡ true
IsKnown p n (Err s) = (is_known_version n ≡ false) × (s ≡ stop.Fault (Version p n))
