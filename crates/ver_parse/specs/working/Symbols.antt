-- What may be expected next in a text.
use Rattle.std.specs.Prelude.{List}
use Rattle.ver_ast.specs.Tokens.{VToken}

pub data Symbol : Type 0 where
  -- this very token
  a_token : VToken → Symbol
  a_name : Symbol
  a_number : Symbol
  a_constant : Symbol
  -- `[` num `:` 0 `]`, or none
  a_range : Symbol
  -- the mark of a clock, or none
  a_mark : Symbol
  a_direction : Symbol
  -- ports and a closing parenthesis; and further ones
  ports : Symbol
  more_ports : Symbol
  -- items and `endmodule`
  items : Symbol
  an_item : Symbol
  -- what stands behind the name of a register
  behind_register : Symbol
  -- what stands behind `always @ ( posedge name`, and behind a parenthesis there
  behind_edge : Symbol
  a_block : Symbol
  -- writes and `end`
  writes : Symbol
  an_atom : Symbol
  -- what stands behind a name in an operand, and behind the first number there
  a_select : Symbol
  behind_index : Symbol
  -- what stands behind an opening brace; and further operands and a closing brace
  braced : Symbol
  more_atoms : Symbol
  a_side : Symbol
  -- one that begins with no word
  other_side : Symbol
  -- what stands behind a name that begins a right side, and behind a bracket there
  behind_side_name : Symbol
  behind_bracket : Symbol
  -- what stands behind the first operand of a right side, or none
  behind_atom : Symbol
  -- what stands behind the first signed operand
  behind_signed : Symbol
  a_signed_operator : Symbol
