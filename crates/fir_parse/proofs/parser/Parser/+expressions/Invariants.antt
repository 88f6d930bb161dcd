-- Each call is at the same nesting and of a later kind, or one bracket deeper.
use Rattle.std.proofs.Common.{◌≡◌, ℕ, ◌+◌, ◌-◌, ◌*◌, ◌≤◌, map}
use Rattle.fir_ast.specs.declared.place.Place.{Place}
use Rattle.fir_ast.specs.Expressions.{Parts}
use Rattle.fir_parse.specs.Heights.{height_with}
use Rattle.fir_parse.specs.working.Reads.{left, rest}
use Rattle.fir_parse.specs.working.Reading.{read_on}
use Rattle.fir_parse.specs.working.States.{State, wants}
use Rattle.fir_parse.specs.working.Symbols.{parts}
use Rattle.fir_parse.specs.working.Trees.{part_of, onto}
use Rattle.fir_parse.proofs.parser.Parser.+expressions.Given as goal
use Rattle.fir_parse.specs.Limits.{everywhere}

-- how many brackets may still be opened, and then the kind of the call
abbrev rank : ℕ → ℕ → ℕ
rank depth kind = 8 * (257 - depth) + kind

abbrev pub decreases-subindex : goal.decreases-subindex
decreases-subindex l = rank l.depth 0

abbrev pub decreases-reference : goal.decreases-reference
decreases-reference l = rank l.depth 1

abbrev pub decreases-referred : goal.decreases-referred
decreases-referred l = rank l.depth 2

abbrev pub decreases-applied : goal.decreases-applied
decreases-applied l = rank l.depth 2

abbrev pub decreases-behind_word : goal.decreases-behind_word
decreases-behind_word l = rank l.depth 3

abbrev pub decreases-expression : goal.decreases-expression
decreases-expression l = rank l.depth 4

abbrev pub decreases-index : goal.decreases-index
decreases-index l = rank l.depth 5

abbrev pub decreases-next_operand : goal.decreases-next_operand
decreases-next_operand l = rank l.depth 5

abbrev pub decreases-boxed_operand : goal.decreases-boxed_operand
decreases-boxed_operand l = rank l.depth 5

abbrev pub decreases-next_boxed_operand : goal.decreases-next_boxed_operand
decreases-next_boxed_operand l = rank l.depth 6

abbrev pub decreases-binary : goal.decreases-binary
decreases-binary l = rank l.depth 6

abbrev pub decreases-unary : goal.decreases-unary
decreases-unary l = rank l.depth 6

abbrev pub decreases-with_integer : goal.decreases-with_integer
decreases-with_integer l = rank l.depth 6

abbrev pub decreases-with_range : goal.decreases-with_range
decreases-with_range l = rank l.depth 6

abbrev pub decreases-mux : goal.decreases-mux
decreases-mux l = rank l.depth 7

abbrev pub decreases-validif : goal.decreases-validif
decreases-validif l = rank l.depth 7

abbrev pub decreases-operation : goal.decreases-operation
decreases-operation l = rank l.depth 7

-- what is expected from the first tokens is expected of what follows the parts so far
abbrev pub invariant-reference-loop-parts : goal.invariant-reference-loop-parts
invariant-reference-loop-parts l = record {
  leads : (end : Place) (k : Parts → State) → read_on everywhere end (wants (parts l.depth 1) k) (rest l.initial.self) ≡ read_on everywhere end (wants (parts l.depth l.height) (λ ps. k (onto (map part_of l.parts.items) ps))) (rest l.self);
  high : (ps : Parts) → height_with (onto (map part_of l.parts.items) ps) 1 ≡ height_with ps l.height;
  low : l.height ≤ 256;
  nearer : left l.self ≤ left l.initial.self;
}

abbrev pub decreases-reference-loop-parts : goal.decreases-reference-loop-parts
decreases-reference-loop-parts l = left l.self
