use Rattle.std.proofs.Common.{◌≡◌}
use Rattle.fir_lex.specs.working.Lexed.{lexed}
use Rattle.fir_lex.specs.working.Ways.{left, turns}
use Rattle.fir_lex.proofs.lexer.lex.Given as goal

abbrev pub invariant-loop-lexer : goal.invariant-loop-lexer
invariant-loop-lexer l = (l.lexer.draft.text.items ≡ l.bytes) × (left l.lexer ≡ lexed l.bytes)

abbrev pub decreases-loop-lexer : goal.decreases-loop-lexer
decreases-loop-lexer l = turns l.lexer
