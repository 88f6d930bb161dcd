use Rattle.std.proofs.Common.{◌≡◌, ◌-◌, length}
use Rattle.ver_lex.specs.working.Ways.{HasRead}
use Rattle.ver_lex.proofs.lexer.lex.Given as goal

abbrev pub invariant-loop-lexer : goal.invariant-loop-lexer
invariant-loop-lexer l = (l.lexer.draft.text.items ≡ l.bytes) × HasRead l.lexer

abbrev pub decreases-loop-lexer : goal.decreases-loop-lexer
decreases-loop-lexer l = length l.lexer.draft.text.items - l.lexer.cursor.index
