use Rattle.std.proofs.Common.{◌≡◌, ◌++◌, take}
use Rattle.fir_lex.specs.working.Lexed.{closed_at}
use Rattle.fir_lex.specs.working.Steps.{tokens_in}
use Rattle.fir_lex.proofs.levels.close.Given as goal

abbrev pub invariant-loop-level : goal.invariant-loop-level
invariant-loop-level l = (l.draft.text.items ≡ l.initial.draft.text.items) × (tokens_in l.draft ≡ tokens_in l.initial.draft ++ closed_at l.place (take l._level-index l.levels))
