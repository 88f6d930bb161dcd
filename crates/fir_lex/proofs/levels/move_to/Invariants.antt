use Rattle.std.proofs.Common.{◌≡◌, reverse, length}
use Rattle.fir_lex.specs.working.Levels.{move_out}
use Rattle.fir_lex.specs.working.Steps.{tokens_in, moved}
use Rattle.fir_lex.proofs.levels.move_to.Given as goal

abbrev pub invariant-loop-place : goal.invariant-loop-place
invariant-loop-place l = (l.draft.text.items ≡ l.initial.draft.text.items) × (moved (tokens_in l.draft) l.place (move_out l.spaces (reverse l.levels.items)) ≡ moved (tokens_in l.initial.draft) l.place (move_out l.spaces (reverse l.initial.levels.items)))

abbrev pub decreases-loop-place : goal.decreases-loop-place
decreases-loop-place l = length l.levels.items
