use Rattle.std.proofs.Common.{◌≡◌, drop, map}
use Rattle.fir_base.specs.Words.{is_among}
use Rattle.fir_base.proofs.words.is_among.Given as goal

abbrev pub invariant-loop-entry : goal.invariant-loop-entry
invariant-loop-entry l = is_among (map (λ entry. entry.now) (drop l.entry-index l.words)) l.word ≡ is_among (map (λ entry. entry.now) l.words) l.word
