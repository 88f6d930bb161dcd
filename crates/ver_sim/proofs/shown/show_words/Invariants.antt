use Rattle.std.proofs.Common.{◌≡◌, drop}
use Rattle.ver_sim.specs.working.ShownWords.{words_put}
use Rattle.ver_sim.proofs.shown.show_words.Given as goal

abbrev pub invariant-loop-one : goal.invariant-loop-one
invariant-loop-one l = words_put (drop l.one-index l.shown) l.state l.values ≡ words_put l.shown l.state l.fn.values
