use Rattle.std.proofs.Common.{sym, ◌∙◌}
use Rattle.std.proofs.lemmas.List.{at_drop_all}
use Rattle.ver_sim.specs.working.ShownWords.{words_put}
use Rattle.ver_sim.proofs.ShowingWords.{shown_next, shown_none}
use Rattle.ver_sim.proofs.shown.show_words.Goals as goal

pub loop-one-preserved : goal.loop-one-preserved
loop-one-preserved c =
    shown_next c.args.shown.now c.args.state.now c.loop-one.one-index (record { net = 0; word = 0 }) c.loop-one.values _ _ c.loop-one-test.true c.loop-one.invariant c.show_word.ensures

pub returns : goal.returns
returns c =
    sym (at_drop_all (λ l. words_put l c.args.state.now c.loop-one.values) c.args.shown.now c.loop-one.one-index c.loop-one-test.false ∙ shown_none _ _) ∙ c.loop-one.invariant
