use Rattle.std.proofs.Common.{◌+◌, ◌-◌, ◌≤◌, arith, length, refl, ◌∙◌}
use Rattle.std.proofs.lemmas.Option.{slice_get_read}
use Rattle.fir_elaborate.proofs.CopyWords.{no_word_found, word_found}
use Rattle.fir_elaborate.proofs.words.push_words.Goals as goal
use Rattle.fir_elaborate.proofs.words.push_words.Goals.{then-is_word+in_ok-number+in_ok-push, else-is_word}

pub loop-leaf-preserved : goal.loop-leaf-preserved
loop-leaf-preserved c =
    let x = c.loop-leaf.leaf in
    let leaves = c.args.leaves.now in
    let invariant = c.loop-leaf.invariant in
    let found = rw c.in_ok-there.ensures.ok_part at c.get.ensures.lookup in
    let there = slice_get_read leaves (length leaves) x c.in_ok-there.there.now refl found.3.0 found.1 in
    let high : x + 1 ≤ c.args.from + (c.args.upto - c.args.from) = omega (arith, c.loop-leaf-test.true) in
    elim c.if-is_word.branch [
      | then-is_word+in_ok-number+in_ok-push w ↦
          record {
            low = omega arith;
            high = high;
            words =
                rw w.state-is
                (word_found c.args.at leaves c.args.from x _ _ _ _ _ invariant.low there (w.if-is_word.ensures) (w.new.ensures ∙ w.in_ok-number.ensures)
                invariant.words w.in_ok-push.ensures.items);
          }
      | else-is_word w ↦
          record {
            low = omega arith;
            high = high;
            words = rw w.state-is (no_word_found c.args.at leaves c.args.from x _ _ _ invariant.low there w.if-is_word.ensures invariant.words);
          }
    ]
