use Rattle.std.proofs.Common.{sym}
use Rattle.fir_type_table.proofs.FirstMembers.{firsts_kept, firsts_more}
use Rattle.fir_type_table.proofs.sizes.first_numbers.Goals as goal
use Rattle.fir_type_table.proofs.sizes.first_numbers.Goals.{then-not-contains_key+in_ok-copy+in_ok-insert, else-not-contains_key}

pub loop-number-preserved : goal.loop-number-preserved
loop-number-preserved c =
    let members = c.args.members.now in
    let i = c.loop-number.number in
    let member = c.index-members-number.result in
    elim c.if-not-contains_key.branch [
      | then-not-contains_key+in_ok-copy+in_ok-insert w ↦
          let updates = rw w.in_ok-copy.ensures at w.in_ok-insert.ensures.updates in
          rw w.numbers-is
          (firsts_more c.loop-number.numbers w.insert.new.self members i member c.loop-number-test.true c.index-members-number.is updates
          (sym w.if-not-contains_key.ensures) c.loop-number.invariant)
      | else-not-contains_key w ↦
          rw w.numbers-is
          (firsts_kept c.loop-number.numbers members i member c.loop-number-test.true c.index-members-number.is (sym w.if-not-contains_key.ensures)
          c.loop-number.invariant)
    ]
