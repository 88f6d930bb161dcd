use Rattle.std.proofs.Common.{List, refl, subst}
use Rattle.std.proofs.lemmas.List.{take_all}
use Rattle.fir_mem.specs.declared.clocked_writes.PortWrite.{PortWrite}
use Rattle.fir_mem.specs.working.Built.{Puts, put_choices, choices_read}
use Rattle.fir_mem.proofs.Steps.{choices_more}
use Rattle.fir_mem.proofs.taken.put_choices.Goals as goal

pub loop-write-init : goal.loop-write-init
unfolding put_choices choices_read
loop-write-init c = record { all = refl; read = refl }

pub loop-write-preserved : goal.loop-write-preserved
loop-write-preserved c =
    choices_more c.args.lowered.now c.loop-write.lowered c.put_choice.new.lowered c.args.address.now c.args.ty c.args.writes.now c.loop-write.write-index c.write-item.result
    c.args.word c.loop-write.taken c.in_ok-taken.taken c.loop-write.invariant c.loop-write-test.true c.write-item.is c.in_ok-taken.ensures

pub returns : goal.returns
returns c =
    subst (λ (ws : List PortWrite). Puts c.loop-write.lowered c.loop-write.taken (put_choices c.args.lowered.now c.args.address.now c.args.ty ws c.args.word)
    (choices_read c.args.lowered.now c.args.address.now c.args.ty ws c.args.word)) (take_all c.loop-write.write-index c.args.writes.now c.loop-write-test.false)
    c.loop-write.invariant
