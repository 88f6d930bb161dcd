use Rattle.std.proofs.Common.{get_or, subst, ◌≡◌}
use Rattle.fir_mem.specs.working.Built.{Built}
use Rattle.fir_mem.proofs.Steps.{ok_on, leaf_pipe, leaf_other}
use Rattle.fir_mem.proofs.taken.take_leaf.Goals as goal

pub returns-in-Pipe : goal.returns-in-Pipe
returns-in-Pipe c =
    ok_on c.take_pipe.result _ _ _ c.take_pipe.ensures
    (leaf_pipe c.args.writes.now c.args.lowered.now c.args.number c.index.result.now c.in-Pipe.pipe c.requires.within
    (subst (λ (b : Built). c.index.result.now ≡ get_or b.leaves c.args.number c.index.result.now) c.lowered.view_is c.index.ensures) c.in-Pipe.is)

pub returns-in_default : goal.returns-in_default
returns-in_default c =
    leaf_other c.args.writes.now c.args.lowered.now c.args.number c.index.result.now c.requires.within
    (subst (λ (b : Built). c.index.result.now ≡ get_or b.leaves c.args.number c.index.result.now) c.lowered.view_is c.index.ensures) c.in_default.not-Pipe
