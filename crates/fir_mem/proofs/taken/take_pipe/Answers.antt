use Rattle.std.proofs.Common.{ap, arith, get_or, length, subst, ◌≡◌, ◌∙◌}
use Rattle.fir_mem.specs.working.Built.{Built}
use Rattle.fir_mem.proofs.Steps.{pipe_built, place_within}
use Rattle.fir_mem.proofs.taken.take_pipe.Goals as goal

pub index_mut-requires : goal.index_mut-requires
index_mut-requires c =
    let low =
    place_within c.args.writes.now c.args.lowered.now _ _ c.args.number c.index-leaf.result.now c.args.pipe.now _ _ _ c.requires.within
    (subst (λ (b : Built). c.index-leaf.result.now ≡ get_or b.leaves c.args.number c.index-leaf.result.now) c.lowered.view_is c.index-leaf.ensures)
    c.in_ok-reading.ensures c.in_ok-word.ensures (record { all = c.lowered-2.view_is ∙ c.in_ok-next.ensures.all; read = c.in_ok-next.ensures.read }) in
    omega (arith, low, c.lowered-2.inside.leaves.ok.0, ap (λ (b : Built). length b.leaves) c.lowered-2.view_is)

pub returns : goal.returns
returns c =
    pipe_built c.args.writes.now c.args.lowered.now _ _ c.args.number c.index-leaf.result.now c.args.pipe.now _ _ _ c.requires.within
    (subst (λ (b : Built). c.index-leaf.result.now ≡ get_or b.leaves c.args.number c.index-leaf.result.now) c.lowered.view_is c.index-leaf.ensures)
    c.in_ok-reading.ensures c.in_ok-word.ensures (record { all = c.lowered-2.view_is ∙ c.in_ok-next.ensures.all; read = c.in_ok-next.ensures.read })
    c.index_mut.result.now c.index_mut.ensures.value
