use Rattle.fir_expand.proofs.expanded.expand.Goals as goal

pub new-requires-clause-leafed : goal.new-requires-clause-leafed
new-requires-clause-leafed c =
    let within = c.in-Ok.ensures.within in
    c.in_ok-modules-in-Ok.ensures within.cost within.has within.small
