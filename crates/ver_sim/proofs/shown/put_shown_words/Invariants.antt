use Rattle.std.proofs.Common.{take}
use Rattle.std.specs.Prelude.{flat_map, filter, not}
use Rattle.fir_base.specs.Words.{is_among}
use Rattle.ver_ast.specs.Nets.{reg_net, reset_targets}
use Rattle.ver_sim.specs.working.Pairs.{Appends}
use Rattle.ver_sim.specs.working.ShownWords.{IsShownOf}
use Rattle.ver_sim.proofs.shown.put_shown_words.Given as goal

abbrev pub invariant-loop-item : goal.invariant-loop-item
invariant-loop-item l =
    Appends (IsShownOf l.v) l.initial.out.items l.out.items (flat_map (λ i. filter (λ r. not (is_among (reset_targets l.v) r.0)) (reg_net i)) (take l.item-index l.item-items))
