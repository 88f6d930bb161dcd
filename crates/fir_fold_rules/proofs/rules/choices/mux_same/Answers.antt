use Rattle.std.proofs.Common.{refl}
use Rattle.fir_fold_rules.proofs.ChoiceRules.{mux_same}
use Rattle.fir_fold_rules.proofs.rules.choices.mux_same.Goals as goal

pub returns-then-is_same : goal.returns-then-is_same
returns-then-is_same c = mux_same c.args.ty c.args.c.now c.args.a.now c.args.b.now c.from.result c.from.ensures (c.if-is_same.ensures refl)
