use Rattle.std.proofs.Common.{refl}
use Rattle.fir_fold_rules.proofs.ChoiceRules.{mux_first}
use Rattle.fir_fold_rules.proofs.rules.choices.mux_first.Goals as goal

pub returns-in-Mux : goal.returns-in-Mux
returns-in-Mux c = mux_first c.args.ty c.args.c.now c.args.a.now c.args.b.now c.in-Mux.d c.in-Mux.x c.in-Mux.field-2 c.in-Mux.is (c.if-is_same_read.ensures refl)
