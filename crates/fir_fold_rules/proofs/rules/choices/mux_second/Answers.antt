use Rattle.std.proofs.Common.{refl}
use Rattle.fir_fold_rules.proofs.ChoiceRules.{mux_second}
use Rattle.fir_fold_rules.proofs.rules.choices.mux_second.Goals as goal

pub returns-in-Mux : goal.returns-in-Mux
returns-in-Mux c = mux_second c.args.ty c.args.c.now c.args.a.now c.args.b.now c.in-Mux.d c.in-Mux.field-1 c.in-Mux.y c.in-Mux.is (c.if-is_same_read.ensures refl)
