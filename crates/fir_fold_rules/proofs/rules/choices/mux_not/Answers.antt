use Rattle.fir_fold_rules.proofs.ChoiceRules.{mux_not}
use Rattle.fir_fold_rules.proofs.rules.choices.mux_not.Goals as goal

pub returns : goal.returns
returns c = mux_not c.args.ty c.args.c.now c.args.a.now c.args.b.now c.in_ok-d.d.now c.in_ok-d.ensures
