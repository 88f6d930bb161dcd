use Rattle.fir_fold_rules.proofs.simplifying.+simplest.Given as goal

abbrev pub decreases-simplest : goal.decreases-simplest
decreases-simplest l = l.rounds
