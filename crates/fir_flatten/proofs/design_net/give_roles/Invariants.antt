use Rattle.std.proofs.Common.{◌≡◌, drop}
use Rattle.fir_flatten.specs.working.PutModules.{given_from}
use Rattle.fir_flatten.proofs.design_net.give_roles.Given as goal

abbrev pub invariant-loop-leaf : goal.invariant-loop-leaf
invariant-loop-leaf l = given_from l.at l.leaf (drop l.leaf l.roles) l.all ≡ given_from l.at 0 l.roles l.initial.all
