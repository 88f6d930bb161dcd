use Rattle.fir_resolve.proofs.WalkedScopes.{walks_head}
use Rattle.fir_resolve.proofs.scope.Scope.new.Goals as goal

pub returns : goal.returns
returns c = λ modules. walks_head modules (record { names = c.new.result; opened = c.new-2.result }) (c.new.ensures modules) c.new-2.ensures.items
