use Rattle.std.proofs.Common.{refl}
use Rattle.std.specs.Prelude.{map}
use Rattle.ver_check.specs.working.Walks.{due_in}
use Rattle.ver_check.proofs.Undriven.{missing_all}
use Rattle.ver_check.proofs.walk.Walk.all_driven.Goals as goal

pub loop-due-init : goal.loop-due-init
loop-due-init c = λ before st. missing_all before before.scope (map due_in c.args.self.now.due.items) st.due refl
