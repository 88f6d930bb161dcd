use Rattle.std.proofs.Common.{ℕ, List, [], ◌∷◌, ◌++◌, add-zero}
use Rattle.fir_base.specs.Lists.{In}
use Rattle.ver_ast.specs.declared.tree.Item.TheVariants as item
use Rattle.ver_valid.specs.working.Declarations.{entries}
use Rattle.ver_valid.specs.working.Scopes.{TellsOf}
use Rattle.ver_valid.specs.working.Driven.{Drives}
use Rattle.ver_valid.specs.working.Walks.{IsNextAssign, Reflects, assigned_names, written_names, with_items}
use Rattle.ver_valid.proofs.Steps.{steps_driven, reflects_item, none_more}
use Rattle.ver_valid.proofs.walk.Walk.take_assign.Goals as goal

pub returns : goal.returns
returns c =
    λ v r.
    let old = c.args.self.now in
    let new = record old { assigned = c.drive.new.self } in
    let a = c.args.assign.now in
    steps_driven c.drive.result (IsNextAssign v a) (In (assigned_names v) a.target → ⊥)
    ((ns : List (List ℕ)) → Drives c.args.self.now.assigned ns → Drives c.drive.new.self (ns ++ c.args.assign.now.target ∷ []))
    (Reflects new (with_items v (item.Assign a ∷ []))) (c.in_ok-judge_assign.ensures v r.tells) (c.drive.ensures.fresh (assigned_names v) r.assigned)
    (λ more. reflects_item old new v (item.Assign a) r (none_more (TellsOf old.scope) (entries v) r.tells) (more (assigned_names v) r.assigned)
    (none_more (Drives old.written) (written_names v) r.written) (add-zero old.room))
    c.drive.ensures.driven
