use Rattle.std.proofs.Common.{[], ◌∷◌, ◌++◌, add-zero}
use Rattle.ver_ast.specs.declared.tree.Item.TheVariants as item
use Rattle.ver_valid.specs.working.Declarations.{entries, item_entries}
use Rattle.ver_valid.specs.working.Scopes.{TellsOf}
use Rattle.ver_valid.specs.working.Driven.{Drives}
use Rattle.ver_valid.specs.working.Walks.{IsNextItem, Reflects, assigned_names, written_names, with_items}
use Rattle.ver_valid.proofs.Steps.{steps_same, reflects_item, none_more}
use Rattle.ver_valid.proofs.walk.Walk.take_wire.Goals as goal

pub returns : goal.returns
returns c =
    λ v r.
    let old = c.args.self.now in
    let new = record old { scope = c.declare.new.scope } in
    let i = item.Wire c.args.net.now in
    steps_same c.declare.result (IsNextItem v i) (IsNextItem v i) (TellsOf c.declare.new.scope (entries v ++ item_entries i))
    (Reflects new (with_items v (i ∷ []))) (λ h. h) (λ h. h)
    (λ t. reflects_item old new v i r t (none_more (Drives old.assigned) (assigned_names v) r.assigned)
    (none_more (Drives old.written) (written_names v) r.written) (add-zero old.room))
    (c.declare.ensures (entries v) r.tells (λ h. h))
