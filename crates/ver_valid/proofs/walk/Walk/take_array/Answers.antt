use Rattle.std.proofs.Common.{◌≡◌, ◌+◌, ◌-◌, [], ◌∷◌, ◌++◌, refl, arith}
use Rattle.ver_ast.specs.declared.tree.Item.TheVariants as item
use Rattle.ver_ast.specs.Nets.{item_array}
use Rattle.ver_valid.specs.working.Declarations.{entries, item_entries}
use Rattle.ver_valid.specs.working.Scopes.{TellsOf}
use Rattle.ver_valid.specs.working.Driven.{Drives}
use Rattle.ver_valid.specs.working.Walks.{IsNextItem, IsNextNet, Reflects, assigned_names, written_names, with_items, words_of}
use Rattle.ver_valid.proofs.Steps.{steps_same, reflects_item, none_more}
use Rattle.ver_valid.proofs.walk.Walk.take_array.Goals as goal

pub returns : goal.returns
returns c =
    λ v r.
    let old = c.args.self.now in
    let new = record old { scope = c.declare.new.scope; room = old.room - (c.from-last.result + 1) } in
    let i = item.Array c.args.array.now in
    let room = r.room in
    let last = c.from-last.ensures in
    let fits = c.if-self-last.false in
    let own : words_of (item_array i) ≡ 0 + (c.args.array.now.last + 1) = refl in
    steps_same c.declare.result (IsNextNet v c.args.array.now.name c.args.array.now.width) (IsNextItem v i)
    (TellsOf c.declare.new.scope (entries v ++ item_entries i)) (Reflects new (with_items v (i ∷ []))) (λ h. (h, omega arith)) (λ h. h.0)
    (λ t. reflects_item old new v i r t (none_more (Drives old.assigned) (assigned_names v) r.assigned)
    (none_more (Drives old.written) (written_names v) r.written) (omega arith))
    (c.declare.ensures (entries v) r.tells (λ h. h))
