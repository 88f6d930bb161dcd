use Rattle.std.proofs.Common.{length, Some, refl, sym, ap, ◌∙◌}
use Rattle.std.proofs.lemmas.Option.{slice_get_past, slice_get_read}
use Rattle.fir_leaf_table.proofs.FoundLeaves.{both_ok, has_first, leaves_found, none_found}
use Rattle.fir_leaf_table.proofs.declared.declared_leaves.Goals as goal

pub returns-in_default : goal.returns-in_default
returns-in_default c = λ circuit s before n component frames declared.
    none_found c.args.frame.now circuit s frames before n component c.args.position declared (sym c.in_default.ensures) c.new.result.items
    c.new.ensures.items

pub returns-in_default-get : goal.returns-in_default-get
returns-in_default-get c = λ circuit s before n component frames declared.
    has_first c.args.frame.now circuit s frames before n component c.args.position declared
    (slice_get_past c.args.frame.now.first_leaves.now c.args.position c.in_default-get.ensures.lookup.3) c.new-in_default-get.result.items

pub returns : goal.returns
returns c =
    let firsts = c.args.frame.now.first_leaves.now in
    let lookup = c.in-Some-get.ensures.lookup in
    both_ok c.type_leaves.result _ _ _
    (λ leaves flips holds circuit s before n component frames declared.
    leaves_found c.args.frame.now circuit s frames before n component c.args.position declared c.in-Some.found c.number-first.result leaves.items
    (sym c.in-Some.ensures)
    (slice_get_read firsts (length firsts) c.args.position c.in-Some-get.first.now refl lookup.3.0 lookup.1 ∙ ap Some (sym c.number-first.ensures))
    c.if-first.false
    flips holds)
    c.type_leaves.ensures.flips c.type_leaves.ensures.holds
