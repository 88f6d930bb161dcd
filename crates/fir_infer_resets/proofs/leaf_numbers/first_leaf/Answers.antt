use Rattle.std.proofs.Common.{Some, ap, sym, ◌∙◌}
use Rattle.std.specs.Prelude.{option_map}
use Rattle.fir_type_table.specs.working.Saturated.{saturated}
use Rattle.fir_types.proofs.LeafWalks.{leaf_past, leaf_there, read_at}
use Rattle.fir_infer_resets.proofs.leaf_numbers.first_leaf.Goals as goal

pub returns-in_err-first : goal.returns-in_err-first
returns-in_err-first c = λ tree typed.
    let lists = c.args.findings.now.first_leaves.items in
    let v = c.in_ok-first_leaves.first_leaves.now in
    let own = c.in_ok-first_leaves.ensures.lookup in
    let module_is = read_at c.deref.result.now lists c.args.module_number v c.deref.ensures.value own.3.0 own.1 in
    let past = rw c.deref-2.ensures.value at c.in_err-first.ensures.lookup.3 in
    c.from_residual-in_err-first.ensures
    ∙ ap (option_map saturated) (sym (leaf_past tree lists typed.leaves c.args.module_number v module_is c.args.position past))

pub returns : goal.returns
returns c = λ tree typed.
    let lists = c.args.findings.now.first_leaves.items in
    let v = c.in_ok-first_leaves.first_leaves.now in
    let own = c.in_ok-first_leaves.ensures.lookup in
    let module_is = read_at c.deref.result.now lists c.args.module_number v c.deref.ensures.value own.3.0 own.1 in
    let first = c.in_ok-first.first.now in
    let at = c.in_ok-first.ensures.lookup in
    let is = read_at c.deref-2.result.now v.items c.args.position first c.deref-2.ensures.value at.3.0 at.1 in
    let there = leaf_there tree lists typed.leaves c.args.module_number v module_is c.args.position first is in
    ap Some there.2 ∙ ap (option_map saturated) (sym there.1)
