use Rattle.std.proofs.Common.{◌+◌, ap, map, subst, sym, ◌∙◌}
use Rattle.std.specs.Prelude.{◌≡◌, is_some}
use Rattle.fir_ast.specs.working.Views.{circuit_of}
use Rattle.fir_type_table.specs.working.Saturated.{saturated}
use Rattle.fir_types.specs.working.LeafNumbers.{first_leaves}
use Rattle.fir_types.proofs.LeafWalks.{leaf_past, leaf_there, named_number, read_at}
use Rattle.fir_types.proofs.typed.Typed.first_named.Goals as goal

pub returns-in_err-first-clause-there : goal.returns-in_err-first-clause-there
returns-in_err-first-clause-there c =
    let lists = c.self.inside.findings.first_leaves.items in
    let leaves = subst (λ t. map (λ v. v.items) lists ≡ map (map saturated) (first_leaves (circuit_of t))) c.self.view_is c.self.invariant.leaves in
    let v = c.in_ok-first_leaves.first_leaves.now in
    let own = c.in_ok-first_leaves.ensures.lookup in
    let module_is = read_at c.deref.result.now lists c.args.module_number v c.deref.ensures.value own.3.0 own.1 in
    let past = rw c.deref-2.ensures.value at c.in_err-first.ensures.lookup.3 in
    ap is_some c.from_residual-in_err-first.ensures
    ∙ ap is_some (sym (leaf_past (circuit_of c.args.self.now) lists leaves c.args.module_number v module_is c.args.range.now.declaration past))

pub returns-clause-number : goal.returns-clause-number
returns-clause-number c = λ meant declaration shared.
    let lists = c.self.inside.findings.first_leaves.items in
    let leaves = subst (λ t. map (λ v. v.items) lists ≡ map (map saturated) (first_leaves (circuit_of t))) c.self.view_is c.self.invariant.leaves in
    let v = c.in_ok-first_leaves.first_leaves.now in
    let own = c.in_ok-first_leaves.ensures.lookup in
    let number = c.args.module_number in
    let position = c.args.range.now.declaration in
    let first = c.in_ok-first.first.now in
    let at = c.in_ok-first.ensures.lookup in
    let module_is = read_at c.deref.result.now lists number v c.deref.ensures.value own.3.0 own.1 in
    let is = read_at c.deref-2.result.now v.items position first c.deref-2.ensures.value at.3.0 at.1 in
    let there = leaf_there (circuit_of c.args.self.now) lists leaves number v module_is position first is in
    c.new.ensures ∙ c.saturating_add-number.ensures ∙ ap (λ n. saturated (n + c.args.range.now.shared_offset)) c.number.ensures
    ∙ named_number (circuit_of c.args.self.now) number position c.args.range.now.shared_offset first there.0 meant there.1 there.2 declaration shared

pub returns-clause-there : goal.returns-clause-there
returns-clause-there c =
    let lists = c.self.inside.findings.first_leaves.items in
    let leaves = subst (λ t. map (λ v. v.items) lists ≡ map (map saturated) (first_leaves (circuit_of t))) c.self.view_is c.self.invariant.leaves in
    let v = c.in_ok-first_leaves.first_leaves.now in
    let own = c.in_ok-first_leaves.ensures.lookup in
    let number = c.args.module_number in
    let position = c.args.range.now.declaration in
    let first = c.in_ok-first.first.now in
    let at = c.in_ok-first.ensures.lookup in
    let module_is = read_at c.deref.result.now lists number v c.deref.ensures.value own.3.0 own.1 in
    let is = read_at c.deref-2.result.now v.items position first c.deref-2.ensures.value at.3.0 at.1 in
    ap is_some (sym (leaf_there (circuit_of c.args.self.now) lists leaves number v module_is position first is).1)
