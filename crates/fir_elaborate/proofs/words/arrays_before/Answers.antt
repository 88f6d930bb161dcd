use Rattle.std.proofs.Common.{◌≡◌, ◌+◌, ◌-◌, arith, get_or, map, ap, sym, ◌∙◌}
use Rattle.std.proofs.lemmas.List.{get_or-map}
use Rattle.fir_leaf_circuit.specs.declared.array.LeafArray.{LeafArray}
use Rattle.fir_elaborate.specs.working.Walks.{first_from}
use Rattle.fir_elaborate.proofs.FirstArrays.{first_earlier, first_here, first_none}
use Rattle.fir_elaborate.proofs.words.arrays_before.Goals as goal

pub loop-before-preserved : goal.loop-before-preserved
loop-before-preserved c =
    let n = c.loop-before.before in
    let arrays = c.args.arrays.now in
    let last = c.in_ok-last.last.now in
    let ds = map (λ (a : LeafArray). a.declaration) arrays in
    let found = rw c.in_ok-last.ensures.ok_part at c.get.ensures.lookup in
    let is : get_or ds (n - 1) 0 ≡ last.declaration =
    get_or-map (λ (a : LeafArray). a.declaration) arrays (n - 1) last 0 found.3.0 ∙ ap (λ (a : LeafArray). a.declaration) (sym found.1) in
    c.loop-before.invariant
    ∙ first_earlier ds n (n - 1) c.args.declaration (omega (arith, c.loop-before-test.true)) (omega (arith, is, c.if-last-declaration.false))

pub returns-then-last-declaration : goal.returns-then-last-declaration
returns-then-last-declaration c =
    let n = c.loop-before.before in
    let arrays = c.args.arrays.now in
    let last = c.in_ok-last.last.now in
    let ds = map (λ (a : LeafArray). a.declaration) arrays in
    let found = rw c.in_ok-last.ensures.ok_part at c.get.ensures.lookup in
    let is : get_or ds (n - 1) 0 ≡ last.declaration =
    get_or-map (λ (a : LeafArray). a.declaration) arrays (n - 1) last 0 found.3.0 ∙ ap (λ (a : LeafArray). a.declaration) (sym found.1) in
    let next : n - 1 + 1 ≡ n = omega (arith, c.loop-before-test.true) in
    next ∙ sym (c.loop-before.invariant ∙ first_here ds n (n - 1) c.args.declaration next (omega (arith, is, c.if-last-declaration.true)))

pub returns : goal.returns
returns c =
    let ds = map (λ (a : LeafArray). a.declaration) c.args.arrays.now in
    let none : c.loop-before.before ≡ 0 = omega (arith, c.loop-before-test.false) in
    sym (c.loop-before.invariant ∙ ap (λ z. first_from ds z c.args.declaration) none ∙ first_none ds c.args.declaration)
