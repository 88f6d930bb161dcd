use Rattle.std.proofs.Common.{◌≡◌, [], ◌∷◌, ◌+◌, ◌∙◌, ap, drop, subst, sym}
use Rattle.std.proofs.lemmas.List.{drop_all, drop_more}
use Rattle.fir_ast.specs.working.Views.{circuit_of}
use Rattle.fir_type_table.specs.working.Tables.{types_of}
use Rattle.fir_infer_resets.proofs.MeetsHeld.{ModulesSoFar, modules_all, modules_first, modules_next}
use Rattle.fir_infer_resets.proofs.build.joined_of.Goals as goal

pub loop-number-init : goal.loop-number-init
loop-number-init c =
    let tree = circuit_of c.args.named.now in
    modules_first tree c.args.findings.now c.requires.typed c.deref-meets-items.result.now c.new-joined.result (c.new-joined.ensures tree)
    (rw c.deref-meets-items.ensures.value c.in_ok-meets.ensures)

pub loop-number-preserved : goal.loop-number-preserved
loop-number-preserved c =
    let tree = circuit_of c.args.named.now in
    let ts = types_of c.args.findings.now.table in
    let all = c.deref-meets-items.result.now in
    let n = c.loop-number.number in
    let v = c.meets-item.result in
    let left : drop n all ≡ v ∷ drop (n + 1) all = drop_more all n v c.loop-number-test.true ∙ ap (λ y. y ∷ drop (n + 1) all) (sym c.meets-item.is) in
    modules_next tree c.args.findings.now c.requires.typed n v c.deref.result.now (drop (n + 1) all) c.loop-number.joined c.join_module.new.joined c.deref.ensures.value
    c.in_ok-join_module.ensures (subst (λ vs. ModulesSoFar tree ts n vs c.loop-number.joined) left c.loop-number.invariant)

pub returns : goal.returns
returns c =
    let tree = circuit_of c.args.named.now in
    let ts = types_of c.args.findings.now.table in
    let n = c.loop-number.number in
    let none : drop n c.deref-meets-items.result.now ≡ [] = drop_all n c.deref-meets-items.result.now c.loop-number-test.false in
    modules_all tree c.args.findings.now c.requires.typed c.requires.names n c.loop-number.joined
    (subst (λ vs. ModulesSoFar tree ts n vs c.loop-number.joined) none c.loop-number.invariant)
