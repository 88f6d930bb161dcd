use Rattle.std.proofs.Common.{◌≡◌, [], ◌∷◌, ◌+◌, ◌∙◌, ap, drop, subst, sym}
use Rattle.std.proofs.lemmas.List.{drop_all, drop_more}
use Rattle.fir_ast.specs.working.Views.{circuit_of}
use Rattle.fir_type_table.specs.working.Tables.{types_of}
use Rattle.fir_infer_resets.proofs.MeetsHeld.{MeetsSoFar, meets_all, meets_first, meets_next}
use Rattle.fir_infer_resets.proofs.build.join_module.Goals as goal

pub loop-meet-init : goal.loop-meet-init
loop-meet-init c = λ js ms holds are stand. meets_first (circuit_of c.args.named.now) (types_of c.args.findings.now.table) js ms c.args.meets.now c.args.joined.now holds are

pub loop-meet-preserved : goal.loop-meet-preserved
loop-meet-preserved c = λ js ms holds are stand.
    let tree = circuit_of c.args.named.now in
    let ts = types_of c.args.findings.now.table in
    let all = c.args.meets.now in
    let i = c.loop-meet.meet-index in
    let x = c.meet-item.result in
    let left : drop i all ≡ x ∷ drop (i + 1) all = drop_more all i x c.loop-meet-test.true ∙ ap (λ y. y ∷ drop (i + 1) all) (sym c.meet-item.is) in
    meets_next tree ts js ms c.args.findings.now c.args.module_number x (drop (i + 1) all) c.loop-meet.joined c.join_meet.new.joined stand c.in_ok-join_meet.ensures
    (subst (λ ys. MeetsSoFar tree ts js ms ys c.loop-meet.joined) left (c.loop-meet.invariant js ms holds are stand))

pub returns : goal.returns
returns c = λ js ms holds are stand.
    let tree = circuit_of c.args.named.now in
    let ts = types_of c.args.findings.now.table in
    let i = c.loop-meet.meet-index in
    let none : drop i c.args.meets.now ≡ [] = drop_all i c.args.meets.now c.loop-meet-test.false in
    meets_all tree ts js ms c.loop-meet.joined (subst (λ ys. MeetsSoFar tree ts js ms ys c.loop-meet.joined) none (c.loop-meet.invariant js ms holds are stand))
