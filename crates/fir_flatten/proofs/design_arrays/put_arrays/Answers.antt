use Rattle.std.proofs.Common.{◌≡◌, ◌++◌, List, ℕ, length, sym, ap, ◌∙◌, append-nil, arith}
use Rattle.fir_flatten.specs.declared.offsets.Offsets.{Offsets}
use Rattle.fir_flatten.specs.working.DesignArrays.{listed}
use Rattle.fir_flatten.specs.working.MovedNets.{offsets_of}
use Rattle.fir_flatten.proofs.PutArrays.{arrays_before, arrays_step}
use Rattle.fir_flatten.proofs.design_arrays.put_arrays.Goals as goal
use Rattle.fir_flatten.proofs.design_arrays.put_arrays.Goals.{in-Some+in_ok-push, in_default}

pub loop-number-init : goal.loop-number-init
loop-number-init c = sym (append-nil c.args.arrays.now.items)

pub loop-number-preserved : goal.loop-number-preserved
loop-number-preserved c =
    let at = c.new-at.result in
    let prefix = c.as_bytes-prefix.result.now in
    let p = c.args.module.now in
    let x = c.loop-number.number in
    let now = c.loop-number.arrays.items in
    arrays_step prefix at p x c.args.arrays.now.items now c.match-branch-2.arrays.items c.loop-number.invariant
    (elim c.match-branch-2.branch [
      | in-Some+in_ok-push w ↦
          ap (λ v. v.items) w.arrays-is ∙ w.in_ok-push.ensures.items
          ∙ ap (λ o. now ++ listed o) (sym w.in-Some.is ∙ c.in_ok-array.ensures)
      | in_default w ↦
          ap (λ v. v.items) w.arrays-is ∙ sym (append-nil now)
          ∙ ap (λ o. now ++ listed o) (sym w.in_default.is ∙ c.in_ok-array.ensures)
    ])

pub returns : goal.returns
returns c =
    let at = c.new-at.result in
    let k = c.args.copy.now in
    let p = c.args.module.now in
    let start = c.args.arrays.now.items in
    let prefix = c.as_bytes-prefix.result.now in
    let all : c.loop-number.number ≡ length p.part.now.arrays.items =
    omega (arith, c.loop-number-test.false, c.loop-number.auto.number-end, c.len-number-end.ensures, p.part.now.arrays.ok.0) in
    c.loop-number.invariant ∙ ap (λ n. start ++ arrays_before prefix at p n) all
    ∙ ap (λ (o : Offsets). start ++ arrays_before prefix o p (length p.part.now.arrays.items)) c.new-at.ensures
    ∙ ap (λ (q : List ℕ). start ++ arrays_before q (offsets_of k p.part.now.port_leaves 0) p (length p.part.now.arrays.items)) c.as_bytes-prefix.ensures
