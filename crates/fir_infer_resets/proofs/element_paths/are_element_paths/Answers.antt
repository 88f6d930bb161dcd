use Rattle.std.proofs.Common.{arith, refl, ap, sym, ◌∙◌, ◌+◌}
use Rattle.fir_infer_resets.specs.working.Holding.{path_of}
use Rattle.fir_infer_resets.proofs.SharedSteps.{behind, element_paths, forks}
use Rattle.fir_infer_resets.proofs.element_paths.are_element_paths.Goals as goal
use Rattle.fir_infer_resets.proofs.element_paths.are_element_paths.Goals.{then-shared-one-via-then-shared-one, then-shared-one-via-else-shared-one+then-shared-other}

pub returns-then-shared-one : goal.returns-then-shared-one
returns-then-shared-one c =
    let shared = c.shared_steps-shared.ensures in (
      (λ t. cc t),
      (λ e.
          let fork = forks c.args.one.now c.args.other.now c.shared_steps-shared.result shared.shared shared.most e in
          elim c.then-shared-one.branch [
            | then-shared-one-via-then-shared-one w ↦ absurd (omega (arith, w.if-shared-one.true, fork.one_within))
            | then-shared-one-via-else-shared-one+then-shared-other w ↦ absurd (omega (arith, w.if-shared-other.true, fork.other_within))
          ]),
    )

pub returns-then-not-are_elements : goal.returns-then-not-are_elements
returns-then-not-are_elements c =
    let shared = c.shared_steps-shared.ensures in
    let one = c.index-one-shared in
    let other = c.index-other-shared in (
      (λ t. cc t),
      (λ e.
          let fork = forks c.args.one.now c.args.other.now c.shared_steps-shared.result shared.shared shared.most e in
          c.if-not-are_elements.ensures.1 (fork.one_is one.result one.is, fork.other_is other.result other.is)),
    )

pub returns : goal.returns
returns c =
    let shared = c.shared_steps-shared.ensures in
    let n = c.shared_steps-shared.result in
    let one = c.index-one-shared in
    let other = c.index-other-shared in
    let are = c.if-not-are_elements.ensures.0 refl in
    let one_behind = ap path_of (behind c.args.one.now (n + 1)) in
    let other_behind = ap path_of (behind c.args.other.now (n + 1)) in (
      (λ same.
          element_paths c.args.one.now c.args.other.now n one.result other.result shared.shared shared.most (omega (arith, c.if-shared-one.false))
          (omega (arith, c.if-shared-other.false)) one.is other.is are.0 are.1
          (sym one_behind ∙ c.are_same.ensures.0 same ∙ other_behind)),
      (λ e.
          let fork = forks c.args.one.now c.args.other.now n shared.shared shared.most e in
          c.are_same.ensures.1 (one_behind ∙ fork.same ∙ sym other_behind)),
    )
