use Rattle.std.proofs.Common.{◌≡◌, ℕ, ◌+◌, ◌<◌, List, [], ◌∷◌, ◌++◌, true, false, if◌then◌else◌, drop, get_or, length, sym, ap, ◌∙◌, append_assoc, append-nil}
use Rattle.std.proofs.lemmas.List.{drop_all, drop_more}
use Rattle.fir_ast.specs.declared.fault.Outcome.{Outcome}
use Rattle.fir_meaning.specs.Outcomes.{is_same_miss, told_behind}
use Rattle.fir_driven.proofs.choice.told_once.Goals as goal
use Rattle.fir_driven.proofs.choice.told_once.Goals.{then-not-is_same_miss+in_ok-push-2, else-not-is_same_miss}

-- one outcome more behind another, which is told or passed over
module _ (all told rest : List Outcome) (i : ℕ) (one d : Outcome) (within : i < length rest) (so_far : all ≡ told ++ told_behind one (drop i rest)) where
  abbrev next : Outcome
  next = get_or rest i d

  abbrev behind : List Outcome
  behind = told_behind next (drop (i + 1) rest)

  one_more : all ≡ told ++ (if is_same_miss one next then behind else next ∷ behind)
  one_more = so_far ∙ ap (λ os. told ++ told_behind one os) (drop_more rest i d within)

  told_also : false ≡ is_same_miss one next → all ≡ (told ++ next ∷ []) ++ behind
  told_also other =
      one_more ∙ ap (λ b. told ++ (if b then behind else next ∷ behind)) (sym other) ∙ sym (append_assoc told (next ∷ []) behind)

  passed_over : true ≡ is_same_miss one next → all ≡ told ++ behind
  passed_over same = one_more ∙ ap (λ b. told ++ (if b then behind else next ∷ behind)) (sym same)

all_told : (all told rest : List Outcome) (i : ℕ) (one : Outcome) → drop i rest ≡ [] → all ≡ told ++ told_behind one (drop i rest) → told ≡ all
all_told all told rest i one none so_far = sym (so_far ∙ ap (λ os. told ++ told_behind one os) none ∙ append-nil told)

pub loop-outcome-preserved : goal.loop-outcome-preserved
loop-outcome-preserved c =
    let rest = c.in-Some.rest.now in
    let i = c.loop-outcome.outcome-index in
    let told = c.loop-outcome.told.items in
    elim c.if-not-is_same_miss.branch [
      | then-not-is_same_miss+in_ok-push-2 w ↦
          rw (w.told-is, w.in_ok-push-2.ensures.items)
          (told_also _ told rest i _ _ c.loop-outcome-test.true c.loop-outcome.invariant w.if-not-is_same_miss.ensures)
      | else-not-is_same_miss w ↦ rw w.told-is (passed_over _ told rest i _ _ c.loop-outcome-test.true c.loop-outcome.invariant w.if-not-is_same_miss.ensures)
    ]

pub returns : goal.returns
returns c =
    let rest = c.in-Some.rest.now in
    let i = c.loop-outcome.outcome-index in
    all_told _ c.loop-outcome.told.items rest i _ (drop_all i rest c.loop-outcome-test.false) c.loop-outcome.invariant
