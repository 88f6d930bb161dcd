-- The numbers of the first marks, one by one.
use Rattle.std.proofs.Common.{◌≡◌, ℕ, ◌+◌, ◌≤◌, List, [], Bool, true, false, Some, length, sym, ap, ◌∙◌, subst, inl, inr, ◌⊎◌, arith}
use Rattle.std.specs.Prelude.{slice_get}
use Rattle.std.proofs.lemmas.Bool.{cases_eq}
use Rattle.std.proofs.lemmas.Option.{none-some, same_Some, slice_get_within}
use Rattle.fir_ast.specs.Circuits.{CircuitTree}
use Rattle.fir_infer_resets.specs.declared.item.End.{End as EndOfCode}
use Rattle.fir_infer_resets.specs.working.MarkedLeaves.{AlsoSet, AreFirstMarked, AreMarkedLeaves, IsAmongFirst, IsNumberOf}

module _ (c : CircuitTree) (owns : List EndOfCode) (marks : List Bool) where
  pub first_none : (found : List Bool) → found ≡ [] → AreFirstMarked c owns marks found 0
  first_none found is number = (
    (λ h. absurd (none-some true (sym (ap (λ l. slice_get l number) is) ∙ h))),
    (λ m. absurd (omega (arith, m.before))),
  )

  further : (n number : ℕ) → IsAmongFirst c owns marks n number → IsAmongFirst c owns marks (n + 1) number
  further n number m = record { leaf = m.leaf; before = omega (arith, m.before) }

  -- one that is not marked is passed
  pub first_passed : (found : List Bool) (n : ℕ) → slice_get marks n ≡ Some false → AreFirstMarked c owns marks found n → AreFirstMarked c owns marks found (n + 1)
  first_passed found n not_marked so_far number = (
    (λ h. further n number ((so_far number).0 h)),
    (λ m. (so_far number).1 (before m (cases_eq m.leaf.at n))),
  )
    where
      before : (m : IsAmongFirst c owns marks (n + 1) number) → (m.leaf.at ≡ n) ⊎ (m.leaf.at ≡ n → ⊥) → IsAmongFirst c owns marks n number
      before m (inl same) = let e : false ≡ true = same_Some false true (sym not_marked ∙ ap (slice_get marks) (sym same) ∙ m.leaf.marked) in absurd (cc)
      before m (inr other) = record { leaf = m.leaf; before = omega (arith, m.before, other) }

  -- and one that is marked has its number set
  pub first_set : (found new : List Bool) (n : ℕ) (own : EndOfCode) → slice_get owns n ≡ Some own → slice_get marks n ≡ Some true → AlsoSet (IsNumberOf c own) found new
      → AreFirstMarked c owns marks found n → AreFirstMarked c owns marks new (n + 1)
  first_set found new n own at marked also so_far number = (
    (λ h. old_or ((also number).0 h)),
    (λ m. (also number).1 (by m (cases_eq m.leaf.at n))),
  )
    where
      old_or : (slice_get found number ≡ Some true) ⊎ IsNumberOf c own number → IsAmongFirst c owns marks (n + 1) number
      old_or (inl h) = further n number ((so_far number).0 h)
      old_or (inr h) =
          record { leaf = record { at = n; own = own; is = at; resets = h.resets; marked = marked; numbered = h.numbered }; before = omega arith }

      by : (m : IsAmongFirst c owns marks (n + 1) number) → (m.leaf.at ≡ n) ⊎ (m.leaf.at ≡ n → ⊥) → (slice_get found number ≡ Some true) ⊎ IsNumberOf c own number
      by m (inl same) =
          let end : m.leaf.own ≡ own = same_Some m.leaf.own own (sym m.leaf.is ∙ ap (slice_get owns) same ∙ at) in
          inr (subst (λ o. IsNumberOf c o number) end (record { resets = m.leaf.resets; numbered = m.leaf.numbered }))
      by m (inr other) = inl ((so_far number).1 (record { leaf = m.leaf; before = omega (arith, m.before, other) }))

  pub first_all : (found : List Bool) (n : ℕ) → length marks ≤ n → AreFirstMarked c owns marks found n → AreMarkedLeaves c owns marks found
  first_all found n past so_far number = (
    (λ h. ((so_far number).0 h).leaf),
    (λ m. (so_far number).1 (record { leaf = m; before = omega (arith, past, slice_get_within marks m.at true m.marked) })),
  )
