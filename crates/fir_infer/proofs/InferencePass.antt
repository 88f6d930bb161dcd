-- From the faults of resets and widths to the first fault of the circuit, and to what the pass keeps.
use Rattle.std.proofs.Common.{◌≡◌, ℕ, zero, suc, ◌<◌, ◌≤◌, Result, Ok, Err, IfOk, ap, subst, ◌⊎◌, inl, inr, arith}
use Rattle.std.proofs.lemmas.Bool.{cases_lt}
use Rattle.fir_ast.specs.declared.circuit.Circuit.{Circuit}
use Rattle.fir_ast.specs.Circuits.{CircuitTree}
use Rattle.fir_ast.specs.working.Views.{circuit_of}
use Rattle.fir_ast.specs.Faults.{Fault}
use Rattle.fir_pass.specs.Groups.{group_of, IsClear}
use Rattle.fir_pass.specs.Law.{IsFirst}
use Rattle.fir_pass.specs.working.Law.{Passes}
use Rattle.fir_meaning.specs.ResetWalks.{ShowsResets}
use Rattle.fir_meaning.specs.working.WidthGroups.{IsInferred}
use Rattle.fir_meaning.specs.SourceMeaning.{circuit_meaning}
use Rattle.fir_meaning.specs.working.Stages.{IsClearOf, IsTreeOf}
use Rattle.fir_meaning.specs.working.WidthLaws.{FitsAll}
use Rattle.fir_meaning.proofs.InferredCircuits.{over_clear, legal_clear}
use Rattle.fir_meaning.proofs.KeptTrees.{first_at, keeps_tree}

module _ (c : CircuitTree) where
  -- a fault of resets is the first of all
  pub resets_first : (f : Fault) → ShowsResets c f → IsFirst 5 7 (circuit_meaning c) f
  unfolding circuit_meaning
  resets_first f h =
      first_at 5 7 5 (circuit_meaning c) f (ap (λ (g : Fault). group_of g.code) h.is) (omega arith) (omega arith) h h
      (λ j low high. absurd (omega (arith, low, high)))

  -- where no walk joins both kinds, one of widths is the first
  pub widths_behind : (f : Fault) → ((g : Fault) → ShowsResets c g → ⊥) → IsFirst 6 7 (circuit_meaning c) f → IsFirst 5 7 (circuit_meaning c) f
  unfolding circuit_meaning
  widths_behind f clear first = record {
    low = omega (arith, first.low);
    high = first.high;
    told = first.told;
    stands = first.stands;
    clear = λ j low high. by j low high (cases_lt 5 j);
  }
    where
      by : (j : ℕ) → 5 ≤ j → j < group_of f.code → (5 < j) ⊎ (j ≤ 5) → IsClear ((circuit_meaning c).group j)
      by j low high (inl past) = first.clear j (omega (arith, past)) high
      by j low high (inr within) = let e : 5 ≡ j = omega (arith, low, within) in subst (λ (k : ℕ). IsClear ((circuit_meaning c).group k)) e clear

  pub inferred : ((g : Fault) → ShowsResets c g → ⊥) → FitsAll c → IsInferred c
  inferred clear fits = record { resets = clear; over = over_clear c fits; legal = legal_clear c fits }

  clear_at : IsInferred c → (k : ℕ) → 5 ≤ k → k ≤ 7 → IsClear ((circuit_meaning c).group k)
  unfolding circuit_meaning
  clear_at h zero low high = absurd (omega arith)
  clear_at h (suc zero) low high = absurd (omega arith)
  clear_at h (suc (suc zero)) low high = absurd (omega arith)
  clear_at h (suc (suc (suc zero))) low high = absurd (omega arith)
  clear_at h (suc (suc (suc (suc zero)))) low high = absurd (omega arith)
  clear_at h (suc (suc (suc (suc (suc zero))))) low high = h.resets
  clear_at h (suc (suc (suc (suc (suc (suc zero)))))) low high = h.over
  clear_at h (suc (suc (suc (suc (suc (suc (suc zero))))))) low high = h.legal
  clear_at h (suc (suc (suc (suc (suc (suc (suc (suc k)))))))) low high = absurd (omega arith)

-- what comes out with the same tree is a stage of the same circuit
pub keeps_fitted : {E : Type 0} → (t : Circuit) (r : Result Circuit E) → IfOk r (λ n. n ≡ t) → IfOk r (λ n. IsInferred (circuit_of t))
    → IfOk r (Passes IsTreeOf IsTreeOf (IsClearOf 5 7) t)
keeps_fitted {E = E} t (Ok n) same clear = keeps_tree {E = E} 5 7 t (Ok n) same (clear_at (circuit_of t) clear)
keeps_fitted t (Err e) same clear = tt
