-- What comes out with the same tree means the same.
use Rattle.std.proofs.Common.{◌≡◌, ℕ, ◌≤◌, Result, Ok, Err, IfOk, ap, subst, arith}
use Rattle.fir_ast.specs.declared.circuit.Circuit.{Circuit}
use Rattle.fir_ast.specs.Circuits.{CircuitTree}
use Rattle.fir_ast.specs.working.Views.{circuit_of}
use Rattle.fir_pass.specs.Groups.{IsClear}
use Rattle.fir_pass.specs.working.Law.{Passes}
use Rattle.fir_meaning.specs.SourceMeaning.{circuit_meaning}
use Rattle.fir_meaning.specs.working.Stages.{IsClearOf, IsTreeOf}
use Rattle.fir_meaning.specs.SourceUndrivenGroup.{undriven_group}
use Rattle.fir_meaning.proofs.KeptTrees.{keeps_tree}

clear_at : (c : CircuitTree) → IsClear (undriven_group c) → (k : ℕ) → 9 ≤ k → k ≤ 9 → IsClear ((circuit_meaning c).group k)
unfolding circuit_meaning
clear_at c h k low high = let e : 9 ≡ k = omega (arith, low, high) in subst (λ (j : ℕ). IsClear ((circuit_meaning c).group j)) e h

-- what comes out with the same tree is a stage of the same circuit
pub keeps_lowered : {E : Type 0} → (t : Circuit) (r : Result Circuit E) → IfOk r (λ n. n ≡ t) → IfOk r (λ n. IsClear (undriven_group (circuit_of t)))
    → IfOk r (Passes IsTreeOf IsTreeOf (IsClearOf 9 9) t)
keeps_lowered {E = E} t (Ok n) same clear = keeps_tree {E = E} 9 9 t (Ok n) same (clear_at (circuit_of t) clear)
keeps_lowered t (Err e) same clear = tt
