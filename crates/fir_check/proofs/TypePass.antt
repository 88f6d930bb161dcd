-- From the faults of types to the first fault of the circuit, and to what the pass keeps.
use Rattle.std.proofs.Common.{◌≡◌, ℕ, ◌≤◌, [], Some, Result, Ok, Err, IfOk, subst, arith}
use Rattle.fir_ast.specs.declared.circuit.Circuit.{Circuit}
use Rattle.fir_ast.specs.Circuits.{CircuitTree}
use Rattle.fir_ast.specs.working.Views.{circuit_of}
use Rattle.fir_ast.specs.Faults.{Fault}
use Rattle.fir_pass.specs.Groups.{first_of, IsClear}
use Rattle.fir_pass.specs.Law.{IsFirst}
use Rattle.fir_pass.specs.working.Law.{Passes}
use Rattle.fir_meaning.specs.TypeGroup.{type_faults}
use Rattle.fir_meaning.specs.SourceMeaning.{circuit_meaning}
use Rattle.fir_meaning.specs.working.Stages.{IsClearOf, IsTreeOf}
use Rattle.fir_meaning.proofs.KeptTrees.{first_in, none_clear, first_at, keeps_tree}
use Rattle.fir_check.proofs.TypeFaultGroups.{circuit_told, first_group}

module _ (c : CircuitTree) where
  -- the first fault of types is the first of the circuit
  pub types_first : (f : Fault) → first_of (type_faults c) ≡ Some f → IsFirst 4 4 (circuit_meaning c) f
  unfolding circuit_meaning
  types_first f h =
      first_at 4 4 4 (circuit_meaning c) f (first_group (type_faults c) f (circuit_told c) h) (omega arith) (omega arith) h (first_in (type_faults c) f h)
      (λ j low high. absurd (omega arith))

  clear_at : type_faults c ≡ [] → (k : ℕ) → 4 ≤ k → k ≤ 4 → IsClear ((circuit_meaning c).group k)
  unfolding circuit_meaning
  clear_at h k low high =
      let e : 4 ≡ k = omega arith in
      subst (λ (j : ℕ). IsClear ((circuit_meaning c).group j)) e (none_clear (type_faults c) h)

-- what comes out with the same tree is a stage of the same circuit
pub keeps_typed : {E : Type 0} → (t : Circuit) (r : Result Circuit E) → IfOk r (λ n. n ≡ t) → IfOk r (λ n. type_faults (circuit_of t) ≡ [])
    → IfOk r (Passes IsTreeOf IsTreeOf (IsClearOf 4 4) t)
keeps_typed {E = E} t (Ok n) same clear = keeps_tree {E = E} 4 4 t (Ok n) same (clear_at (circuit_of t) clear)
keeps_typed t (Err e) same clear = tt
