-- A pass that leaves the tree as it is: which fault of its groups is the first, and that what it gives is a stage of the same circuit.
use Rattle.std.proofs.Common.{◌≡◌, ℕ, ◌<◌, ◌≤◌, List, [], ◌∷◌, Some, Result, Ok, Err, IfOk, sym, ap, ◌∙◌, subst, inl, arith}
use Rattle.std.proofs.lemmas.Option.{none-some, same_Some}
use Rattle.fir_base.specs.Lists.{In}
use Rattle.fir_base.specs.declared.refused.Refused.{Refused}
use Rattle.fir_base.specs.declared.refused.Refused.TheVariants as refused
use Rattle.fir_ast.specs.Circuits.{CircuitTree}
use Rattle.fir_ast.specs.declared.circuit.Circuit.{Circuit}
use Rattle.fir_ast.specs.working.Views.{circuit_of}
use Rattle.fir_ast.specs.Faults.{Fault}
use Rattle.fir_pass.specs.Groups.{group_of, first_of, in_order, IsClear}
use Rattle.fir_pass.specs.Meaning.{Meaning}
use Rattle.fir_pass.specs.Law.{IsFirst}
use Rattle.fir_pass.specs.working.Law.{IfFault, Passes, Reports}
use Rattle.fir_meaning.specs.working.Stages.{IsClearOf, IsFirstOf, IsTreeOf}

pub first_in : (fs : List Fault) (f : Fault) → first_of fs ≡ Some f → In fs f
first_in [] f h = absurd (none-some f h)
first_in (g ∷ fs) f h = inl (same_Some g f h)

pub none_clear : (fs : List Fault) → fs ≡ [] → IsClear (in_order fs)
none_clear fs e = λ f m. subst (λ (l : List Fault). In l f) e m

-- a fault of a group is the first, where the groups before it are clear
pub first_at : (from upto k : ℕ) (m : Meaning) (f : Fault) → group_of f.code ≡ k → from ≤ k → k ≤ upto → (m.group k).tells f → (m.group k).shows f
    → ((j : ℕ) → from ≤ j → j < k → IsClear (m.group j)) → IsFirst from upto m f
first_at from upto k m f e above below told stands clear = record {
  low = omega arith;
  high = omega arith;
  told = subst (λ (j : ℕ). (m.group j).tells f) (sym e) told;
  stands = subst (λ (j : ℕ). (m.group j).shows f) (sym e) stands;
  clear = λ j low high. clear j low (omega arith);
}

-- a pass whose result has the tree that it was given
pub keeps_tree : {E : Type 0} → (from upto : ℕ) (t : Circuit) (r : Result Circuit E) → IfOk r (λ n. n ≡ t) → IfOk r (λ n. IsClearOf from upto (circuit_of t))
    → IfOk r (Passes IsTreeOf IsTreeOf (IsClearOf from upto) t)
keeps_tree from upto t (Ok n) same clear =
    λ c is. (ap circuit_of same ∙ is, subst (λ (x : CircuitTree). IsClearOf from upto x) is clear)
keeps_tree from upto t (Err e) same clear = tt

-- the fault that it reports
pub reports_first : {T F : Type 0} → (from upto : ℕ) (t : Circuit) (fault : F → Fault) (r : Result T (Refused F))
    → IfFault r (λ f. IsFirstOf from upto (circuit_of t) (fault f)) → IfFault r (Reports IsTreeOf (λ c f. IsFirstOf from upto c (fault f)) t)
reports_first from upto t fault (Ok x) first = tt
reports_first from upto t fault (Err (refused.Fault f)) first = λ c is. subst (λ (x : CircuitTree). IsFirstOf from upto x (fault f)) is first
reports_first from upto t fault (Err refused.Memory) first = tt
