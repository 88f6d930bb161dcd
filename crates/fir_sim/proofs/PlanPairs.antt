-- The plans of a whole net beside the numbers of their leaves.
-- What each plan says of its leaf gives what the passes ask of it, and the lists that specs of the net speak of.
use Rattle.std.proofs.Common.{◌≡◌, ℕ, zero, suc, ◌+◌, ◌≤◌, List, [], ◌∷◌, Bool, true, false, refl, arith, Some}
use Rattle.std.specs.Prelude.{slice_get, nat_eq, if◌then◌else◌}
use Rattle.std.specs.List.{AllZip}
use Rattle.fir_net.specs.declared.leaf.Role.{Role}
use Rattle.fir_net.specs.declared.leaf.Role.TheVariants as role
use Rattle.fir_net.specs.declared.leaf.Leaf.{Leaf}
use Rattle.fir_net.specs.declared.net.FlatNet.{FlatNet}
use Rattle.fir_net.specs.working.IsNet.{IsLeaf, IsNet}
use Rattle.fir_base.proofs.Elements.{all_there}
use Rattle.fir_net.specs.declared.reads.Read.{Read}
use Rattle.fir_net.specs.working.Settled.{with_bits, input_number, output_number, numbers_by}
use Rattle.fir_tick.specs.declared.plan.InputPlan.{InputPlan}
use Rattle.fir_tick.specs.declared.plan.OutputPlan.{OutputPlan}
use Rattle.fir_tick.specs.working.Plans.{planned, input_plan, output_plan, plans_by}
use Rattle.fir_tick.proofs.Lists.{pairs_joined}

-- a plan for each number
module _ {P : Type 0} (R : P → ℕ → Type 0) (plan : Role → ℕ → ℕ → List P) (number : Role → ℕ → ℕ → List ℕ) where
  pub paired : (ls : List Leaf) (from : ℕ) → ((k : ℕ) (l : Leaf) → slice_get ls k ≡ Some l → AllZip R (plan l.role l.width (from + k)) (number l.role l.width (from + k)))
      → AllZip R (plans_by plan from ls) (numbers_by number from ls)
  paired [] from each = tt
  paired (l ∷ ls) from each =
      let here : from + 0 ≡ from = omega arith in
      pairs_joined R (plan l.role l.width from) (plans_by plan (from + 1) ls) (number l.role l.width from) (numbers_by number (from + 1) ls)
      (rw here at (each zero l refl))
      (paired ls (from + 1) (λ k m e. let place : from + suc k ≡ from + 1 + k = omega arith in rw place at (each (suc k) m e)))

pair_planned : {P : Type 0} → (R : P → ℕ → Type 0) (width : ℕ) (p : P) (k : ℕ) → R p k → AllZip R (planned width p) (with_bits width k)
pair_planned R width p k r = by_test (nat_eq width 0)
  where
    by_test : (b : Bool) → AllZip R (if b then [] else (p ∷ [])) (if b then [] else (k ∷ []))
    by_test true = tt
    by_test false = (r, tt)

pub record IsInput (net : FlatNet) (p : InputPlan) (k : ℕ) : Type 0 where
  pub leaf : Leaf
  pub at : slice_get net.leaves k ≡ Some leaf
  pub kind : leaf.role ≡ role.Input
  pub place : p.leaf ≡ k
  pub width : leaf.width ≡ p.width
  pub narrow : p.width ≤ 128

pub record IsOutput (net : FlatNet) (p : OutputPlan) (k : ℕ) : Type 0 where
  pub leaf : Leaf
  pub at : slice_get net.leaves k ≡ Some leaf
  pub driver : Read
  pub kind : leaf.role ≡ role.Output driver
  pub place : p.leaf ≡ k
  pub width : leaf.width ≡ p.width
  pub narrow : p.width ≤ 128

module _ (net : FlatNet) (whole : IsNet net) where
  module _ (k : ℕ) (l : Leaf) (at : slice_get net.leaves k ≡ Some l) where
    is_leaf : IsLeaf net.leaves net.nodes l
    is_leaf = all_there (IsLeaf net.leaves net.nodes) net.leaves whole.leaves k l at

    one_input : (r : Role) → l.role ≡ r → AllZip (IsInput net) (input_plan r l.width k) (input_number r l.width k)
    one_input role.Input e = pair_planned (IsInput net) l.width (record { leaf = k; width = l.width }) k (record { leaf = l; at = at; kind = e; place = refl; width = refl; narrow = is_leaf.narrow })
    one_input _ e = tt

    one_output : (r : Role) → l.role ≡ r → AllZip (IsOutput net) (output_plan r l.width k) (output_number r l.width k)
    one_output (role.Output d) e = pair_planned (IsOutput net) l.width (record { leaf = k; width = l.width }) k (record { leaf = l; at = at; driver = d; kind = e; place = refl; width = refl; narrow = is_leaf.narrow })
    one_output _ e = tt

  pub inputs_paired : AllZip (IsInput net) (plans_by input_plan 0 net.leaves) (numbers_by input_number 0 net.leaves)
  inputs_paired =
      paired (IsInput net) input_plan input_number net.leaves 0
      (λ k l e. let here : 0 + k ≡ k = omega arith in rw here (one_input k l e l.role refl))

  pub outputs_paired : AllZip (IsOutput net) (plans_by output_plan 0 net.leaves) (numbers_by output_number 0 net.leaves)
  outputs_paired =
      paired (IsOutput net) output_plan output_number net.leaves 0
      (λ k l e. let here : 0 + k ≡ k = omega arith in rw here (one_output k l e l.role refl))
