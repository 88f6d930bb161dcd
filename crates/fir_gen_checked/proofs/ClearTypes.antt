-- No fault of types or flows stands in the circuit.
use Rattle.std.proofs.Common.{◌≡◌, ℕ, ◌≤◌, List, [], refl}
use Rattle.fir_ast.specs.declared.place.Place.{Place}
use Rattle.fir_ast.specs.Circuits.{ModuleTree}
use Rattle.fir_meaning.specs.Visibility.{behind}
use Rattle.fir_meaning.specs.TypeGroup.{type_faults, type_faults_in, type_faults_in_block}
use Rattle.fir_gen.specs.working.GenTree.{body, gen_tree}
use Rattle.fir_gen_checked.proofs.NoFaults.{both_empty}
use Rattle.fir_gen_checked.proofs.DeclaredRegisters.{behind_head}
use Rattle.fir_gen_checked.proofs.BodyWalk.{of_body}
use Rattle.fir_gen_checked.proofs.KnownRegisters.{WhereKnown, all_known}

module _ (at : ℕ → ℕ → Place) (modules : List ModuleTree) where
  where_known : WhereKnown at modules (λ before s. type_faults_in modules before s ≡ [])
  where_known = record {
    a_register = λ before k clocked resets. rw (clocked, resets) refl;
    the_first = λ before own input. rw (own, input) refl;
    a_step = λ before j input earlier own. rw (input, earlier, own) refl;
    the_last = λ before n output own. rw (output, own) refl;
  }

  body_clear : (n : ℕ) → 1 ≤ n → n ≤ 4096 → type_faults_in_block modules (behind_head at) (body at n) ≡ []
  body_clear n some small =
      of_body at (λ before b. type_faults_in_block modules before b ≡ []) (λ before s. type_faults_in modules before s ≡ [])
      (λ before s b h g. both_empty (type_faults_in modules before s) (type_faults_in_block modules (behind before s) b) h g) n
      (all_known at modules _ where_known n some small) refl

pub types_clear : (at : ℕ → ℕ → Place) (n : ℕ) → 1 ≤ n → n ≤ 4096 → type_faults (gen_tree at n) ≡ []
types_clear at n some small =
    let modules = (gen_tree at n).modules in
    both_empty (type_faults_in_block modules (behind_head at) (body at n)) [] (body_clear at modules n some small) refl
